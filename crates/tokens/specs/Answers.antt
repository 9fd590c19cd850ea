-- What a reader of a file answers: a value with the place after it, or a fault with its place.
use Rattle.std.specs.Prelude.{ℕ, Ok, Err, Result}
use Rattle.tokens.specs.declared.fault.FaultKind.{FaultKind}
use Rattle.tokens.specs.declared.fault.Read.{Read}
use Rattle.tokens.specs.declared.fault.TokenFault.{TokenFault}

-- the answer of a reader of values of A
abbrev pub Answer : Type 0 → Type 0
Answer A = Result (Read A) TokenFault

-- the value v, and n is the place after it
abbrev pub got : {A : Type 0} → A → ℕ → Answer A
got v n = Ok (record { value = v; next = n })

-- a fault of the kind k at the place p
abbrev pub fault : {A : Type 0} → FaultKind → ℕ → Answer A
fault k p = Err (record { kind = k; place = p })

-- first one reader, then another from where that stopped
abbrev pub then : {A B : Type 0} → Answer A → (A → ℕ → Answer B) → Answer B
then (Ok x) f = f x.value x.next
then (Err e) f = Err e

-- an answer with what its value shows, as the bytes behind a reference
abbrev pub shown : {X A : Type 0} → (X → A) → Answer X → Answer A
shown g (Ok x) = Ok (record { value = g x.value; next = x.next })
shown g (Err e) = Err e

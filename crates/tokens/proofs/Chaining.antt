-- The steps of code that goes on by `?`, against a definition that goes on by `then` and chooses by `cond`.
use Rattle.std.proofs.Common.{◌≡◌, ℕ, Bool, true, false, cond, IsErrAnd, Ok, Err, Result, refl, ap, ◌∙◌}
use Rattle.std.proofs.lemmas.Result.{err_from_is_err_and}
use Rattle.tokens.specs.declared.fault.FaultKind.{FaultKind}
use Rattle.tokens.specs.declared.fault.Read.{Read}
use Rattle.tokens.specs.declared.fault.TokenFault.{TokenFault}
use Rattle.tokens.specs.Answers.{Answer, got, fault, then}

-- the first reader read x, and what follows answers r
pub going : {A B : Type 0} {x : Read A} {a : Answer A} {r : Answer B} (f : A → ℕ → Answer B) → Ok x ≡ a → r ≡ f x.value x.next → r ≡ then a f
going f e h = h ∙ ap (λ y. then y f) e

-- the first reader met the fault that r is
pub ending : {A B : Type 0} {x : TokenFault} {a : Answer A} {r : Answer B} (f : A → ℕ → Answer B) → Err x ≡ a → r ≡ Err x → r ≡ then a f
ending f e h = h ∙ ap (λ y. then y f) e

-- a value and the place after it
pub is_got : {B : Type 0} {y : Read B} {w : B} {n : ℕ} → y.value ≡ w → y.next ≡ n → Ok y ≡ got w n
is_got {y = y} {w = w} v n = ap (λ w. got w y.next) v ∙ ap (λ m. got w m) n

-- the first reader read x, and what is made of its value stands at the same place
pub mapped : {A B : Type 0} {x : Read A} {y : Read B} {a : Answer A} (g : A → B) → Ok x ≡ a → y.value ≡ g x.value → y.next ≡ x.next → Ok y ≡ then a (λ v n. got (g v) n)
mapped {x = x} {y = y} g e v n = going _ e (is_got v n)

-- the test came out true
pub first_way : {A : Type 0} {b : Bool} {x r : A} (y : A) → true ≡ b → r ≡ x → r ≡ cond b x y
first_way {x = x} y e h = h ∙ ap (λ c. cond c x y) e

-- the test came out false
pub other_way : {A : Type 0} {b : Bool} {y r : A} (x : A) → false ≡ b → r ≡ y → r ≡ cond b x y
other_way {y = y} x e h = h ∙ ap (λ c. cond c x y) e

-- what the exit of a `?` returns
pub exited : {A : Type 0} (r : Result A TokenFault) {e : TokenFault} → IsErrAnd r (λ d. d ≡ e) → r ≡ Err e
exited r h = let p = err_from_is_err_and r h in p.1 ∙ ap Err p.2

-- equal values that were read have equal parts
pub same_got : {A : Type 0} {v w : A} {m n : ℕ} → ◌≡◌ {A = Answer A} (got v m) (got w n) → (v ≡ w) × (m ≡ n)
same_got {A = A} {v = v} {w = w} {m = m} {n = n} e =
    let p : ◌≡◌ {A = Read A} (record { value = v; next = m }) (record { value = w; next = n }) = cc in
    (ap (λ (x : Read A). x.value) p, ap (λ (x : Read A). x.next) p)

-- equal faults are of one kind
pub same_fault : {A : Type 0} {j k : FaultKind} {p q : ℕ} → ◌≡◌ {A = Answer A} (fault j p) (fault k q) → j ≡ k
same_fault {j = j} {k = k} {p = p} {q = q} e =
    let d : ◌≡◌ {A = TokenFault} (record { kind = j; place = p }) (record { kind = k; place = q }) = cc in
    ap (λ (x : TokenFault). x.kind) d

-- no value is a fault
pub not_fault : {A : Type 0} {P : Type 0} {x : Read A} {e : TokenFault} → ◌≡◌ {A = Answer A} (Ok x) (Err e) → P
not_fault e = absurd (cc)

-- a value comes only where the test came out true
pub passed : {A : Type 0} (b : Bool) {x : Read A} (a : Answer A) (d : TokenFault) → Ok x ≡ cond b a (Err d) → (b ≡ true) × (Ok x ≡ a)
passed true a d e = (refl, e)
passed false a d e = not_fault e

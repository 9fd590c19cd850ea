-- What holds of the value that a reader gives, wherever it stops.
use Rattle.std.proofs.Common.{◌≡◌, ℕ, Bool, true, false, cond, List, Ok, Err, sym, refl, subst}
use Rattle.tokens.specs.declared.fault.Read.{Read}
use Rattle.tokens.specs.declared.fault.TokenFault.{TokenFault}
use Rattle.tokens.specs.Answers.{Answer, got, then}
use Rattle.tokens.specs.Readers.{Made}
use Rattle.tokens.proofs.Chaining.{same_got, not_fault}

-- P holds of the value that an answer gives
pub record Gives {A : Type 0} (r : Answer A) (P : A → Type 0) : Type 0 where
  pub on : (x : Read A) → Ok x ≡ r → P x.value

-- a value that is at hand
pub gives_got : {A : Type 0} {P : A → Type 0} (v : A) (n : ℕ) → P v → Gives (got v n) P
gives_got {A = A} {P = P} v n p = record { on = λ x e. subst P (sym (same_got e).0) p }

-- a fault gives nothing
pub gives_fault : {A : Type 0} {P : A → Type 0} (d : TokenFault) → Gives (Err d) P
gives_fault d = record { on = λ x g. not_fault g }

-- two readers in turn
pub gives_then : {A B : Type 0} {P : B → Type 0} (a : Answer A) (f : A → ℕ → Answer B) → ((x : Read A) → Ok x ≡ a → Gives (f x.value x.next) P) → Gives (then a f) P
gives_then (Ok x) f k = k x refl
gives_then (Err e) f k = gives_fault e

-- one of two readers, by a test
pub gives_cond : {A : Type 0} {P : A → Type 0} (b : Bool) {x y : Answer A} → (b ≡ true → Gives x P) → (b ≡ false → Gives y P) → Gives (cond b x y) P
gives_cond true p q = p refl
gives_cond false p q = q refl

-- of what is made, only what holds of the value
pub gives_of : {A : Type 0} {file : List ℕ} {least : ℕ} {P : A → Type 0} {r : Answer A} → Made file least r (λ v n. P v) → Gives r P
gives_of m = record { on = λ x e. (m.on x e).2 }

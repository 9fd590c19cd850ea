-- What readers make: progress in the file, and what holds of the value.
use Rattle.std.proofs.Common.{◌≡◌, ℕ, suc, ◌≤◌, Bool, true, false, cond, List, length, IfOk, Ok, Err, refl, ◌∙◌, subst, arith}
use Rattle.tokens.specs.declared.fault.Read.{Read}
use Rattle.tokens.specs.declared.fault.TokenFault.{TokenFault}
use Rattle.tokens.specs.Answers.{Answer, got, then}
use Rattle.tokens.specs.Readers.{Made}

-- a fault makes nothing
pub made_fault : {A : Type 0} {file : List ℕ} {least : ℕ} {P : A → ℕ → Type 0} (e : TokenFault) → Made file least (Err e) P
made_fault e = record { on = λ x h. absurd (cc) }

-- a value that is at hand
pub made_got : {A : Type 0} {file : List ℕ} {least : ℕ} {P : A → ℕ → Type 0} (v : A) (n : ℕ) → least ≤ n → n ≤ length file → P v n → Made file least (got v n) P
made_got {P = P} v n l h p =
    record { on = λ x e. let q : ◌≡◌ {A = Read _} (record { value = v; next = n }) x = cc in let m : x.next ≡ n = cc in (omega arith, omega arith, subst (λ y. P y.value y.next) q p) }

-- one reader after another, from where the first stopped
pub made_then : {A B : Type 0} {file : List ℕ} {least : ℕ} {Q : A → ℕ → Type 0} {P : B → ℕ → Type 0} {a : Answer A} (f : A → ℕ → Answer B) → Made file least a Q → ((v : A) (n : ℕ) → least ≤ n → n ≤ length file → Q v n → Made file n (f v n) P) → Made file least (then a f) P
made_then {A = A} {B = B} {file = file} {least = least} {Q = Q} {P = P} {a = a} f p k = by a p
  where
    by : (r : Answer A) → Made file least r Q → Made file least (then r f) P
    by (Ok r) q =
        let b = q.on r refl in
        record { on = λ x e. let m = (k r.value r.next b.0 b.1 b.2).on x e in (omega (arith, m.0, b.0), m.1, m.2) }
    by (Err e) q = made_fault e

-- one of two readers
pub made_cond : {A : Type 0} {file : List ℕ} {least : ℕ} {P : A → ℕ → Type 0} (b : Bool) {x y : Answer A} → (b ≡ true → Made file least x P) → (b ≡ false → Made file least y P) → Made file least (cond b x y) P
made_cond true p q = p refl
made_cond false p q = q refl

-- less may be said
pub made_weaken : {A : Type 0} {file : List ℕ} {low least : ℕ} {P Q : A → ℕ → Type 0} {r : Answer A} → low ≤ least → ((v : A) (n : ℕ) → n ≤ length file → P v n → Q v n) → Made file least r P → Made file low r Q
made_weaken l f p = record { on = λ x e. let m = p.on x e in (omega (arith, m.0), m.1, f _ _ m.1 m.2) }

-- a reader that goes on does not go back
pub made_less : {A : Type 0} {file : List ℕ} {at : ℕ} {P : A → ℕ → Type 0} {r : Answer A} → Made file (suc at) r P → Made file at r P
made_less p = made_weaken (omega arith) (λ v n h q. q) p

-- the same of an equal answer
pub made_is : {A : Type 0} {file : List ℕ} {least : ℕ} {P : A → ℕ → Type 0} {r s : Answer A} → r ≡ s → Made file least s P → Made file least r P
made_is q p = record { on = λ x e. p.on x (e ∙ q) }

-- what code promises of a result that is such an answer
pub made_by : {A : Type 0} {file : List ℕ} {least : ℕ} {P : A → ℕ → Type 0} (Q : Read A → Type 0) {r s : Answer A} → r ≡ s → Made file least s P → ((x : Read A) → least ≤ x.next → x.next ≤ length file → P x.value x.next → Q x) → IfOk r Q
made_by {A = A} {file = file} {least = least} {P = P} Q {r = r} q p k = by r (made_is q p)
  where
    by : (r : Answer A) → Made file least r P → IfOk r Q
    by (Ok x) m = let b = m.on x refl in k x b.0 b.1 b.2
    by (Err e) m = tt

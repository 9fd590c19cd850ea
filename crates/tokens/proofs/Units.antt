-- Lemmas on the unit.
use Rattle.std.proofs.Common.{◌≡◌, ℕ, ◌/◌, ◌%◌, ◌<◌, ◌≤◌, true, eqb, List, length, IfOk, ⊎_elim, mod-eq_of_lt, one-mul, div-le_self, arith}
use Rattle.std.proofs.lemmas.Nat.{le-div}
use Rattle.std.proofs.lemmas.Bool.{and_parts, leb-true, eqb-true, cases_lt}
use Rattle.tokens.specs.Answers.{Answer, then}
use Rattle.tokens.specs.Chains.{largest, unsigned}
use Rattle.tokens.specs.Encodings.{FitsUnit}
use Rattle.tokens.specs.Laws.{UnitMade}
use Rattle.tokens.specs.Readers.{Made, GoesOn}
use Rattle.tokens.specs.Units.{whole_type, reciprocal_type, ratio_type, is_whole, quotient, unit}
use Rattle.tokens.proofs.ChainLaws.{unsigned_made}
use Rattle.tokens.proofs.Mades.{made_got, made_fault, made_then, made_cond, made_less, made_by}

-- what the test of a quotient tells
pub whole_parts : (p q : ℕ) → is_whole p q ≡ true → (1 ≤ q) × (1 ≤ p) × (p % q ≡ 0)
whole_parts p q e =
    let a = and_parts _ _ e in
    let b = and_parts _ _ a.0 in
    (leb-true _ _ b.0, leb-true _ _ b.1, eqb-true _ _ a.1)

-- a quotient that is whole is at least 1
whole_range : (p q : ℕ) → is_whole p q ≡ true → (1 ≤ p / q) × (p / q ≤ p)
whole_range p q e =
    let t : (1 ≤ q) × (1 ≤ p) × (p % q ≡ 0) = whole_parts p q e in
    let l : q ≤ p = ⊎_elim (λ (s : p < q). absurd (omega (arith, mod-eq_of_lt s))) (λ (s : q ≤ p). s) (cases_lt p q) in
    (le-div 1 p q t.0 (rw one-mul l), div-le_self p q)

-- what is made of a quotient
quotient_made : (file : List ℕ) (at p q n : ℕ) → p ≤ largest → n ≤ length file → Made file n (quotient at p q n) (λ v n. FitsUnit v)
quotient_made file at p q n s h =
    made_cond (is_whole p q)
    (λ e. let w = whole_range p q e in made_got (p / q) n (omega arith) h (w.0, omega arith))
    (λ e. made_fault _)

-- an integer inside the unit, from where the one before it stopped
inner : {P : ℕ → ℕ → Type 0} (file : List ℕ) (n : ℕ) (f : ℕ → ℕ → Answer ℕ) → ((v m : ℕ) → m ≤ length file → v ≤ largest → Made file m (f v m) P) → Made file n (then (unsigned file n) f) P
inner file n f k = made_then f (made_less (unsigned_made file n)) (λ v m l h p. k v m h p)

-- what is made of units
pub unit_made : UnitMade
unfolding unit
unit_made file at =
    made_then _ (unsigned_made file at) (λ shape n l h _.
    made_cond (eqb shape whole_type) (λ _. inner file n _ (λ p m k s. quotient_made file at p 1 m s k))
    (λ _. made_cond (eqb shape reciprocal_type) (λ _. inner file n _ (λ q m k s. quotient_made file at 1 q m (omega arith) k))
    (λ _. made_cond (eqb shape ratio_type) (λ _. inner file n _ (λ p m _ s. inner file m _ (λ q i k _. quotient_made file at p q i s k)))
    (λ _. made_fault _))))

-- what the reader of a unit promises
pub unit_within : (file : List ℕ) (at : ℕ) (r : Answer ℕ) → r ≡ unit file at → IfOk r (λ x. (1 ≤ x.value) × (x.value ≤ largest) × GoesOn file at x)
unit_within file at r e = made_by _ e (unit_made file at) (λ x l h p. (p.0, p.1, (l, h)))

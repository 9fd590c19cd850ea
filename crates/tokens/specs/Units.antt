-- The unit: a real number that has to be a whole number of at least 1.
use Rattle.std.specs.Prelude.{ℕ, ◌/◌, ◌%◌, Bool, cond, ◌&&◌, List, ◌==◌, nat_le}
use Rattle.tokens.specs.declared.fault.FaultKind.TheVariants.{BadUnit}
use Rattle.tokens.specs.Answers.{Answer, got, fault, then}
use Rattle.tokens.specs.Chains.{unsigned}

-- the type of a real number that is a whole number
abbrev pub whole_type : ℕ
whole_type = 0

-- the type of one that is 1 over a whole number
abbrev pub reciprocal_type : ℕ
reciprocal_type = 2

-- the type of one that is a whole number over another
abbrev pub ratio_type : ℕ
ratio_type = 4

-- p / q is a whole number of at least 1
abbrev pub is_whole : ℕ → ℕ → Bool
is_whole p q = (nat_le 1 q && nat_le 1 p) && p % q == 0

-- the unit p / q, where n is the place after it
abbrev pub quotient : (at p q n : ℕ) → Answer ℕ
quotient at p q n = cond (is_whole p q) (got (p / q) n) (fault BadUnit at)

-- a unit of one of these types, whose integers stand from the place n
abbrev pub unit_from : List ℕ → (at shape n : ℕ) → Answer ℕ
unit_from file at shape n =
    cond (shape == whole_type) (then (unsigned file n) λ p n. quotient at p 1 n)
    (cond (shape == reciprocal_type) (then (unsigned file n) λ q n. quotient at 1 q n)
    (cond (shape == ratio_type) (then (unsigned file n) λ p n. then (unsigned file n) λ q n. quotient at p q n)
    (fault BadUnit at)))

-- the unit at the place `at`
unfoldable pub unit : List ℕ → ℕ → Answer ℕ
unit file at = then (unsigned file at) λ shape n. unit_from file at shape n

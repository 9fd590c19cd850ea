-- Signed integers and displacements.
use Rattle.std.specs.Prelude.{ℕ, ◌/◌, ◌%◌, ◌≤◌, Bool, cond, List, [], ◌∷◌, ℤ, pos, neg_ℤ, unsigned_abs, ◌==◌, slice_index_or}
use Rattle.tokens.specs.Answers.{Answer, got, then}
use Rattle.tokens.specs.Chains.{largest, unsigned}

-- the greatest size of a signed integer or of a component of a displacement
abbrev pub largest_size : ℕ
largest_size = largest / 2

-- both components of a displacement are at most this in size
abbrev pub Sizes : ℕ → ℤ × ℤ → Type 0
Sizes s z = (unsigned_abs z.0 ≤ s) × (unsigned_abs z.1 ≤ s)

-- bit 0 is not set
abbrev pub even : ℕ → Bool
even v = v % 2 == 0

-- bit 0 is the sign, and the others are the size; minus zero is zero
abbrev pub signed_of : ℕ → ℤ
signed_of v = cond (even v) (pos (v / 2)) (neg_ℤ (pos (v / 2)))

-- the signed integer at the place `at`
unfoldable pub signed : List ℕ → ℕ → Answer ℤ
signed file at = then (unsigned file at) λ v n. got (signed_of v) n

-- how many directions there are along the axes
abbrev pub straight_ways : ℕ
straight_ways = 4

-- how many directions there are in all
abbrev pub all_ways : ℕ
all_ways = 8

-- m steps east, north, west, south, north-east, north-west, south-west, south-east
abbrev pub toward : ℕ → ℤ → ℤ × ℤ
toward d m =
    slice_index_or
    ((m, pos 0) ∷ (pos 0, m) ∷ (neg_ℤ m, pos 0) ∷ (pos 0, neg_ℤ m) ∷ (m, m) ∷ (neg_ℤ m, m) ∷ (neg_ℤ m, neg_ℤ m) ∷ (m, neg_ℤ m) ∷ [])
    d
    (pos 0, pos 0)

-- the low three bits are one of eight directions, and the others are the number of steps
abbrev pub octangular : ℕ → ℤ × ℤ
octangular v = toward (v % all_ways) (pos (v / all_ways))

-- the low two bits are one of four directions, and the others are the number of steps
abbrev pub straight : ℕ → ℤ × ℤ
straight v = toward (v % straight_ways) (pos (v / straight_ways))

-- the 2-delta at the place `at`
unfoldable pub two_delta : List ℕ → ℕ → Answer (ℤ × ℤ)
two_delta file at = then (unsigned file at) λ v n. got (straight v) n

-- the 3-delta at the place `at`
unfoldable pub three_delta : List ℕ → ℕ → Answer (ℤ × ℤ)
three_delta file at = then (unsigned file at) λ v n. got (octangular v) n

-- the g-delta at the place `at`: bit 0 of the first integer says whether a second one follows, for y
unfoldable pub g_delta : List ℕ → ℕ → Answer (ℤ × ℤ)
g_delta file at =
    then (unsigned file at) λ v n.
    cond (even v) (got (octangular (v / 2)) n) (then (signed file n) λ y n. got (signed_of (v / 2), y) n)

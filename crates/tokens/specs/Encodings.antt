-- The bytes that are written for values.
use Rattle.std.specs.Prelude.{◌≡◌, ℕ, zero, suc, ◌+◌, ◌-◌, ◌*◌, ◌/◌, ◌%◌, ◌≤◌, true, cond, List, [], ◌∷◌, ◌++◌, length, ℤ, pos, negsuc, nat_lt}
use Rattle.tokens.specs.declared.text.StringRule.{StringRule}
use Rattle.tokens.specs.Chains.{largest, chain_bytes, radix}
use Rattle.tokens.specs.Texts.{obeys}
use Rattle.tokens.specs.Units.{whole_type}

-- the most bytes that the shortest chain for an integer of a file has
abbrev pub short_bytes : ℕ
short_bytes = 7

-- how many values a byte has
abbrev pub byte_values : ℕ
byte_values = 256

-- the shortest chain for n, if that has at most `more` bytes and one
abbrev pub shortest_in : (more : ℕ) → ℕ → List ℕ
shortest_in zero n = n ∷ []
shortest_in (suc more) n = cond (nat_lt n radix) (n ∷ []) ((n % radix + radix) ∷ shortest_in more (n / radix))

-- the shortest chain for n, of at most ten bytes
unfoldable pub shortest : ℕ → List ℕ
shortest n = shortest_in (chain_bytes - 1) n

-- bit 0 is the sign, and the others are the size
abbrev pub code_of : ℤ → ℕ
code_of (pos m) = 2 * m
code_of (negsuc m) = 2 * (m + 1) + 1

-- a signed integer
abbrev pub signed_bytes : ℤ → List ℕ
signed_bytes z = shortest (code_of z)

-- the signed integers that a file can hold
abbrev pub FitsSigned : ℤ → Type 0
FitsSigned z = code_of z ≤ largest

-- a g-delta of two integers, the first with bit 0 set
abbrev pub g_delta_bytes : ℤ × ℤ → List ℕ
g_delta_bytes z = shortest (2 * code_of z.0 + 1) ++ shortest (code_of z.1)

-- the displacements that a g-delta of two integers can hold
abbrev pub FitsDelta : ℤ × ℤ → Type 0
FitsDelta z = (2 * code_of z.0 + 1 ≤ largest) × (code_of z.1 ≤ largest)

-- a string: its length, then its text
abbrev pub text_bytes : List ℕ → List ℕ
text_bytes t = shortest (length t) ++ t

-- the texts that a string of this rule can hold
abbrev pub FitsText : StringRule → List ℕ → Type 0
FitsText rule t = (length t ≤ largest) × (obeys rule t ≡ true)

-- a unit, as a whole number
abbrev pub unit_bytes : ℕ → List ℕ
unit_bytes n = whole_type ∷ shortest n

-- the units that a file can hold
abbrev pub FitsUnit : ℕ → Type 0
FitsUnit n = (1 ≤ n) × (n ≤ largest)

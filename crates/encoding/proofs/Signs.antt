-- A signed integer that a file can hold fits 64 bits.
use Rattle.std.proofs.Common.{◌≡◌, ℕ, ℤ, pos, negsuc, ap, ◌∙◌, arith, w64, SFits, to_z, of_z}
use Rattle.std.proofs.lemmas.Int.{to_z-of_z, ints}
use Rattle.tokens.specs.Encodings.{code_of, FitsSigned, FitsDelta}

-- the integer fits
fits_bits : (z : ℤ) → FitsSigned z → SFits w64 z
fits_bits (pos m) h = record { sfits = omega (arith, ints) }
fits_bits (negsuc m) h = record { sfits = omega (arith, ints) }

-- so it is what its bits say
pub same_sign : (z : ℤ) → FitsSigned z → to_z w64 (of_z w64 z) ≡ z
same_sign z h = to_z-of_z w64 z (fits_bits z h)

-- the first component of a displacement is such an integer
fits_first : (x y : ℤ) → FitsDelta (x, y) → FitsSigned x
fits_first x y h = omega (arith, h.0)

-- the code of the first component
pub first_code : (z : ℤ × ℤ) (k : ℕ) → FitsDelta z → k ≡ code_of (to_z w64 (of_z w64 z.0)) → k ≡ code_of z.0
first_code z k h e = e ∙ ap code_of (same_sign z.0 (fits_first z.0 z.1 h))

-- A product of a natural number and an integer.
use Rattle.std.proofs.Common.{◌≡◌, ℕ, suc, ◌*◌, ◌^◌, ◌<◌, ◌≤◌, ℤ, pos, negsuc, ◌*ℤ◌, nat_abs, ◌≤ℤ◌, sym, refl, ap, ◌∙◌, ap₂, subst, mul-le-mul_right, mul-le-mul, arith, w64, SFits, to_z, of_z}
use mir.Syntax.{w128}
use Rattle.std.specs.Int.{int_min, int_max}
use Rattle.std.proofs.lemmas.Int.{ints, clamps, to_z-of_z}
use Rattle.tokens.specs.Chains.{largest}
use Rattle.tokens.proofs.Deltas.{size_neg}
use Rattle.repetitions.specs.Plans.{most_copies}

-- the size of a product is the product of the sizes
pub size_mul : (k : ℕ) (z : ℤ) → nat_abs (pos k *ℤ z) ≡ k * nat_abs z
size_mul k (pos n) = refl
size_mul k (negsuc n) = size_neg (k * suc n)

-- a part of a product lies between the origin and the product
pub part_low : (i k : ℕ) (z : ℤ) → i ≤ k → int_min (pos k *ℤ z) (pos 0) ≤ℤ (pos i *ℤ z)
part_low i k (pos n) h = omega (arith, ints, clamps)
part_low i k (negsuc n) h = let m = mul-le-mul_right (suc n) h in omega (arith, ints, clamps)

pub part_high : (i k : ℕ) (z : ℤ) → i ≤ k → (pos i *ℤ z) ≤ℤ int_max (pos k *ℤ z) (pos 0)
part_high i k (pos n) h = let m = mul-le-mul_right n h in omega (arith, ints, clamps)
part_high i k (negsuc n) h = omega (arith, ints, clamps)

-- as many times a space as there are copies at most
module _ (k : ℕ) (z : ℤ) (h : k ≤ most_copies) (n : nat_abs z ≤ largest) where
  pub mul_small : nat_abs (pos k *ℤ z) ≤ 2 ^ 60
  mul_small = let m = mul-le-mul h n in omega (arith, size_mul k z, m)

  fits : SFits w64 (pos k *ℤ z)
  fits = omega (arith, ints, mul_small)

  near_fits : SFits w64 z
  near_fits = omega (arith, ints)

  inner : to_z w64 k *ℤ to_z w64 (of_z w64 z) ≡ pos k *ℤ z
  inner =
      let e : to_z w64 k ≡ pos k = omega (arith, ints) in
      ap (λ y. y *ℤ to_z w64 (of_z w64 z)) e ∙ ap (λ y. pos k *ℤ y) (to_z-of_z w64 z near_fits)

  pub mul_room : SFits w64 (to_z w64 k *ℤ to_z w64 (of_z w64 z))
  mul_room = subst (SFits w64) (sym inner) fits

  pub mul_back : to_z w64 (of_z w64 (to_z w64 k *ℤ to_z w64 (of_z w64 z))) ≡ pos k *ℤ z
  mul_back = ap (λ y. to_z w64 (of_z w64 y)) inner ∙ to_z-of_z w64 (pos k *ℤ z) fits

-- any number of 64 bits times any integer of 64 bits, both widened to 128
module _ (k : ℕ) (z a b : ℤ) (h : k < 2 ^ 64) (n : SFits w64 z) (e : a ≡ pos k) (f : b ≡ to_z w64 (of_z w64 z)) where
  wide_fits : SFits w128 (pos k *ℤ z)
  wide_fits =
      let a : k ≤ 18446744073709551615 = omega arith in
      let b : nat_abs z ≤ 9223372036854775808 = omega (arith, ints) in
      let m = mul-le-mul a b in
      omega (arith, ints, size_mul k z, m)

  wide_inner : to_z w128 (of_z w128 a) *ℤ to_z w128 (of_z w128 b) ≡ pos k *ℤ z
  wide_inner =
      let x : to_z w128 (of_z w128 (pos k)) ≡ pos k = omega (arith, ints) in
      let y : to_z w128 (of_z w128 (to_z w64 (of_z w64 z))) ≡ z = omega (arith, ints) in
      ap₂ (λ a b. to_z w128 (of_z w128 a) *ℤ to_z w128 (of_z w128 b)) e f ∙ ap₂ (λ a b. a *ℤ b) x y

  pub wide_room : SFits w128 (to_z w128 (of_z w128 a) *ℤ to_z w128 (of_z w128 b))
  wide_room = subst (SFits w128) (sym wide_inner) wide_fits

  pub wide_back : to_z w128 (of_z w128 (to_z w128 (of_z w128 a) *ℤ to_z w128 (of_z w128 b))) ≡ pos k *ℤ z
  wide_back = ap (λ y. to_z w128 (of_z w128 y)) wide_inner ∙ to_z-of_z w128 (pos k *ℤ z) wide_fits

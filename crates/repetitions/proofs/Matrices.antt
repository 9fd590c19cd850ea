-- The copies of a matrix, one by one.
use Rattle.std.proofs.Common.{◌≡◌, ℕ, zero, suc, ◌+◌, ◌*◌, ◌<◌, ◌≤◌, ◌∷◌, ◌++◌, length, pos, ◌+ℤ◌, ◌*ℤ◌, sym, ap, subst, ⊎_elim, mul-zero, mul-suc, arith, length-append}
use lib.IntN.{zero-*ℤ}
use Rattle.std.specs.List.{AllByRecursion as Every}
use Rattle.std.proofs.lemmas.List.FromFn.{length-map-range_with_len}
use Rattle.std.proofs.ByRecursion.{All-append}
use Rattle.std.proofs.lemmas.Bool.{cases_lt}
use Rattle.bounds.specs.declared.point.Point.{Point}
use Rattle.bounds.specs.Points.{origin, Rooted}
use Rattle.bounds.proofs.Fitting.{all_parts}
use Rattle.repetitions.specs.Offsets.{copy_at, row_from, rows_from, matrix}

module _ (across up : Point) where
  -- copy (0, 0) is the origin
  first_copy : copy_at across up 0 0 ≡ origin
  first_copy =
      let x : pos 0 *ℤ across.x +ℤ pos 0 *ℤ up.x ≡ pos 0 = rw (zero-*ℤ across.x, zero-*ℤ up.x) in
      let y : pos 0 *ℤ across.y +ℤ pos 0 *ℤ up.y ≡ pos 0 = rw (zero-*ℤ across.y, zero-*ℤ up.y) in
      λ i. record { x = x i; y = y i }

  -- a matrix begins at the origin
  pub matrix_rooted : (columns rows : ℕ) → 0 < columns → 0 < rows → Rooted (matrix columns rows across up)
  unfolding rows_from row_from
  matrix_rooted zero rows h k = absurd (omega arith)
  matrix_rooted (suc c) zero h k = absurd (omega arith)
  matrix_rooted (suc c) (suc r) h k =
      record { others = row_from across up 0 1 c ++ rows_from (suc c) across up 1 r; begins = ap (λ p. p ∷ (row_from across up 0 1 c ++ rows_from (suc c) across up 1 r)) first_copy }

  -- how many copies there are
  pub rows_length : (columns j m : ℕ) → length (rows_from columns across up j m) ≡ columns * m
  unfolding rows_from row_from
  rows_length columns j zero = sym (mul-zero columns)
  rows_length columns j (suc m) =
      let e = length-append (row_from across up j 0 columns) (rows_from columns across up (j + 1) m) in
      let a = length-map-range_with_len (λ k. copy_at across up k j) 0 columns in
      let b = rows_length columns (j + 1) m in
      omega (arith, e, a, b, mul-suc columns m)

  module _ (P : Point → Type 0) where
    -- what holds at each column and row holds of each copy
    row_all : (j i n : ℕ) → ((k : ℕ) → k < i + n → P (copy_at across up k j)) → Every P (row_from across up j i n)
    unfolding row_from
    row_all j i zero h = tt
    row_all j i (suc n) h = (h i (omega arith), row_all j (i + 1) n (λ k l. h k (omega arith)))

    pub rows_all : (columns j m : ℕ) → ((i k : ℕ) → i < columns → k < j + m → P (copy_at across up i k)) → Every P (rows_from columns across up j m)
    unfolding rows_from
    rows_all columns j zero h = tt
    rows_all columns j (suc m) h =
        All-append P (row_from across up j 0 columns) (rows_from columns across up (j + 1) m)
        (row_all j 0 columns (λ k l. h k j (omega arith) (omega arith)))
        (rows_all columns (j + 1) m (λ i k l q. h i k l (omega arith)))

    -- and the other way
    row_at : (j i n k : ℕ) → Every P (row_from across up j i n) → i ≤ k → k < i + n → P (copy_at across up k j)
    unfolding row_from
    row_at j i zero k a l q = absurd (omega arith)
    row_at j i (suc n) k a l q =
        ⊎_elim (λ (b : i < k). row_at j (i + 1) n k a.1 (omega arith) (omega arith))
        (λ (b : k ≤ i). let e : i ≡ k = omega arith in subst (λ x. P (copy_at across up x j)) e a.0)
        (cases_lt i k)

    pub rows_at : (columns j m i k : ℕ) → Every P (rows_from columns across up j m) → i < columns → j ≤ k → k < j + m → P (copy_at across up i k)
    unfolding rows_from
    rows_at columns j zero i k a l q r = absurd (omega arith)
    rows_at columns j (suc m) i k a l q r =
        let b = all_parts P (row_from across up j 0 columns) (rows_from columns across up (j + 1) m) a in
        ⊎_elim (λ (c : j < k). rows_at columns (j + 1) m i k b.1 l (omega arith) (omega arith))
        (λ (c : k ≤ j). let e : j ≡ k = omega arith in subst (λ x. P (copy_at across up i x)) e (row_at j 0 columns i b.0 (omega arith) (omega arith)))
        (cases_lt j k)

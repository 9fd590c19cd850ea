-- The copies of a repetition, by their number in the order.
use Rattle.std.proofs.Common.{◌≡◌, ℕ, zero, suc, ◌+◌, ◌-◌, ◌*◌, ◌<◌, List, [], ◌∷◌, length, get_or, take, pos, fold, sym, refl, ap, ◌∙◌, suc-mul, zero-mul, arith}
use lib.IntN.{*ℤ-zero}
use Rattle.std.proofs.lemmas.List.FromFn.{length-map-range_with_len, get_or-map-range_with_len}
use Rattle.std.proofs.lemmas.List.{get_or_append_left, get_or-append_right, get_or-map}
use Rattle.bounds.specs.declared.point.Point.{Point}
use Rattle.bounds.specs.Points.{origin, sum, path}
use Rattle.repetitions.specs.Offsets.{scaled, copy_at, row_from, rows_from}
use Rattle.repetitions.specs.Laws.{MatrixInOrder, ListInOrder}

module _ (columns : ℕ) (across up d : Point) where
  row_length : (j : ℕ) → length (row_from across up j 0 columns) ≡ columns
  unfolding row_from
  row_length j = length-map-range_with_len (λ k. copy_at across up k j) 0 columns

  row_get : (j i : ℕ) → i < columns → get_or (row_from across up j 0 columns) i d ≡ copy_at across up i j
  unfolding row_from
  row_get j i h = get_or-map-range_with_len (λ k. copy_at across up k j) 0 columns i i d h (omega arith)

  -- copy i of row j + k, among m rows from row j on
  rows_get : (j m k i : ℕ) → i < columns → k < m → get_or (rows_from columns across up j m) (k * columns + i) d ≡ copy_at across up i (j + k)
  unfolding rows_from
  rows_get j zero k i h l = absurd (omega arith)
  rows_get j (suc m) zero i h l =
      let e : zero * columns + i ≡ i = omega (arith, zero-mul columns) in
      let s : j ≡ j + zero = omega arith in
      let long = row_length j in
      ap (λ n. get_or (rows_from columns across up j (suc m)) n d) e
      ∙ get_or_append_left (row_from across up j 0 columns) (rows_from columns across up (j + 1) m) d i (omega arith)
      ∙ row_get j i h
      ∙ ap (copy_at across up i) s
  rows_get j (suc m) (suc k) i h l =
      let p = suc-mul k columns in
      let e : suc k * columns + i - columns ≡ k * columns + i = omega arith in
      let s : j + 1 + k ≡ j + suc k = omega arith in
      get_or-append_right (row_from across up j 0 columns) (rows_from columns across up (j + 1) m) columns (suc k * columns + i) d (row_length j) (omega arith)
      ∙ ap (λ n. get_or (rows_from columns across up (j + 1) m) n d) e
      ∙ rows_get (j + 1) m k i h (omega arith)
      ∙ ap (copy_at across up i) s

pub matrix_in_order : MatrixInOrder
matrix_in_order columns rows i j across up d h l = rows_get columns across up d 0 rows j i h l ∙ ap (copy_at across up i) (let e : 0 + j ≡ j = omega arith in e)

-- the origin is on every grid
pub origin_on : (g : ℕ) → scaled g origin ≡ origin
origin_on g = λ i. record { x = *ℤ-zero (pos g) i; y = *ℤ-zero (pos g) i }

-- where the first k + 1 spaces lead
path_get : (p : Point) (ds : List Point) (k : ℕ) (d : Point) → k < length ds → get_or (path p ds) k d ≡ fold sum p (take (suc k) ds)
path_get p [] k d h = absurd (omega arith)
path_get p (e ∷ ds) zero d h = refl
path_get p (e ∷ ds) (suc k) d h = path_get (sum p e) ds k d (omega arith)

-- as many places as spaces
pub path-length : (p : Point) (ds : List Point) → length (path p ds) ≡ length ds
path-length p [] = refl
path-length p (d ∷ ds) = ap suc (path-length (sum p d) ds)

pub list_in_order : ListInOrder
list_in_order g zero ds d h = sym (origin_on g)
list_in_order g (suc k) ds d h =
    let l = path-length origin ds in
    get_or-map (scaled g) (path origin ds) k origin d (omega arith) ∙ ap (scaled g) (path_get origin ds k origin (omega arith))

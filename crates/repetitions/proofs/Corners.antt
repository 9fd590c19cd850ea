-- The box around the copies of a matrix is that of its corners.
use Rattle.std.proofs.Common.{◌≡◌, ℕ, ◌-◌, ◌<◌, ◌≤◌, ℤ, pos, ◌+ℤ◌, ◌*ℤ◌, ◌≤ℤ◌, ap, ◌∙◌, arith}
use lib.IntN.{zero-*ℤ}
use Rattle.std.specs.Int.{int_min, int_max}
use Rattle.std.proofs.lemmas.Int.{ints, clamps}
use Rattle.bounds.specs.declared.point.Point.{Point}
use Rattle.bounds.specs.declared.bounds.Bounds.{Bounds}
use Rattle.bounds.specs.Boxes.{bounds_of}
use Rattle.bounds.proofs.Frames.{Inside, Holds, holds_self, bounds_in, bounds_out}
use Rattle.repetitions.specs.declared.plan.Matrix.{Matrix}
use Rattle.repetitions.specs.Offsets.{scaled, copy_at}
use Rattle.repetitions.specs.Plans.{copies_of, Sized}
use Rattle.repetitions.proofs.Products.{part_low, part_high}
use Rattle.repetitions.proofs.Matrices.{matrix_rooted, rows_all, rows_at}

-- the box of the two ends of the last row's and the last column's way
abbrev pub corners : Point → Point → Bounds
corners a b =
    record {
      left = int_min a.x (pos 0) +ℤ int_min b.x (pos 0);
      right = int_max a.x (pos 0) +ℤ int_max b.x (pos 0);
      bottom = int_min a.y (pos 0) +ℤ int_min b.y (pos 0);
      top = int_max a.y (pos 0) +ℤ int_max b.y (pos 0);
    }

-- the box, side by side
pub corner_sides : (a b : Point) (l r m t : ℤ) → l ≡ int_min a.x (pos 0) +ℤ int_min b.x (pos 0) → r ≡ int_max a.x (pos 0) +ℤ int_max b.x (pos 0) → m ≡ int_min a.y (pos 0) +ℤ int_min b.y (pos 0) → t ≡ int_max a.y (pos 0) +ℤ int_max b.y (pos 0) → ◌≡◌ {A = Bounds} (record { left = l; right = r; bottom = m; top = t }) (corners a b)
corner_sides a b l r m t e f g h = λ i. record { left = e i; right = f i; bottom = g i; top = h i }

abbrev corners_of : Matrix → Bounds
corners_of m = corners (scaled (m.columns - 1) m.across) (scaled (m.rows - 1) m.up)

-- boxes inside each other are equal
same_bounds : (e f : Bounds) → Holds e f → Holds f e → e ≡ f
same_bounds e f h k =
    let l : e.left ≡ f.left = omega (arith, ints, h.left, k.left) in
    let r : e.right ≡ f.right = omega (arith, ints, h.right, k.right) in
    let b : e.bottom ≡ f.bottom = omega (arith, ints, h.bottom, k.bottom) in
    let t : e.top ≡ f.top = omega (arith, ints, h.top, k.top) in
    λ i. record { left = l i; right = r i; bottom = b i; top = t i }

-- each copy is inside the corners
copy_inside : (m : Matrix) (i j : ℕ) → i < m.columns → j < m.rows → Inside (corners_of m) (copy_at m.across m.up i j)
copy_inside m i j h k =
    let c = m.columns - 1 in
    let r = m.rows - 1 in
    let p : i ≤ c = omega arith in
    let q : j ≤ r = omega arith in
    record {
      left = omega (arith, ints, part_low i c m.across.x p, part_low j r m.up.x q);
      right = omega (arith, ints, part_high i c m.across.x p, part_high j r m.up.x q);
      bottom = omega (arith, ints, part_low i c m.across.y p, part_low j r m.up.y q);
      top = omega (arith, ints, part_high i c m.across.y p, part_high j r m.up.y q);
    }

-- a lower bound of the four corners is one of the box, and so for an upper bound; u and v are 0 times something
low_corner : (e a b u v : ℤ) → u ≡ pos 0 → v ≡ pos 0 → e ≤ℤ (u +ℤ v) → e ≤ℤ (a +ℤ v) → e ≤ℤ (u +ℤ b) → e ≤ℤ (a +ℤ b) → e ≤ℤ (int_min a (pos 0) +ℤ int_min b (pos 0))
low_corner e a b u v p q h k l m = omega (arith, ints, clamps)

high_corner : (e a b u v : ℤ) → u ≡ pos 0 → v ≡ pos 0 → (u +ℤ v) ≤ℤ e → (a +ℤ v) ≤ℤ e → (u +ℤ b) ≤ℤ e → (a +ℤ b) ≤ℤ e → (int_max a (pos 0) +ℤ int_max b (pos 0)) ≤ℤ e
high_corner e a b u v p q h k l m = omega (arith, ints, clamps)

corners_held : (m : Matrix) (e : Bounds) → ((i k : ℕ) → i < m.columns → k < m.rows → Inside e (copy_at m.across m.up i k)) → 0 < m.columns → 0 < m.rows → Holds e (corners_of m)
corners_held m e at c r =
    let x = zero-*ℤ m.across.x in
    let u = zero-*ℤ m.up.x in
    let y = zero-*ℤ m.across.y in
    let v = zero-*ℤ m.up.y in
    let p = at 0 0 c r in
    let q = at (m.columns - 1) 0 (omega arith) r in
    let s = at 0 (m.rows - 1) c (omega arith) in
    let t = at (m.columns - 1) (m.rows - 1) (omega arith) (omega arith) in
    record {
      left = low_corner _ _ _ (pos 0 *ℤ m.across.x) (pos 0 *ℤ m.up.x) x u p.left q.left s.left t.left;
      right = high_corner _ _ _ (pos 0 *ℤ m.across.x) (pos 0 *ℤ m.up.x) x u p.right q.right s.right t.right;
      bottom = low_corner _ _ _ (pos 0 *ℤ m.across.y) (pos 0 *ℤ m.up.y) y v p.bottom q.bottom s.bottom t.bottom;
      top = high_corner _ _ _ (pos 0 *ℤ m.across.y) (pos 0 *ℤ m.up.y) y v p.top q.top s.top t.top;
    }

-- that box is the one around all copies
corners_are : (m : Matrix) → Sized m → corners_of m ≡ bounds_of (copies_of m)
corners_are m z =
    let e = bounds_of (copies_of m) in
    let all = bounds_out e (copies_of m) (holds_self e) in
    same_bounds (corners_of m) e
    (bounds_in (corners_of m) (copies_of m) (matrix_rooted m.across m.up m.columns m.rows z.some_columns z.some_rows)
    (rows_all m.across m.up (Inside (corners_of m)) m.columns 0 m.rows (λ i k h l. copy_inside m i k h (omega arith))))
    (corners_held m e (λ i k h l. rows_at m.across m.up (Inside e) m.columns 0 m.rows i k all h (omega arith) (omega arith)) z.some_columns z.some_rows)

-- and so is a box that was made of the last copies of the first row and of the first column
pub corners_by : (m : Matrix) → Sized m → (r : Bounds) (a b : Point) → a ≡ scaled (m.columns - 1) m.across → b ≡ scaled (m.rows - 1) m.up → r ≡ corners a b → r ≡ bounds_of (copies_of m)
corners_by m z r a b p q e = e ∙ ap (λ c. corners c b) p ∙ ap (corners (scaled (m.columns - 1) m.across)) q ∙ corners_are m z

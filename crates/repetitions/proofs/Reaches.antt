-- Whether all copies are in reach, by their box or one by one.
use Rattle.std.proofs.Common.{◌≡◌, ℕ, suc, ◌+◌, ◌*◌, Bool, true, false, cond, ◌&&◌, List, [], ◌∷◌, map, length, Some, None, fold, Option, refl, ap, ◌∙◌, arith}
use Rattle.std.specs.List.{AllByRecursion as Every}
use Rattle.std.proofs.ByRecursion.{All-weaker}
use Rattle.std.proofs.lemmas.List.{length-map}
use Rattle.std.proofs.lemmas.Int.{ints}
use Rattle.std.proofs.lemmas.Bool.{and_parts, and_from}
use Rattle.std.proofs.lemmas.Bool.Decides.{same_from_decides}
use Rattle.tokens.specs.declared.fault.FaultKind.TheVariants.{Reach}
use Rattle.tokens.specs.Answers.{Answer, got, fault}
use Rattle.bounds.specs.declared.point.Point.{Point}
use Rattle.bounds.specs.declared.bounds.Bounds.{Bounds}
use Rattle.bounds.specs.Points.{far_reach, origin, sum, Near, within, all_within, Rooted, path}
use Rattle.bounds.specs.Boxes.{nothing, grown, bounds_of, low_of, high_of}
use Rattle.bounds.proofs.Frames.{Inside, Holds, bounds_out, bounds_in}
use Rattle.bounds.proofs.Fitting.{square, near_inside, inside_near, bounds_origin, within_near, near_within, all_within_lem}
use Rattle.repetitions.specs.declared.plan.Matrix.{Matrix}
use Rattle.repetitions.specs.declared.summary.Summary.{Summary}
use Rattle.repetitions.specs.Offsets.{scaled, spread}
use Rattle.repetitions.specs.Repetitions.{reaching, reached, reached_by, in_short, summarised, Modest}
use Rattle.repetitions.specs.Plans.{copies_of, Sized}
use Rattle.repetitions.proofs.Matrices.{matrix_rooted, rows_length}
use Rattle.repetitions.proofs.Orders.{path-length}

-- a box around the origin is in a square just where its sides are near
corners_hold : (n : ℕ) (b : Bounds) → Near n (low_of b) → Near n (high_of b) → Holds (square n) b
corners_hold n b l h = record { left = omega (arith, ints, l.x); right = omega (arith, ints, h.x); bottom = omega (arith, ints, l.y); top = omega (arith, ints, h.y) }

pub hold_modest : (n : ℕ) (b : Bounds) → Holds b nothing → Holds (square n) b → Modest n b
hold_modest n b o h =
    record {
      left = omega (arith, ints, o.left, h.left);
      right = omega (arith, ints, o.right, h.right);
      bottom = omega (arith, ints, o.bottom, h.bottom);
      top = omega (arith, ints, o.top, h.top);
    }

-- the box of points that are near
near_hold : (n : ℕ) (ps : List Point) → Rooted ps → Every (Near n) ps → Holds (square n) (bounds_of ps)
near_hold n ps r a = bounds_in (square n) ps r (All-weaker (Near n) (Inside (square n)) (near_inside n) ps a)

pub near_modest : (n : ℕ) (ps : List Point) → Rooted ps → Every (Near n) ps → Modest n (bounds_of ps)
near_modest n ps r a = hold_modest n (bounds_of ps) (bounds_origin ps) (near_hold n ps r a)

-- the test of the box is that of the points
pub reach-told : (n : ℕ) (ps : List Point) → Rooted ps → (within n (low_of (bounds_of ps)) && within n (high_of (bounds_of ps))) ≡ all_within n ps
reach-told n ps r =
    let b = bounds_of ps in
    same_from_decides {P = Every (Near n) ps} (within n (low_of b) && within n (high_of b)) (all_within n ps) (
      (λ e.
          let q = and_parts (within n (low_of b)) (within n (high_of b)) e in
          All-weaker (Inside (square n)) (Near n) (inside_near n) ps
          (bounds_out (square n) ps (corners_hold n b (within_near n (low_of b) q.0) (within_near n (high_of b) q.1)))),
      (λ a.
          let m = near_modest n ps r a in
          and_from (within n (low_of b)) (within n (high_of b)) (near_within n (low_of b) (record { x = m.left; y = m.bottom })) (near_within n (high_of b) (record { x = m.right; y = m.top }))),
    )
    (all_within_lem n ps)

-- once out of reach there is no box
lost : (g : ℕ) (p : Point) (ds : List Point) → reached_by g p None ds ≡ None
lost g p [] = refl
lost g p (d ∷ ds) = lost g (sum p d) ds

-- the points that the spaces lead to from p, on the grid
abbrev placed : ℕ → Point → List Point → List Point
placed g p ds = map (scaled g) (path p ds)

-- the box so far and the spaces that are left give the box of all, if all are in reach
pub reached_is : (g : ℕ) (p : Point) (b : Bounds) (ds : List Point) → reached_by g p (Some b) ds ≡ cond (all_within far_reach (placed g p ds)) (Some (fold grown b (placed g p ds))) None
reached_is g p b [] = refl
reached_is g p b (d ∷ ds) = by (within far_reach (scaled g (sum p d))) (λ c. reached_is g (sum p d) c ds)
  where
    q : Point
    q = scaled g (sum p d)

    by : (t : Bool) → ((c : Bounds) → reached_by g (sum p d) (Some c) ds ≡ cond (all_within far_reach (placed g (sum p d) ds)) (Some (fold grown c (placed g (sum p d) ds))) None) →
        reached_by g (sum p d) (reached (Some b) (cond t (Some q) None)) ds ≡ cond (t && all_within far_reach (placed g (sum p d) ds)) (Some (fold grown (grown b q) (placed g (sum p d) ds))) None
    by true h = h (grown b q)
    by false h = lost g (sum p d) ds

-- what is answered of a box, if there is one
abbrev pub summed : (first copies : ℕ) → Option Bounds → ℕ → Answer Summary
summed first copies (Some b) n = got (record { copies = copies; bounds = b }) n
summed first copies None n = fault Reach first

-- there is one copy more than spaces
pub spread-length : (g : ℕ) (ds : List Point) → length (spread g ds) ≡ suc (length ds)
spread-length g ds = ap suc (length-map (path origin ds) (scaled g) ∙ path-length origin ds)

-- a list of spaces in short
pub spread-in_short : (first g n : ℕ) (ds : List Point) → summed first (length ds + 1) (reached_by g origin (Some nothing) ds) n ≡ summarised (reaching first (spread g ds) n)
spread-in_short first g n ds =
    let e : length ds + 1 ≡ length (spread g ds) = omega (arith, spread-length g ds) in
    ap (λ b. summed first (length ds + 1) b n) (reached_is g origin nothing ds)
    ∙ ap (λ c. summed first c (cond (all_within far_reach (placed g origin ds)) (Some (fold grown nothing (placed g origin ds))) None) n) e
    ∙ by (all_within far_reach (placed g origin ds))
  where
    by : (t : Bool) → summed first (length (spread g ds)) (cond t (Some (fold grown nothing (placed g origin ds))) None) n ≡ summarised (cond t (got (spread g ds) n) (fault Reach first))
    by true = refl
    by false = refl

-- a matrix in short
pub reaching-in_short : (first n : ℕ) (ps : List Point) → cond (all_within far_reach ps) (got (in_short ps) n) (fault Reach first) ≡ summarised (reaching first ps n)
reaching-in_short first n ps = by (all_within far_reach ps)
  where
    by : (t : Bool) → cond t (got (in_short ps) n) (fault Reach first) ≡ summarised (cond t (got ps n) (fault Reach first))
    by true = refl
    by false = refl

-- the test of a matrix's box is that of its copies
pub matrix-reach : (m : Matrix) → Sized m → (b : Bounds) (t : Bool) → b ≡ bounds_of (copies_of m) → t ≡ (within far_reach (low_of b) && within far_reach (high_of b)) → t ≡ all_within far_reach (copies_of m)
matrix-reach m z b t e h =
    h ∙ ap (λ (c : Bounds). within far_reach (low_of c) && within far_reach (high_of c)) e
    ∙ reach-told far_reach (copies_of m) (matrix_rooted m.across m.up m.columns m.rows z.some_columns z.some_rows)

-- its number of copies and its box are those of its copies
pub matrix_short : (m : Matrix) (n : ℕ) (b : Bounds) → b ≡ bounds_of (copies_of m) → ◌≡◌ {A = Answer Summary} (got (record { copies = m.columns * m.rows; bounds = b }) n) (got (in_short (copies_of m)) n)
matrix_short m n b e = let l = rows_length m.across m.up m.columns 0 m.rows in cc

-- A box around points is inside a frame just where the points are.
use Rattle.std.proofs.Common.{List, [], ◌∷◌, ◌≤ℤ◌, fold, subst, arith}
use lib.Signed.{≤ℤ_refl}
use Rattle.std.specs.List.{AllByRecursion as Every}
use Rattle.std.proofs.lemmas.Int.{ints, clamps}
use Rattle.bounds.specs.declared.point.Point.{Point}
use Rattle.bounds.specs.declared.bounds.Bounds.{Bounds}
use Rattle.bounds.specs.Points.{origin, Rooted}
use Rattle.bounds.specs.Boxes.{nothing, grown, bounds_of}
pub use Rattle.bounds.specs.Boxes.{Inside}

-- a box inside a frame
pub record Holds (f b : Bounds) : Type 0 where
  pub left : f.left ≤ℤ b.left
  pub right : b.right ≤ℤ f.right
  pub bottom : f.bottom ≤ℤ b.bottom
  pub top : b.top ≤ℤ f.top

-- a box is inside itself
pub holds_self : (b : Bounds) → Holds b b
holds_self b =
    record { left = ≤ℤ_refl b.left; right = ≤ℤ_refl b.right; bottom = ≤ℤ_refl b.bottom; top = ≤ℤ_refl b.top }

module _ (f : Bounds) where
  grown_out : (b : Bounds) (p : Point) → Holds f (grown b p) → Holds f b × Inside f p
  grown_out b p h = (
    record {
      left = omega (arith, ints, clamps, h.left);
      right = omega (arith, ints, clamps, h.right);
      bottom = omega (arith, ints, clamps, h.bottom);
      top = omega (arith, ints, clamps, h.top);
    },
    record {
      left = omega (arith, ints, clamps, h.left);
      right = omega (arith, ints, clamps, h.right);
      bottom = omega (arith, ints, clamps, h.bottom);
      top = omega (arith, ints, clamps, h.top);
    },
  )

  grown_in : (b : Bounds) (p : Point) → Holds f b → Inside f p → Holds f (grown b p)
  grown_in b p h i =
      record {
        left = omega (arith, ints, clamps, h.left, i.left);
        right = omega (arith, ints, clamps, h.right, i.right);
        bottom = omega (arith, ints, clamps, h.bottom, i.bottom);
        top = omega (arith, ints, clamps, h.top, i.top);
      }

  -- a box that has grown around points is inside a frame just where it was and the points are
  pub folded_out : (b : Bounds) (ps : List Point) → Holds f (fold grown b ps) → Holds f b × Every (Inside f) ps
  folded_out b [] h = (h, tt)
  folded_out b (p ∷ ps) h = let r = folded_out (grown b p) ps h in let q = grown_out b p r.0 in (q.0, (q.1, r.1))

  pub folded_in : (b : Bounds) (ps : List Point) → Holds f b → Every (Inside f) ps → Holds f (fold grown b ps)
  folded_in b [] h a = h
  folded_in b (p ∷ ps) h a = folded_in (grown b p) ps (grown_in b p h a.0) a.1

  -- the box around points that begin at the origin
  pub bounds_out : (ps : List Point) → Holds f (bounds_of ps) → Every (Inside f) ps
  bounds_out ps h = (folded_out nothing ps h).1

  pub bounds_in : (ps : List Point) → Rooted ps → Every (Inside f) ps → Holds f (bounds_of ps)
  bounds_in ps r a =
      let h : Every (Inside f) (origin ∷ r.others) = subst (Every (Inside f)) r.begins a in
      folded_in nothing ps (record { left = h.0.left; right = h.0.right; bottom = h.0.bottom; top = h.0.top }) a

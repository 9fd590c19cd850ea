-- The box of points has all of them inside and each of its sides touched.
use Rattle.std.proofs.Common.{◌≡◌, true, false, cond, ◌&&◌, ◌⊎◌, List, [], ◌∷◌, ℤ, None, fold, sym, refl, ◌∙◌, subst, inl, inr}
use lib.Signed.{lt_z}
use Rattle.std.specs.Int.{int_min, int_max}
use Rattle.std.specs.List.{AllByRecursion as Every}
use Rattle.std.proofs.lemmas.Bool.{and_from, cond-true, le-leb}
use Rattle.bounds.specs.declared.point.Point.{Point}
use Rattle.bounds.specs.declared.bounds.Bounds.{Bounds}
use Rattle.bounds.specs.Points.{reach, within}
use Rattle.bounds.specs.Boxes.{alone, grown, Inside}
use Rattle.bounds.proofs.Frames.{holds_self, folded_out}
use Rattle.bounds.proofs.Fitting.{near_within}
use Rattle.items.specs.Lists.{Any}
use Rattle.items.specs.Things.{Thing, a_start, a_cell, a_placement, a_text, a_rectangle, a_polygon, a_path, an_end}
use Rattle.items.specs.Validity.{sized, Valid}
use Rattle.items.specs.Extents.{corners, points_of, box_around, box_of, Exact, Boxed}

-- the box of points has them inside
insides : (p : Point) (ps : List Point) → Every (Inside (fold grown (alone p) ps)) (p ∷ ps)
insides p ps =
    let f = fold grown (alone p) ps in
    let r = folded_out f (alone p) ps (holds_self f) in
    (record { left = r.0.left; right = r.0.right; bottom = r.0.bottom; top = r.0.top }, r.1)

-- the lesser and the greater are one of the two
least : (x y : ℤ) → (int_min x y ≡ x) ⊎ (int_min x y ≡ y)
least x y = elim (lt_z y x) as (λ b. (cond b y x ≡ x) ⊎ (cond b y x ≡ y)) [ true ↦ inr refl | false ↦ inl refl ]

greatest : (x y : ℤ) → (int_max x y ≡ x) ⊎ (int_max x y ≡ y)
greatest x y = elim (lt_z y x) as (λ b. (cond b x y ≡ x) ⊎ (cond b x y ≡ y)) [ true ↦ inl refl | false ↦ inr refl ]

-- a side of a box, by a choice of one of two at each point
module _ (side : Bounds → ℤ) (place : Point → ℤ) (either : (b : Bounds) (p : Point) → (side (grown b p) ≡ side b) ⊎ (side (grown b p) ≡ place p)) where
  touched : (b : Bounds) (ps : List Point) → (side b ≡ side (fold grown b ps)) ⊎ Any (λ p. place p ≡ side (fold grown b ps)) ps
  touched b [] = inl refl
  touched b (p ∷ ps) =
      elim (touched (grown b p) ps) [
        | inl a ↦ elim (either b p) [ inl e ↦ inl (sym e ∙ a) | inr e ↦ inr (inl (sym e ∙ a)) ]
        | inr a ↦ inr (inr a)
      ]

-- the box of one point and others is exact
exact : (p : Point) (ps : List Point) → Exact (p ∷ ps) (fold grown (alone p) ps)
exact p ps =
    record {
      inside = insides p ps;
      left = touched (λ b. b.left) (λ q. q.x) (λ b q. least b.left q.x) (alone p) ps;
      right = touched (λ b. b.right) (λ q. q.x) (λ b q. greatest b.right q.x) (alone p) ps;
      bottom = touched (λ b. b.bottom) (λ q. q.y) (λ b q. least b.bottom q.y) (alone p) ps;
      top = touched (λ b. b.top) (λ q. q.y) (λ b q. greatest b.top q.y) (alone p) ps;
    }

around : (ps : List Point) → Boxed ps (box_around ps)
around [] = refl
around (p ∷ ps) = exact p ps

-- the law of `box_of`
pub boxed : (t : Thing) → Valid t → Boxed (points_of t) (box_of t)
boxed (a_start u) v = refl
boxed (a_cell n) v = refl
boxed (a_placement n p a f) v = refl
boxed (a_text l t p s) v = refl
boxed (a_rectangle l d w h p) v =
    subst (Boxed (corners p w h))
    (sym (cond-true (sized w h && within reach p) (box_around (corners p w h)) None
    (and_from (sized w h) (within reach p) (and_from _ _ (le-leb w reach v.width) (le-leb h reach v.height)) (near_within reach p v.place))))
    (around (corners p w h))
boxed (a_polygon l d vs) v = around vs
boxed (a_path l d h s e vs) v = around vs
boxed an_end v = refl

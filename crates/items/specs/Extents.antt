-- The box of a figure.
use Rattle.std.specs.Prelude.{◌≡◌, ℕ, cond, ◌&&◌, List, [], ◌∷◌, pos, Some, None, fold, Option}
use Rattle.std.specs.List.{AllByRecursion as Every}
use Rattle.bounds.specs.declared.point.Point.{Point}
use Rattle.bounds.specs.declared.bounds.Bounds.{Bounds}
use Rattle.bounds.specs.Points.{reach, point, sum, within}
use Rattle.bounds.specs.Boxes.{alone, grown, Inside}
use Rattle.items.specs.Lists.{Any}
use Rattle.items.specs.Things.{Thing, a_start, a_cell, a_placement, a_text, a_rectangle, a_polygon, a_path, an_end}
use Rattle.items.specs.Validity.{sized}

-- the corners of a rectangle
abbrev pub corners : Point → ℕ → ℕ → List Point
corners p w h =
    p ∷ sum p (point (pos w) (pos 0)) ∷ sum p (point (pos w) (pos h)) ∷ sum p (point (pos 0) (pos h)) ∷ []

-- the points of a figure: widths and extensions of a path do not count
abbrev pub points_of : Thing → List Point
points_of (a_start u) = []
points_of (a_cell n) = []
points_of (a_placement n p a f) = []
points_of (a_text l t p s) = []
points_of (a_rectangle l d w h p) = corners p w h
points_of (a_polygon l d vs) = vs
points_of (a_path l d h s e vs) = vs
points_of an_end = []

-- the lowest and the highest coordinates of points, if there are any
abbrev pub box_around : List Point → Option Bounds
box_around [] = None
box_around (p ∷ ps) = Some (fold grown (alone p) ps)

-- the box of an item; a rectangle with its corner or its size out of reach has none
abbrev pub box_of : Thing → Option Bounds
box_of (a_start u) = None
box_of (a_cell n) = None
box_of (a_placement n p a f) = None
box_of (a_text l t p s) = None
box_of (a_rectangle l d w h p) = cond (sized w h && within reach p) (box_around (corners p w h)) None
box_of (a_polygon l d vs) = box_around vs
box_of (a_path l d h s e vs) = box_around vs
box_of an_end = None

-- all points are in the box, and each side of it has one
pub record Exact (ps : List Point) (b : Bounds) : Type 0 where
  pub inside : Every (Inside b) ps
  pub left : Any (λ p. p.x ≡ b.left) ps
  pub right : Any (λ p. p.x ≡ b.right) ps
  pub bottom : Any (λ p. p.y ≡ b.bottom) ps
  pub top : Any (λ p. p.y ≡ b.top) ps

-- the box of points is exact, and there is none only where there are no points
abbrev pub Boxed : List Point → Option Bounds → Type 0
Boxed ps None = ps ≡ []
Boxed ps (Some b) = Exact ps b

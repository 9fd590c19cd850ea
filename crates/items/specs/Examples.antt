-- Worked examples.
use Rattle.std.specs.Prelude.{◌≡◌, ◌+◌, Bool, true, false, List, [], ◌∷◌, pos, negsuc, Some, None, codes, Option}
use Rattle.std.specs.List.{AllByRecursion as Every}
use Rattle.tokens.specs.Chains.{largest}
use Rattle.bounds.specs.declared.point.Point.{Point}
use Rattle.bounds.specs.declared.bounds.Bounds.{Bounds}
use Rattle.bounds.specs.Points.{reach, point, origin}
use Rattle.items.specs.declared.stage.Stage.{Stage}
use Rattle.items.specs.declared.stage.Stage.TheVariants.{Before, Top, Cell, Ended}
use Rattle.items.specs.Things.{Thing, a_start, a_cell, a_placement, a_text, a_rectangle, a_polygon, a_path, an_end}
use Rattle.items.specs.Validity.{valid}
use Rattle.items.specs.Sequences.{stage_at}
use Rattle.items.specs.Extents.{box_of}

-- an item is valid or not, items lead to this stage or to none, or an item has this box or none
pub data Case : Type 0 where
  validity : Thing → Bool → Case
  stages : List Thing → Option Stage → Case
  boxes : Thing → Option Bounds → Case

abbrev pub Holds : Case → Type 0
Holds (validity t r) = valid t ≡ r
Holds (stages ts r) = stage_at ts ≡ r
Holds (boxes t r) = box_of t ≡ r

abbrev square : Thing
square = a_rectangle 1 2 10 10 origin

abbrev triangle : List Point
triangle = point (pos 3) (pos 4) ∷ point (negsuc 6) (pos 0) ∷ point (pos 2) (negsuc 8) ∷ []

abbrev pub examples : List Case
examples =
    -- a unit from 1 to the largest integer
    validity (a_start 0) false
    ∷ validity (a_start largest) true
    ∷ validity (a_start (largest + 1)) false
    -- a name is not empty and has no space; a text may be empty
    ∷ validity (a_cell []) false
    ∷ validity (a_cell (codes "A B")) false
    ∷ validity (a_text 0 0 origin []) true
    -- an angle to 3 and a flip to 1
    ∷ validity (a_placement (codes "A") origin 3 1) true
    ∷ validity (a_placement (codes "A") origin 4 1) false
    ∷ validity (a_placement (codes "A") origin 3 2) false
    -- sizes and places in reach
    ∷ validity (a_rectangle 0 0 reach reach (point (pos reach) (negsuc 1099511627774))) true
    ∷ validity (a_rectangle 0 0 (reach + 1) 0 origin) false
    -- three vertices, and one
    ∷ validity (a_polygon 0 0 triangle) true
    ∷ validity (a_polygon 0 0 (origin ∷ origin ∷ [])) false
    ∷ validity (a_path 0 0 0 (pos 0) (pos 0) (origin ∷ [])) true
    ∷ validity (a_path 0 0 0 (pos 0) (pos 0) []) false
    -- a whole sequence, and beginnings of one
    ∷ stages [] (Some Before)
    ∷ stages (a_start 1 ∷ []) (Some Top)
    ∷ stages (a_start 1 ∷ a_cell (codes "A") ∷ square ∷ []) (Some Cell)
    ∷ stages (a_start 1 ∷ a_cell (codes "A") ∷ square ∷ a_cell (codes "B") ∷ an_end ∷ []) (Some Ended)
    -- an end first, an element before a cell, a second start, a cell after the end
    ∷ stages (an_end ∷ []) None
    ∷ stages (a_start 1 ∷ square ∷ []) None
    ∷ stages (a_start 1 ∷ a_start 1 ∷ []) None
    ∷ stages (a_start 1 ∷ an_end ∷ a_cell (codes "A") ∷ []) None
    -- boxes
    ∷ boxes (a_rectangle 1 2 10 5 (point (pos 3) (negsuc 3))) (Some (record { left = pos 3; bottom = negsuc 3; right = pos 13; top = pos 1 }))
    ∷ boxes (a_polygon 1 2 triangle) (Some (record { left = negsuc 6; bottom = negsuc 8; right = pos 3; top = pos 4 }))
    ∷ boxes (a_path 1 2 100 (pos 100) (pos 100) (point (pos 3) (pos 4) ∷ [])) (Some (record { left = pos 3; bottom = pos 4; right = pos 3; top = pos 4 }))
    ∷ boxes (a_polygon 1 2 []) None
    ∷ boxes (a_text 0 0 origin []) None
    ∷ []

abbrev pub ExamplesHold : Type 0
ExamplesHold = Every Holds examples

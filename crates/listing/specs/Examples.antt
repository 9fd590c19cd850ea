-- Worked examples.
use Rattle.std.specs.Prelude.{◌≡◌, ℕ, List, [], ◌∷◌, ◌++◌, pos, negsuc, codes}
use Rattle.std.specs.List.{AllByRecursion as Every}
use Rattle.bounds.specs.Points.{point}
use Rattle.items.specs.Things.{Thing, a_start, a_cell, a_placement, a_text, a_rectangle, a_polygon, a_path, an_end}
use Rattle.listing.specs.Lines.{line_feed, line_of}

-- the line of the item is this text
pub record Case : Type 0 where
  pub thing : Thing
  pub text : List ℕ

abbrev case : Thing → List ℕ → Case
case t s = record { thing = t; text = s }

abbrev pub Holds : Case → Type 0
Holds c = line_of c.thing ≡ c.text ++ (line_feed ∷ [])

abbrev pub examples : List Case
examples =
    case (a_start 1000) (codes "S 1000")
    ∷ case (a_cell (codes "TOP")) (codes "C TOP")
    ∷ case (a_placement (codes "A1") (point (negsuc 2) (pos 4)) 3 1) (codes "L A1 -3 4 3 1")
    ∷ case (a_text 5 0 (point (pos 0) (negsuc 0)) (codes "two words")) (codes "T 5 0 0 -1 two words")
    ∷ case (a_rectangle 1 2 100 50 (point (negsuc 2) (pos 4))) (codes "R 1 2 100 50 -3 4")
    ∷ case (a_polygon 1 2 (point (pos 0) (pos 0) ∷ point (pos 10) (pos 0) ∷ point (pos 0) (negsuc 9) ∷ [])) (codes "P 1 2 3 0 0 10 0 0 -10")
    ∷ case (a_path 1 2 7 (pos 7) (negsuc 6) (point (pos 0) (pos 0) ∷ [])) (codes "H 1 2 7 7 -7 1 0 0")
    ∷ case an_end (codes "E")
    ∷ []

abbrev pub ExamplesHold : Type 0
ExamplesHold = Every Holds examples

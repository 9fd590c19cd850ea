-- The items that a record draws.
use Rattle.std.specs.Prelude.{ℕ, Bool, true, false, List, [], ◌∷◌, map, Option}
use Rattle.tokens.specs.Parts.{bytes_in}
use Rattle.bounds.specs.declared.point.Point.{Point}
use Rattle.bounds.specs.Points.{sum}
use Rattle.point_lists.specs.Lists.{point_list}
use Rattle.fields.specs.declared.copies.Repeated.{Repeated}
use Rattle.fields.specs.declared.reference.Reference.{Reference}
use Rattle.fields.specs.declared.reference.Reference.TheVariants.{Given, Number}
use Rattle.fields.specs.Shapes.{points_or, offsets_of}
use Rattle.elements.specs.declared.element.Element.{Element}
use Rattle.elements.specs.declared.element.Element.TheVariants as element
use Rattle.steps.specs.declared.state.Record.{Record}
use Rattle.steps.specs.declared.state.Record.TheVariants as content
use Rattle.items.specs.Things.{Thing, a_start, a_cell, a_placement, a_text, a_rectangle, a_polygon, a_path, an_end}

-- what reference numbers mean: those of cells, and those of texts
pub record Naming : Type 0 where
  pub cells : ℕ → List ℕ
  pub texts : ℕ → List ℕ

-- a name or a text: the string's bytes, or what the number means
abbrev pub meant : List ℕ → (ℕ → List ℕ) → Reference → List ℕ
meant file mean (Given p) = bytes_in file p
meant file mean (Number k) = mean k.number

-- the vertices of a copy: those of the list at a place, as offsets from the point p
abbrev pub vertices_from : List ℕ → (list : ℕ) → (closed : Bool) → Point → List Point
vertices_from file list closed p = map (λ v. sum p v) (points_or (point_list file list closed))

-- the copy of an element that stands at p
abbrev pub copy_at : Naming → List ℕ → Element → Point → Thing
copy_at names file (element.Placement e) p = a_placement (meant file names.cells e.cell) p e.angle e.flip
copy_at names file (element.Text e) p = a_text e.layers.layer e.layers.datatype p (meant file names.texts e.text)
copy_at names file (element.Rectangle e) p = a_rectangle e.layers.layer e.layers.datatype e.sides.width e.sides.height p
copy_at names file (element.Polygon e) p = a_polygon e.layers.layer e.layers.datatype (vertices_from file e.list true p)
copy_at names file (element.Path e) p =
    a_path e.layers.layer e.layers.datatype e.stroke.half e.stroke.start e.stroke.end (vertices_from file e.list false p)

-- where the first copy stands
abbrev pub anchor_of : Element → Point
anchor_of (element.Placement e) = e.at
anchor_of (element.Text e) = e.at
anchor_of (element.Rectangle e) = e.at
anchor_of (element.Polygon e) = e.at
anchor_of (element.Path e) = e.at

-- the repetition, if there is one
abbrev pub repetition_of : Element → Option Repeated
repetition_of (element.Placement e) = e.repetition
repetition_of (element.Text e) = e.repetition
repetition_of (element.Rectangle e) = e.repetition
repetition_of (element.Polygon e) = e.repetition
repetition_of (element.Path e) = e.repetition

-- each copy of an element, in order
abbrev pub copies_of : Naming → List ℕ → Element → List Thing
copies_of names file e = map (λ o. copy_at names file e (sum (anchor_of e) o)) (offsets_of file (repetition_of e))

-- the items of a record: START, cells, elements and END have some
abbrev pub items_of : Naming → List ℕ → Record → List Thing
items_of names file content.Pad = []
items_of names file (content.Start s) = a_start s.unit ∷ []
items_of names file (content.End e) = an_end ∷ []
items_of names file (content.CellName f) = []
items_of names file (content.TextString f) = []
items_of names file (content.Cell r) = a_cell (meant file names.cells r) ∷ []
items_of names file (content.Mode relative) = []
items_of names file (content.Element e) = copies_of names file e

-- a name or a text that is a string
abbrev pub Spelled : Reference → Type 0
Spelled (Given p) = Unit {0}
Spelled (Number k) = ⊥

-- an element whose name or text, if it has one, is a string
abbrev pub SpelledElement : Element → Type 0
SpelledElement (element.Placement e) = Spelled e.cell
SpelledElement (element.Text e) = Spelled e.text
SpelledElement (element.Rectangle e) = Unit {0}
SpelledElement (element.Polygon e) = Unit {0}
SpelledElement (element.Path e) = Unit {0}

-- a record that has nothing to do with name records: it is none, and refers to none
abbrev pub Plain : Record → Type 0
Plain content.Pad = Unit {0}
Plain (content.Start s) = Unit {0}
Plain (content.End e) = Unit {0}
Plain (content.CellName f) = ⊥
Plain (content.TextString f) = ⊥
Plain (content.Cell r) = Spelled r
Plain (content.Mode relative) = Unit {0}
Plain (content.Element e) = SpelledElement e

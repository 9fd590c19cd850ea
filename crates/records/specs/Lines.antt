-- The text of records and faults: a line for each, its fields with a space between them.
use Rattle.std.specs.Prelude.{ℕ, cond, List, [], ◌∷◌, ◌++◌, Some, None, codes, decimal, Option}
use Rattle.std.specs.Fmt.{signed_decimal}
use Rattle.tokens.specs.Faults.{number_of}
use Rattle.tokens.specs.Parts.{bytes_in}
use Rattle.frames.specs.declared.start.Start.{Start}
use Rattle.frames.specs.declared.end.End.{End}
use Rattle.frames.specs.Ends.{scheme_of, signature_of}
use Rattle.fields.specs.declared.copies.Repeated.{Repeated}
use Rattle.fields.specs.declared.reference.Reference.{Reference}
use Rattle.fields.specs.declared.reference.Reference.TheVariants.{Given, Number}
use Rattle.elements.specs.declared.element.Element.{Element}
use Rattle.elements.specs.declared.element.Element.TheVariants as element
use Rattle.elements.specs.declared.element.Placement.{Placement}
use Rattle.elements.specs.declared.element.Text.{Text}
use Rattle.elements.specs.declared.element.Rectangle.{Rectangle}
use Rattle.elements.specs.declared.element.Polygon.{Polygon}
use Rattle.elements.specs.declared.element.Path.{Path}
use Rattle.steps.specs.declared.fault.Fault.{Fault}
use Rattle.steps.specs.declared.state.Record.{Record}
use Rattle.steps.specs.declared.state.Record.TheVariants as content
use Rattle.steps.specs.declared.state.RecordAt.{RecordAt}

-- fields with a space before each
abbrev pub spaced : List (List ℕ) → List ℕ
spaced [] = []
spaced (f ∷ fs) = 32 ∷ (f ++ spaced fs)

-- how many copies of an element there are: one where it has no repetition
abbrev pub copies_of : Option Repeated → ℕ
copies_of None = 1
copies_of (Some r) = r.copies

abbrev pub start_fields : Start → List (List ℕ)
start_fields s = decimal s.unit ∷ decimal (cond s.late 1 0) ∷ []

abbrev pub end_fields : End → List (List ℕ)
end_fields e = decimal (scheme_of e) ∷ decimal (signature_of e) ∷ []

-- the number of a name record, where it gives one
abbrev pub number_fields : Option ℕ → List (List ℕ)
number_fields None = []
number_fields (Some n) = decimal n ∷ []

abbrev pub placement_fields : Placement → List (List ℕ)
placement_fields p = signed_decimal p.at.x ∷ signed_decimal p.at.y ∷ decimal p.angle ∷ decimal p.flip ∷ decimal (copies_of p.repetition) ∷ []

abbrev pub text_fields : Text → List (List ℕ)
text_fields t = decimal t.layers.layer ∷ decimal t.layers.datatype ∷ signed_decimal t.at.x ∷ signed_decimal t.at.y ∷ decimal (copies_of t.repetition) ∷ []

abbrev pub rectangle_fields : Rectangle → List (List ℕ)
rectangle_fields r =
    decimal r.layers.layer ∷ decimal r.layers.datatype ∷ decimal r.sides.width ∷ decimal r.sides.height
    ∷ signed_decimal r.at.x ∷ signed_decimal r.at.y ∷ decimal (copies_of r.repetition) ∷ []

abbrev pub polygon_fields : Polygon → List (List ℕ)
polygon_fields p =
    decimal p.layers.layer ∷ decimal p.layers.datatype ∷ decimal p.vertices
    ∷ signed_decimal p.at.x ∷ signed_decimal p.at.y ∷ decimal (copies_of p.repetition) ∷ []

abbrev pub path_fields : Path → List (List ℕ)
path_fields p =
    decimal p.layers.layer ∷ decimal p.layers.datatype ∷ decimal p.stroke.half ∷ signed_decimal p.stroke.start ∷ signed_decimal p.stroke.end
    ∷ decimal p.vertices ∷ signed_decimal p.at.x ∷ signed_decimal p.at.y ∷ decimal (copies_of p.repetition) ∷ []

abbrev pub element_fields : Element → List (List ℕ)
element_fields (element.Placement p) = placement_fields p
element_fields (element.Text t) = text_fields t
element_fields (element.Rectangle r) = rectangle_fields r
element_fields (element.Polygon p) = polygon_fields p
element_fields (element.Path p) = path_fields p

-- the numbers of a record
abbrev pub numbers_of : Record → List (List ℕ)
numbers_of content.Pad = []
numbers_of (content.Start s) = start_fields s
numbers_of (content.End e) = end_fields e
numbers_of (content.CellName n) = number_fields n.number
numbers_of (content.TextString n) = number_fields n.number
numbers_of (content.Cell r) = []
numbers_of (content.Mode relative) = []
numbers_of (content.Element e) = element_fields e

-- the name or the text that an element has
abbrev pub element_name : Element → Option Reference
element_name (element.Placement p) = Some p.cell
element_name (element.Text t) = Some t.text
element_name (element.Rectangle r) = None
element_name (element.Polygon p) = None
element_name (element.Path p) = None

-- the name or the text that a record has
abbrev pub name_of : Record → Option Reference
name_of content.Pad = None
name_of (content.Start s) = None
name_of (content.End e) = None
name_of (content.CellName n) = Some (Given n.part)
name_of (content.TextString n) = Some (Given n.part)
name_of (content.Cell r) = Some r
name_of (content.Mode relative) = None
name_of (content.Element e) = element_name e

-- a name or a text: its bytes, or a number sign and the number that refers to it
abbrev pub reference_text : List ℕ → Reference → List ℕ
reference_text file (Given p) = bytes_in file p
reference_text file (Number n) = 35 ∷ decimal n.number

abbrev pub name_fields : List ℕ → Option Reference → List (List ℕ)
name_fields file None = []
name_fields file (Some r) = reference_text file r ∷ []

-- the line of a record: its place and its ID, its numbers, and its name or its text
abbrev pub line_of : List ℕ → RecordAt → List ℕ
line_of file r = decimal r.place ++ (spaced (decimal r.id ∷ (numbers_of r.content ++ name_fields file (name_of r.content))) ++ codes "\n")

-- the line of a fault: its number, its place, and the place and the ID of the record that it is in
abbrev pub fault_line : Fault → List ℕ
fault_line f = codes "F" ++ (spaced (decimal (number_of f.kind) ∷ decimal f.place ∷ decimal f.first ∷ decimal f.id ∷ []) ++ codes "\n")

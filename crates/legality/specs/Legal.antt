-- What a file can give: the limits of values, and places in reach.
use Rattle.std.specs.Prelude.{◌≡◌, ℕ, ◌+◌, ◌≤◌, Bool, true, false, List, [], ◌∷◌, length, ℤ, Some, None, Option, unsigned_abs}
use Rattle.std.specs.List.{AllByRecursion as Every}
use Rattle.tokens.specs.declared.part.Part.{Part}
use Rattle.tokens.specs.declared.text.StringRule.{StringRule}
use Rattle.tokens.specs.declared.text.StringRule.TheVariants.{Name, Ascii}
use Rattle.tokens.specs.Chains.{largest}
use Rattle.tokens.specs.Encodings.{FitsUnit}
use Rattle.tokens.specs.Parts.{bytes_in}
use Rattle.tokens.specs.Texts.{obeys}
use Rattle.bounds.specs.declared.point.Point.{Point}
use Rattle.bounds.specs.Points.{reach, origin, Near, places}
use Rattle.point_lists.specs.Lists.{point_list}
use Rattle.point_lists.specs.Laws.{Shaped}
use Rattle.repetitions.specs.Laws.{Copied}
use Rattle.repetitions.specs.Repetitions.{repetition}
use Rattle.names.specs.declared.read.NameFields.{NameFields}
use Rattle.frames.specs.Ends.{sum_scheme, scheme_of}
use Rattle.frames.specs.Laws.{Sealed}
use Rattle.fields.specs.declared.copies.Repeated.{Repeated}
use Rattle.fields.specs.declared.number.Layers.{Layers}
use Rattle.fields.specs.declared.number.Sides.{Sides}
use Rattle.fields.specs.declared.reference.Reference.{Reference}
use Rattle.fields.specs.declared.reference.Reference.TheVariants.{Given, Number}
use Rattle.fields.specs.declared.stroke.Stroke.{Stroke}
use Rattle.fields.specs.declared.variables.LayerVariables.{LayerVariables}
use Rattle.fields.specs.declared.variables.Modals.{Modals}
use Rattle.fields.specs.Shapes.{points_or, offsets_of}
use Rattle.elements.specs.declared.element.Element.{Element}
use Rattle.elements.specs.declared.element.Element.TheVariants as element
use Rattle.steps.specs.declared.state.Record.{Record}
use Rattle.steps.specs.declared.state.Record.TheVariants as content

-- a variable that is undefined, or of which P holds
abbrev pub Holds : {A : Type 0} → (A → Type 0) → Option A → Type 0
Holds P (Some v) = P v
Holds P None = Unit {0}

-- a number that a file can hold
abbrev pub Fits : ℕ → Type 0
Fits n = n ≤ largest

-- a size in reach
abbrev pub InReach : ℕ → Type 0
InReach n = n ≤ reach

-- a signed size in reach
abbrev pub SignedInReach : ℤ → Type 0
SignedInReach z = unsigned_abs z ≤ reach

-- a layer and a datatype
pub record LegalLayers (l : Layers) : Type 0 where
  pub layer : Fits l.layer
  pub datatype : Fits l.datatype

-- a width and a height
pub record LegalSides (s : Sides) : Type 0 where
  pub width : InReach s.width
  pub height : InReach s.height

-- a half-width and both extensions
pub record LegalStroke (s : Stroke) : Type 0 where
  pub half : InReach s.half
  pub start : SignedInReach s.start
  pub end : SignedInReach s.end

-- a part of the file that obeys the rule
pub record LegalText (rule : StringRule) (file : List ℕ) (p : Part) : Type 0 where
  pub inside : p.place + p.size ≤ length file
  pub short : Fits p.size
  pub obeys : obeys rule (bytes_in file p) ≡ true

-- a name or a text: a string that obeys the rule, or a number
abbrev pub LegalReference : StringRule → List ℕ → Reference → Type 0
LegalReference rule file (Given p) = LegalText rule file p
LegalReference rule file (Number k) = Fits k.number

-- a repetition stands at this place
abbrev pub RepetitionAt : List ℕ → ℕ → Type 0
RepetitionAt file place = Copied (points_or (repetition file place))

-- a point list stands at this place, of a polygon or of a path
abbrev pub ListAt : List ℕ → (closed : Bool) → ℕ → Type 0
ListAt file closed place = Shaped closed (points_or (point_list file place closed))

-- the repetition of an element, if it has one: it stands at its place, and makes so many copies
abbrev pub LegalRepetition : List ℕ → Option Repeated → Type 0
LegalRepetition file (Some r) = RepetitionAt file r.place × (r.copies ≡ length (points_or (repetition file r.place)))
LegalRepetition file None = Unit {0}

-- an element at p with the vertices vs, as offsets: each vertex of each copy is in reach
pub record Spread (file : List ℕ) (p : Point) (r : Option Repeated) (vs : List Point) : Type 0 where
  pub copies : LegalRepetition file r
  pub near : Every (Near reach) (places p (offsets_of file r) vs)

-- the list of a polygon or a path stands at its place, and has so many vertices
pub record Listed (file : List ℕ) (closed : Bool) (place vertices : ℕ) : Type 0 where
  pub list : ListAt file closed place
  pub count : vertices ≡ length (points_or (point_list file place closed))

-- an element
abbrev pub LegalElement : List ℕ → Element → Type 0
LegalElement file (element.Placement e) =
    LegalReference Name file e.cell × (e.angle ≤ 3) × (e.flip ≤ 1) × Spread file e.at e.repetition (origin ∷ [])
LegalElement file (element.Text e) =
    LegalReference Ascii file e.text × LegalLayers e.layers × Spread file e.at e.repetition (origin ∷ [])
LegalElement file (element.Rectangle e) =
    LegalLayers e.layers × LegalSides e.sides × Spread file e.at e.repetition (origin ∷ [])
LegalElement file (element.Polygon e) =
    LegalLayers e.layers × Listed file true e.list e.vertices × Spread file e.at e.repetition (points_or (point_list file e.list true))
LegalElement file (element.Path e) =
    LegalLayers e.layers × LegalStroke e.stroke × Listed file false e.list e.vertices
    × Spread file e.at e.repetition (points_or (point_list file e.list false))

-- a layer and a datatype that are stored
pub record KeptLayers (v : LayerVariables) : Type 0 where
  pub layer : Holds Fits v.layer
  pub datatype : Holds Fits v.datatype

-- modal variables of a file
pub record Kept (file : List ℕ) (m : Modals) : Type 0 where
  pub repetition : Holds (RepetitionAt file) m.repetition
  pub cell : Holds (LegalReference Name file) m.placement.cell
  pub text : Holds (LegalReference Ascii file) m.text.text
  pub text_layers : KeptLayers m.text.layers
  pub layers : KeptLayers m.figure.layers
  pub width : Holds InReach m.sides.width
  pub height : Holds InReach m.sides.height
  pub polygon : Holds (ListAt file true) m.polygon
  pub half : Holds InReach m.path.half
  pub start : Holds SignedInReach m.path.start
  pub end : Holds SignedInReach m.path.end
  pub path : Holds (ListAt file false) m.path.list

-- the fields of a name record
pub record LegalName (rule : StringRule) (file : List ℕ) (f : NameFields) : Type 0 where
  pub text : LegalText rule file f.part
  pub number : Holds Fits f.number

-- a record
abbrev pub LegalRecord : List ℕ → Record → Type 0
LegalRecord file content.Pad = Unit {0}
LegalRecord file (content.Start s) = FitsUnit s.unit
LegalRecord file (content.End e) = scheme_of e ≡ sum_scheme → Sealed file
LegalRecord file (content.CellName f) = LegalName Name file f
LegalRecord file (content.TextString f) = LegalName Ascii file f
LegalRecord file (content.Cell r) = LegalReference Name file r
LegalRecord file (content.Mode relative) = Unit {0}
LegalRecord file (content.Element e) = LegalElement file e

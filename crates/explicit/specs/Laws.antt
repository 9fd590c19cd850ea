-- What is proved of explicit bytes, in the subject's words.
use Rattle.std.specs.Prelude.{◌≡◌, ℕ, ◌+◌, ◌<◌, ◌≤◌, Bool, true, false, ◌⊎◌, List, ◌∷◌, ◌++◌, length, drop, Ok}
use Rattle.std.specs.List.{AllByRecursion as Every}
use Rattle.tokens.specs.declared.text.StringRule.TheVariants.{Name, Ascii}
use Rattle.tokens.specs.Answers.{Answer}
use Rattle.tokens.specs.Encodings.{byte_values, text_bytes, FitsText, FitsUnit}
use Rattle.tokens.specs.Parts.{bytes_in, text_part}
use Rattle.tokens.specs.Readers.{Back}
use Rattle.bounds.specs.declared.point.Point.{Point}
use Rattle.bounds.specs.Points.{reach, Near}
use Rattle.fields.specs.declared.number.Layers.{Layers}
use Rattle.fields.specs.declared.number.Sides.{Sides}
use Rattle.fields.specs.declared.stroke.Stroke.{Stroke}
use Rattle.fields.specs.declared.variables.Modals.{Modals}
use Rattle.fields.specs.Variables.{fresh}
use Rattle.frames.specs.declared.end.End.TheVariants.{Checksum32}
use Rattle.frames.specs.Laws.{sum_before}
use Rattle.elements.specs.declared.element.Drawn.{Drawn}
use Rattle.elements.specs.declared.element.Element.{Element}
use Rattle.elements.specs.Elements.{placement, text, rectangle, polygon, path}
use Rattle.steps.specs.declared.state.FileState.{FileState}
use Rattle.steps.specs.declared.state.FileState.TheVariants as state
use Rattle.steps.specs.declared.state.Position.{Position}
use Rattle.steps.specs.declared.state.Record.{Record}
use Rattle.steps.specs.declared.state.Record.TheVariants as content
use Rattle.steps.specs.declared.state.Step.{Step}
use Rattle.steps.specs.Steps.{stepped}
use Rattle.explicit.specs.Bytes.{layers_bytes, stroke_bytes, placement_fields, label_fields, rectangle_fields, polygon_fields, path_fields, start_bytes, end_bytes, cell_bytes, placement_bytes, label_bytes, rectangle_bytes, polygon_bytes, path_bytes}
use Rattle.explicit.specs.Contents.{text_given, placement_of, label_of, rectangle_of, polygon_of, path_of, shown_vertices}
use Rattle.explicit.specs.Legal.{FitsLayers, FitsSides, FitsStroke, FitsVertices}

-- where these bytes stand at the place `at`, the answer is this element, and coordinates stay absolute
pub record DrawnBack (file : List ℕ) (at : ℕ) (bs : List ℕ) (r : Answer Drawn) (e : Element) : Type 0 where
  pub after : Modals
  pub absolute : after.relative ≡ false
  pub back : Back file at bs r (record { element = e; modals = after })

-- in every file, at every place and with any variables in absolute mode, the reader reads these bytes as this element
abbrev pub ReadsAs : (List ℕ → (at first : ℕ) → Modals → Answer Drawn) → List ℕ → ((at : ℕ) → Element) → Type 0
ReadsAs reader bs e =
    (file : List ℕ) (at first : ℕ) (m : Modals) → m.relative ≡ false → DrawnBack file at bs (reader file at first m) (e at)

-- the fields of a placement are read again
abbrev pub PlacementBack : Type 0
PlacementBack =
    (a f : ℕ) (name : List ℕ) (p : Point) → a ≤ 3 → f ≤ 1 → FitsText Name name → Near reach p →
    ReadsAs placement (placement_fields a f name p) (placement_of a f name p)

-- so are those of a text
abbrev pub TextBack : Type 0
TextBack =
    (t : List ℕ) (l : Layers) (p : Point) → FitsText Ascii t → FitsLayers l → Near reach p → ReadsAs text (label_fields t l p) (label_of t l p)

-- those of a rectangle
abbrev pub RectangleBack : Type 0
RectangleBack =
    (l : Layers) (s : Sides) (p : Point) → FitsLayers l → FitsSides s → Near reach p →
    ReadsAs rectangle (rectangle_fields l s p) (rectangle_of l s p)

-- those of a polygon
abbrev pub PolygonBack : Type 0
PolygonBack =
    (l : Layers) (p : Point) (qs : List Point) → FitsLayers l → FitsVertices true p qs →
    ReadsAs polygon (polygon_fields l p qs) (polygon_of l p qs)

-- and those of a path
abbrev pub PathBack : Type 0
PathBack =
    (l : Layers) (s : Stroke) (p : Point) (qs : List Point) → FitsLayers l → FitsStroke s → FitsVertices false p qs →
    ReadsAs path (path_fields l s p qs) (path_of l s p qs)

-- a position, and what is known there
abbrev pub position : (at : ℕ) → FileState → (late : Bool) → Modals → Position
position at s late m = record { at = at; context = record { state = s; late = late; modals = m } }

-- the record at a place, with this ID, and the position behind it
abbrev pub step_to : (place id : ℕ) → Record → Position → Step
step_to place id r after = record { found = record { place = place; id = id; content = r }; after = after }

-- the record at the position p is this element; behind its bytes the cell is still open, and coordinates are still absolute
pub record ElementRead (file : List ℕ) (p : Position) (id : ℕ) (bs : List ℕ) (e : Element) : Type 0 where
  pub after : Modals
  pub absolute : after.relative ≡ false
  pub read : stepped file p ≡ Ok (step_to p.at id (content.Element e) (position (p.at + length bs) state.Cell p.context.late after))

-- these bytes are read as the record of this element, with this ID, wherever they stand in a cell in absolute mode
abbrev pub ReadInCell : (id : ℕ) → List ℕ → ((at : ℕ) → Element) → Type 0
ReadInCell id bs e =
    (file rest : List ℕ) (p : Position) → p.context.state ≡ state.Cell → p.context.modals.relative ≡ false →
    drop p.at file ≡ bs ++ rest → ElementRead file p id bs (e (p.at + 1))

-- the bytes of a placement are
abbrev pub PlacementRead : Type 0
PlacementRead =
    (a f : ℕ) (name : List ℕ) (q : Point) → a ≤ 3 → f ≤ 1 → FitsText Name name → Near reach q →
    ReadInCell 17 (placement_bytes a f name q) (placement_of a f name q)

-- so are those of a text
abbrev pub TextRead : Type 0
TextRead =
    (t : List ℕ) (l : Layers) (q : Point) → FitsText Ascii t → FitsLayers l → Near reach q →
    ReadInCell 19 (label_bytes t l q) (label_of t l q)

-- those of a rectangle
abbrev pub RectangleRead : Type 0
RectangleRead =
    (l : Layers) (s : Sides) (q : Point) → FitsLayers l → FitsSides s → Near reach q →
    ReadInCell 20 (rectangle_bytes l s q) (rectangle_of l s q)

-- those of a polygon
abbrev pub PolygonRead : Type 0
PolygonRead =
    (l : Layers) (q : Point) (qs : List Point) → FitsLayers l → FitsVertices true q qs →
    ReadInCell 21 (polygon_bytes l q qs) (polygon_of l q qs)

-- and those of a path
abbrev pub PathRead : Type 0
PathRead =
    (l : Layers) (s : Stroke) (q : Point) (qs : List Point) → FitsLayers l → FitsStroke s → FitsVertices false q qs →
    ReadInCell 22 (path_bytes l s q qs) (path_of l s q qs)

-- between START and END: with no cell open, or in a cell
abbrev pub Between : Position → Type 0
Between p = (p.context.state ≡ state.Top) ⊎ (p.context.state ≡ state.Cell)

-- two records stand at the position p: CELL with this name, which opens the cell and resets the variables, and the mode for
-- absolute coordinates
pub record CellRead (file : List ℕ) (p : Position) (name : List ℕ) : Type 0 where
  -- where the mode stands
  pub mode : ℕ
  pub behind : mode ≡ p.at + 1 + length (text_bytes name)
  pub opened : stepped file p ≡ Ok (step_to p.at 14 (content.Cell (text_given (p.at + 1) name)) (position mode state.Cell p.context.late fresh))
  pub moded :
      stepped file (position mode state.Cell p.context.late fresh)
      ≡ Ok (step_to mode 15 (content.Mode false) (position (p.at + length (cell_bytes name)) state.Cell p.context.late fresh))

-- the bytes of a cell are read so
abbrev pub CellsRead : Type 0
CellsRead =
    (file rest : List ℕ) (p : Position) (name : List ℕ) → FitsText Name name → Between p → drop p.at file ≡ cell_bytes name ++ rest →
    CellRead file p name

-- the bytes of START are read, where START is due, as a START with this unit and without table offsets in END
abbrev pub StartRead : Type 0
StartRead =
    (file rest : List ℕ) (p : Position) (u : ℕ) → FitsUnit u → p.context.state ≡ state.Start → drop p.at file ≡ start_bytes u ++ rest →
    stepped file p
    ≡ Ok (step_to p.at 1 (content.Start (record { unit = u; late = false })) (position (p.at + length (start_bytes u)) state.Top false fresh))

-- the bytes of END with the file's checksum, behind which the file ends, are read as END with that checksum
abbrev pub EndRead : Type 0
EndRead =
    (file : List ℕ) (p : Position) → Between p → p.context.late ≡ false → drop p.at file ≡ end_bytes (sum_before file p.at) →
    stepped file p
    ≡ Ok (step_to p.at 2 (content.End (Checksum32 (sum_before file p.at))) (position (length file) state.Ended false fresh))

-- where the bytes of a cell, of a placement or of a text stand, the part of the file that is named there is the name or the text
abbrev pub TextsShown : Type 0
TextsShown =
    (file rest : List ℕ) (at : ℕ) (t : List ℕ) →
    (drop at file ≡ cell_bytes t ++ rest → bytes_in file (text_part (at + 1) t) ≡ t)
    × ((a f : ℕ) (q : Point) → drop at file ≡ placement_bytes a f t q ++ rest → bytes_in file (text_part (at + 1 + 1) t) ≡ t)
    × ((l : Layers) (q : Point) → drop at file ≡ label_bytes t l q ++ rest → bytes_in file (text_part (at + 1 + 1) t) ≡ t)

-- where the bytes of a polygon or of a path stand, the list that is named there gives the vertices again
abbrev pub VerticesShown : Type 0
VerticesShown =
    (file rest : List ℕ) (at : ℕ) (l : Layers) (q : Point) (qs : List Point) →
    (FitsVertices true q qs → drop at file ≡ polygon_bytes l q qs ++ rest →
    shown_vertices file (at + 1 + 1 + length (layers_bytes l)) true q ≡ q ∷ qs)
    × ((s : Stroke) → FitsVertices false q qs → drop at file ≡ path_bytes l s q qs ++ rest →
    shown_vertices file (at + 1 + 1 + length (layers_bytes l) + length (stroke_bytes s)) false q ≡ q ∷ qs)

-- each of these numbers is a byte
abbrev pub AreBytes : List ℕ → Type 0
AreBytes bs = Every (λ b. b < byte_values) bs

-- so is each of the bytes of a record
pub record RecordsAreBytes : Type 0 where
  pub start : (u : ℕ) → FitsUnit u → AreBytes (start_bytes u)
  pub end : (sum : ℕ) → AreBytes (end_bytes sum)
  pub cell : (name : List ℕ) → FitsText Name name → AreBytes (cell_bytes name)
  pub placement :
      (a f : ℕ) (name : List ℕ) (q : Point) → a ≤ 3 → f ≤ 1 → FitsText Name name → Near reach q → AreBytes (placement_bytes a f name q)
  pub text : (t : List ℕ) (l : Layers) (q : Point) → FitsText Ascii t → FitsLayers l → Near reach q → AreBytes (label_bytes t l q)
  pub rectangle : (l : Layers) (s : Sides) (q : Point) → FitsLayers l → FitsSides s → Near reach q → AreBytes (rectangle_bytes l s q)
  pub polygon : (l : Layers) (q : Point) (qs : List Point) → FitsLayers l → FitsVertices true q qs → AreBytes (polygon_bytes l q qs)
  pub path :
      (l : Layers) (s : Stroke) (q : Point) (qs : List Point) → FitsLayers l → FitsStroke s → FitsVertices false q qs →
      AreBytes (path_bytes l s q qs)

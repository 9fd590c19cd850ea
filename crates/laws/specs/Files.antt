-- Whole files: which are allowed, and the items that they define.
use Rattle.std.specs.Prelude.{◌≡◌, ℕ, cond, List, [], ◌∷◌, Some, None, Option, nat_lt}
use Rattle.std.specs.List.{flat_map, AllByRecursion as Every}
use Rattle.fields.specs.declared.reference.Reference.{Reference}
use Rattle.fields.specs.declared.reference.Reference.TheVariants.{Given, Number}
use Rattle.elements.specs.declared.element.Element.{Element}
use Rattle.elements.specs.declared.element.Element.TheVariants as element
use Rattle.steps.specs.declared.state.Record.{Record}
use Rattle.steps.specs.declared.state.Record.TheVariants as content
use Rattle.steps.specs.declared.state.RecordAt.{RecordAt}
use Rattle.runs.specs.Laws.{records_of, Whole}
use Rattle.runs.specs.Runs.{run}
use Rattle.name_table.specs.Enter.{seen}
use Rattle.name_table.specs.Records.{Seen, Agree, named}
use Rattle.items.specs.Things.{Thing}
use Rattle.drawing.specs.Drawn.{Naming, items_of}

-- a class of names by the ID of its records without a number
abbrev pub cell_names : ℕ
cell_names = 3

abbrev pub text_strings : ℕ
text_strings = 5

-- the name record that a record is, if it is one
abbrev pub names_in : List ℕ → Record → List Seen
names_in file content.Pad = []
names_in file (content.Start s) = []
names_in file (content.End e) = []
names_in file (content.CellName f) = seen file cell_names f ∷ []
names_in file (content.TextString f) = seen file text_strings f ∷ []
names_in file (content.Cell r) = []
names_in file (content.Mode relative) = []
names_in file (content.Element e) = []

-- all name records, in order
abbrev pub names_of : List ℕ → List RecordAt → List Seen
names_of file rs = flat_map (λ r. names_in file r.content) rs

-- a name, or no bytes where there is none
abbrev pub or_nothing : Option (List ℕ) → List ℕ
or_nothing (Some n) = n
or_nothing None = []

-- what reference numbers mean by the name records, wherever those stand
abbrev pub naming_of : List Seen → Naming
naming_of ns = record { cells = λ n. or_nothing (named ns cell_names n); texts = λ n. or_nothing (named ns text_strings n) }

-- the items of records, in order
abbrev pub items_in : Naming → List ℕ → List RecordAt → List Thing
items_in names file rs = flat_map (λ r. items_of names file r.content) rs

-- the items that a file defines
abbrev pub items : List ℕ → List Thing
items file = items_in (naming_of (names_of file (records_of (run file)))) file (records_of (run file))

-- a reference number of a class
pub record Refers : Type 0 where
  pub class : ℕ
  pub number : ℕ

-- the reference number of a class that stands in the record at a place: an inherited one stands before it
abbrev pub refers_at : (place class : ℕ) → Reference → List Refers
refers_at place class (Given p) = []
refers_at place class (Number k) = cond (nat_lt place k.place) (record { class = class; number = k.number } ∷ []) []

-- that of an element
abbrev pub refers_in : (place : ℕ) → Element → List Refers
refers_in place (element.Placement e) = refers_at place cell_names e.cell
refers_in place (element.Text e) = refers_at place text_strings e.text
refers_in place (element.Rectangle e) = []
refers_in place (element.Polygon e) = []
refers_in place (element.Path e) = []

-- that of a record
abbrev pub references : (place : ℕ) → Record → List Refers
references place content.Pad = []
references place (content.Start s) = []
references place (content.End e) = []
references place (content.CellName f) = []
references place (content.TextString f) = []
references place (content.Cell r) = refers_at place cell_names r
references place (content.Mode relative) = []
references place (content.Element e) = refers_in place e

-- a name record gives the number a name
abbrev pub Known : List Seen → Refers → Type 0
Known ns r = (n : List ℕ) × (named ns r.class r.number ≡ Some n)

-- a file that the rules allow: its records follow one another from the magic to END at its last byte, its name records agree, and
-- each reference number that stands in a record has a name
pub record Allowed (file : List ℕ) : Type 0 where
  pub records : List RecordAt
  pub whole : Whole file records
  pub agree : Agree (names_of file records)
  pub known : Every (λ r. Every (Known (names_of file records)) (references r.place r.content)) records

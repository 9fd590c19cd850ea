-- The fields of each record, and what is known after it.
use Rattle.std.specs.Prelude.{ℕ, true, false, List, ◌==◌}
use Rattle.tokens.specs.declared.text.StringRule.{StringRule}
use Rattle.tokens.specs.declared.text.StringRule.TheVariants.{Name, Ascii}
use Rattle.tokens.specs.Answers.{Answer, got, then}
use Rattle.fields.specs.declared.reference.Reference.{Reference}
use Rattle.fields.specs.References.{string_at, number_at}
use Rattle.names.specs.declared.read.NameFields.{NameFields}
use Rattle.names.specs.Fields.{name_fields}
use Rattle.frames.specs.Starts.{start}
use Rattle.frames.specs.Ends.{end}
use Rattle.elements.specs.declared.element.Drawn.{Drawn}
use Rattle.elements.specs.Elements.{placement, text, rectangle, polygon, path}
use Rattle.steps.specs.declared.dispatch.Action.{Action}
use Rattle.steps.specs.declared.dispatch.Action.TheVariants as action
use Rattle.steps.specs.declared.state.Context.{Context}
use Rattle.steps.specs.declared.state.FileState.TheVariants as state
use Rattle.steps.specs.declared.state.Found.{Found}
use Rattle.steps.specs.declared.state.Record.{Record}
use Rattle.steps.specs.declared.state.Record.TheVariants as content
use Rattle.steps.specs.States.{kept, reset, varied, moded}

-- START: no cell is open after it
abbrev pub begun : List ℕ → ℕ → Answer Found
begun file at = then (start file at) λ s n. got (reset state.Top s.late (content.Start s)) n

-- END
abbrev pub closed : List ℕ → (at first : ℕ) → Context → Answer Found
closed file at first c = then (end file at first c.late) λ e n. got (reset state.Ended c.late (content.End e)) n

-- a name record, which by its ID gives the number or not; no cell is open after it
abbrev pub named : StringRule → (explicit : ℕ) → (NameFields → Record) → List ℕ → ℕ → Context → (id : ℕ) → Answer Found
named rule explicit content file at c id =
    then (name_fields rule (id == explicit) file at) λ f n. got (reset state.Top c.late (content f)) n

-- one of cell names
abbrev pub cell_named : List ℕ → ℕ → Context → (id : ℕ) → Answer Found
cell_named = named Name 4 content.CellName

-- one of text strings
abbrev pub text_named : List ℕ → ℕ → Context → (id : ℕ) → Answer Found
text_named = named Ascii 6 content.TextString

-- CELL, with a name that was read: the cell is open after it
abbrev pub cell_opened : Context → Answer Reference → Answer Found
cell_opened c r = then r λ name n. got (reset state.Cell c.late (content.Cell name)) n

-- an element that was read
abbrev pub drawn_in : Context → Answer Drawn → Answer Found
drawn_in c r = then r λ d n. got (varied c (content.Element d.element) d.modals) n

-- the record with this ID whose first byte is at `first`, and whose fields stand from the place `at` on
abbrev pub performed : List ℕ → (at first : ℕ) → Context → (id : ℕ) → Action → Answer Found
performed file at first c id action.Pad = got (kept c content.Pad) at
performed file at first c id action.Start = begun file at
performed file at first c id action.End = closed file at first c
performed file at first c id action.CellName = cell_named file at c id
performed file at first c id action.TextString = text_named file at c id
performed file at first c id action.CellByNumber = cell_opened c (number_at file at)
performed file at first c id action.CellByName = cell_opened c (string_at Name file at)
performed file at first c id action.Absolute = got (moded c false) at
performed file at first c id action.Relative = got (moded c true) at
performed file at first c id action.Placement = drawn_in c (placement file at first c.modals)
performed file at first c id action.Text = drawn_in c (text file at first c.modals)
performed file at first c id action.Rectangle = drawn_in c (rectangle file at first c.modals)
performed file at first c id action.Polygon = drawn_in c (polygon file at first c.modals)
performed file at first c id action.Path = drawn_in c (path file at first c.modals)

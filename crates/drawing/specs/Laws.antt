-- What is proved of the explicit bytes of items.
use Rattle.std.specs.Prelude.{◌≡◌, ℕ, ◌+◌, true, false, List, [], ◌∷◌, ◌++◌, length, drop, Ok}
use Rattle.steps.specs.declared.state.FileState.TheVariants as state
use Rattle.steps.specs.declared.state.Position.{Position}
use Rattle.steps.specs.declared.state.Step.{Step}
use Rattle.steps.specs.Steps.{stepped}
use Rattle.frames.specs.Laws.{sum_before}
use Rattle.items.specs.Sequences.{kind_of, element}
use Rattle.items.specs.Things.{Thing, a_start, a_cell, an_end}
use Rattle.items.specs.Validity.{valid}
use Rattle.explicit.specs.Bytes.{end_bytes}
use Rattle.explicit.specs.Laws.{Between}
use Rattle.drawing.specs.Drawn.{Naming, items_of, Plain}
use Rattle.drawing.specs.Written.{record_bytes}

-- one record stands at the position p, in so many bytes, and draws these items, whatever reference numbers mean; it has nothing
-- to do with name records
pub record Draws (file : List ℕ) (p : Position) (size : ℕ) (ts : List Thing) : Type 0 where
  pub step : Step
  pub read : stepped file p ≡ Ok step
  pub items : (names : Naming) → items_of names file step.found.content ≡ ts
  pub plain : Plain step.found.content
  pub next : step.after.at ≡ p.at + size
  pub late : step.after.context.late ≡ p.context.late

-- a cell is open behind it, and coordinates are absolute
pub record InCell (p : Position) : Type 0 where
  pub inside : p.context.state ≡ state.Cell
  pub absolute : p.context.modals.relative ≡ false

-- the bytes of a valid element, in an open cell with absolute coordinates, are read as one record that draws exactly that
-- element, and the cell stays so
abbrev pub ElementsRead : Type 0
ElementsRead =
    (file rest : List ℕ) (p : Position) (s : ℕ) (t : Thing) → kind_of t ≡ element → valid t ≡ true → InCell p →
    drop p.at file ≡ record_bytes s t ++ rest →
    (d : Draws file p (length (record_bytes s t)) (t ∷ [])) × InCell d.step.after

-- the bytes of a cell with a valid name, between START and END, are read as two records, of which the first draws exactly that
-- cell and the second nothing; the cell is open behind them, and coordinates are absolute
abbrev pub CellsRead : Type 0
CellsRead =
    (file rest : List ℕ) (p : Position) (s : ℕ) (n : List ℕ) → valid (a_cell n) ≡ true → Between p →
    drop p.at file ≡ record_bytes s (a_cell n) ++ rest →
    (size : ℕ) × (d : Draws file p size (a_cell n ∷ [])) × InCell d.step.after × (e : Draws file d.step.after 1 [])
    × (size + 1 ≡ length (record_bytes s (a_cell n))) × InCell e.step.after

-- the bytes of a start with a valid unit, where START is due, are read as one record that draws exactly that start; no table
-- offsets stand in END then
abbrev pub StartsRead : Type 0
StartsRead =
    (file rest : List ℕ) (p : Position) (s u : ℕ) → valid (a_start u) ≡ true → p.context.state ≡ state.Start → p.context.late ≡ false →
    drop p.at file ≡ record_bytes s (a_start u) ++ rest →
    (d : Draws file p (length (record_bytes s (a_start u))) (a_start u ∷ [])) × (d.step.after.context.state ≡ state.Top)

-- the bytes of END with the file's checksum, at the file's end, are read as one record that draws the end
abbrev pub EndsRead : Type 0
EndsRead =
    (file : List ℕ) (p : Position) → Between p → p.context.late ≡ false →
    drop p.at file ≡ end_bytes (sum_before file p.at) →
    (d : Draws file p (length (end_bytes (sum_before file p.at))) (an_end ∷ [])) × (d.step.after.context.state ≡ state.Ended)

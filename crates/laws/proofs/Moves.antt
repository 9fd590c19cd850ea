-- How each record moves the state of a file, and with it the stage of its items.
use Rattle.steps.specs.declared.state.FileState.{FileState}
use Rattle.steps.specs.declared.state.FileState.TheVariants as state
use Rattle.steps.specs.declared.state.Record.{Record}
use Rattle.steps.specs.declared.state.Record.TheVariants as content

-- how a record moves the state: START from the beginning, all else between START and END, elements and modes in a cell
pub data Moves : FileState → Record → FileState → Type 0 where
  starts : {s : _} → Moves state.Start (content.Start s) state.Top
  pads_top : Moves state.Top content.Pad state.Top
  pads_cell : Moves state.Cell content.Pad state.Cell
  ends_top : {e : _} → Moves state.Top (content.End e) state.Ended
  ends_cell : {e : _} → Moves state.Cell (content.End e) state.Ended
  names_cell : {t : FileState} {f : _} → Moves t (content.CellName f) state.Top
  names_text : {t : FileState} {f : _} → Moves t (content.TextString f) state.Top

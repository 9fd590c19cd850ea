-- Which record may stand where.
use Rattle.std.specs.Prelude.{ℕ, cond, ◌||◌, Ok, Err, Result, ◌==◌}
use Rattle.tokens.specs.declared.fault.FaultKind.{FaultKind}
use Rattle.tokens.specs.declared.fault.FaultKind.TheVariants.{NotCarried, OutOfPlace}
use Rattle.steps.specs.declared.dispatch.Action.{Action}
use Rattle.steps.specs.declared.dispatch.Action.TheVariants as action
use Rattle.steps.specs.declared.state.FileState.{FileState}
use Rattle.steps.specs.declared.state.FileState.TheVariants as state

-- a record stands first in the file, anywhere between START and END, in an open cell, or nowhere
pub data Standing : Type 0 where
  first anywhere inside : Action → Standing
  nowhere : Standing

-- the table of record kinds by their IDs
abbrev pub standing : ℕ → Standing
standing id =
    cond (id == 0) (anywhere action.Pad)
    (cond (id == 1) (first action.Start)
    (cond (id == 2) (anywhere action.End)
    (cond (id == 3 || id == 4) (anywhere action.CellName)
    (cond (id == 5 || id == 6) (anywhere action.TextString)
    (cond (id == 13) (anywhere action.CellByNumber)
    (cond (id == 14) (anywhere action.CellByName)
    (cond (id == 15) (inside action.Absolute)
    (cond (id == 16) (inside action.Relative)
    (cond (id == 17) (inside action.Placement)
    (cond (id == 19) (inside action.Text)
    (cond (id == 20) (inside action.Rectangle)
    (cond (id == 21) (inside action.Polygon)
    (cond (id == 22) (inside action.Path)
    nowhere)))))))))))))

-- what may stand in a state of the file: before START only START, and after it no other; elements and modes in a cell alone;
-- nothing after END
abbrev pub seated : FileState → Standing → Result Action FaultKind
seated state.Start (first a) = Ok a
seated state.Start (anywhere a) = Err OutOfPlace
seated state.Start (inside a) = Err OutOfPlace
seated state.Start nowhere = Err OutOfPlace
seated state.Top (first a) = Err OutOfPlace
seated state.Top (anywhere a) = Ok a
seated state.Top (inside a) = Err OutOfPlace
seated state.Top nowhere = Err NotCarried
seated state.Cell (first a) = Err OutOfPlace
seated state.Cell (anywhere a) = Ok a
seated state.Cell (inside a) = Ok a
seated state.Cell nowhere = Err NotCarried
seated state.Ended s = Err OutOfPlace

-- what a record-ID asks for in a state of the file
abbrev pub allowed : FileState → ℕ → Result Action FaultKind
allowed s id = seated s (standing id)

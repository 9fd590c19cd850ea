-- The run of a file: its records in order, to END or to the first fault.
use Rattle.std.specs.Prelude.{ℕ, zero, suc, ◌-◌, false, cond, List, length, Some, None, Ok, Err, Option, Result, nat_le}
use Rattle.checksum.specs.Ends.{has_magic}
use Rattle.tokens.specs.declared.fault.FaultKind.{FaultKind}
use Rattle.tokens.specs.declared.fault.FaultKind.TheVariants.{TooLong, NoMagic}
use Rattle.fields.specs.Variables.{fresh}
use Rattle.steps.specs.declared.fault.Fault.{Fault}
use Rattle.steps.specs.declared.state.FileState.{FileState}
use Rattle.steps.specs.declared.state.FileState.TheVariants as state
use Rattle.steps.specs.declared.state.Position.{Position}
use Rattle.steps.specs.declared.state.RecordAt.{RecordAt}
use Rattle.steps.specs.declared.state.Step.{Step}
use Rattle.steps.specs.Steps.{stepped}

-- the most bytes that a file may have
abbrev pub longest : ℕ
longest = 4294967295

-- a fault of the file as a whole
abbrev pub unread : FaultKind → Fault
unread k = record { kind = k; place = 0; first = 0; id = 0 }

-- behind the magic, where START is due
abbrev pub at_start : Position
at_start = record { at = 13; context = record { state = state.Start; late = false; modals = fresh } }

-- where the first record of a file stands
abbrev pub opened : List ℕ → Result Position Fault
opened file = cond (nat_le (length file) longest) (cond (has_magic file) (Ok at_start) (Err (unread NoMagic))) (Err (unread TooLong))

-- a step that came well
abbrev pub some_step : Result Step Fault → Result (Option Step) Fault
some_step (Ok s) = Ok (Some s)
some_step (Err f) = Err f

-- no step behind END
abbrev pub turn_in : FileState → Result Step Fault → Result (Option Step) Fault
turn_in state.Start r = some_step r
turn_in state.Top r = some_step r
turn_in state.Cell r = some_step r
turn_in state.Ended r = Ok None

-- the step at a position, or none behind END
abbrev pub turn : List ℕ → Position → Result (Option Step) Fault
turn file p = turn_in p.context.state (stepped file p)

-- the record of a step
abbrev pub given_by : Result (Option Step) Fault → Result (Option RecordAt) Fault
given_by (Ok (Some s)) = Ok (Some s.found)
given_by (Ok None) = Ok None
given_by (Err f) = Err f

-- the position after a step, which is the old one where there is no step
abbrev pub landing : Position → Result (Option Step) Fault → Position
landing p (Ok (Some s)) = s.after
landing p (Ok None) = p
landing p (Err f) = p

-- records in order, and how they end
pub data Trail : Type 0 where
  more : RecordAt → Trail → Trail
  done : Trail
  broken : Fault → Trail

-- one step, and what follows from the position after it
abbrev pub follow : Result (Option Step) Fault → (Position → Trail) → Trail
follow (Ok (Some s)) on = more s.found (on s.after)
follow (Ok None) on = done
follow (Err f) on = broken f

-- at most so many steps
abbrev pub trail : ℕ → List ℕ → Position → Trail
trail zero file p = done
trail (suc turns) file p = follow (turn file p) (trail turns file)

-- the records from a position on: each takes at least one byte, so there are no more steps than bytes, and one for the end
unfoldable pub walked : List ℕ → Position → Trail
walked file p = trail (suc (length file - p.at)) file p

-- the records from where a file is opened
abbrev pub entered : List ℕ → Result Position Fault → Trail
entered file (Ok p) = walked file p
entered file (Err f) = broken f

-- the run of a file
abbrev pub run : List ℕ → Trail
run file = entered file (opened file)

-- What is known after a record.
use Rattle.std.specs.Prelude.{Bool}
use Rattle.fields.specs.declared.variables.Modals.{Modals}
use Rattle.fields.specs.Variables.{fresh}
use Rattle.steps.specs.declared.state.Context.{Context}
use Rattle.steps.specs.declared.state.FileState.{FileState}
use Rattle.steps.specs.declared.state.Found.{Found}
use Rattle.steps.specs.declared.state.Record.{Record}
use Rattle.steps.specs.declared.state.Record.TheVariants.{Mode}

-- a record that changes nothing
abbrev pub kept : Context → Record → Found
kept c r = record { content = r; context = c }

-- a record that resets the variables
abbrev pub reset : FileState → (late : Bool) → Record → Found
reset s late r = record { content = r; context = record { state = s; late = late; modals = fresh } }

-- a record after which the variables are these
abbrev pub varied : Context → Record → Modals → Found
varied c r m = record { content = r; context = record { state = c.state; late = c.late; modals = m } }

-- a record that sets the mode, and no other variable
abbrev pub moded : Context → (relative : Bool) → Found
moded c relative =
    let m = c.modals in
    varied c (Mode relative)
    (record {
      relative = relative;
      repetition = m.repetition;
      placement = m.placement;
      text = m.text;
      figure = m.figure;
      sides = m.sides;
      polygon = m.polygon;
      path = m.path;
    })

-- What a walk over the records of a file gives.
use Rattle.std.specs.Prelude.{ℕ, cond, List, [], ◌∷◌, Some, None, Ok, Err, Option, Result}
use Rattle.steps.specs.declared.fault.Fault.{Fault}
use Rattle.steps.specs.declared.state.Position.{Position}
use Rattle.steps.specs.declared.state.RecordAt.{RecordAt}
use Rattle.steps.specs.declared.state.Step.{Step}
use Rattle.runs.specs.declared.walk.Walk.{Walk}
use Rattle.runs.specs.Runs.{Trail, more, done, broken, walked}

-- each record, and then the fault that ended them, if one did
abbrev pub outcomes : Trail → List (Result RecordAt Fault)
outcomes (more r t) = Ok r ∷ outcomes t
outcomes done = []
outcomes (broken f) = Err f ∷ []

-- what comes from a position on; nothing where the iterator is over
abbrev pub coming : List ℕ → Option Position → List (Result RecordAt Fault)
coming file (Some p) = outcomes (walked file p)
coming file None = []

-- where the iterator stands: at the position of the walk, and nowhere once it has given a fault
abbrev pub standing : Walk → Option Position
standing w = cond w.faulted None (Some w.position)

-- what is left of a walk
abbrev pub left : Walk → List (Result RecordAt Fault)
left w = coming w.file.now (standing w)

-- what the iterator makes of a turn: the record or the fault, and nothing behind END
abbrev pub item_by : Result (Option Step) Fault → Option (Result RecordAt Fault)
item_by (Ok (Some s)) = Some (Ok s.found)
item_by (Ok None) = None
item_by (Err f) = Some (Err f)

-- where it then stands, if it stood at the position p: behind the record, still behind END, or nowhere at a fault
abbrev pub standing_after : Position → Result (Option Step) Fault → Option Position
standing_after p (Ok (Some s)) = Some s.after
standing_after p (Ok None) = Some p
standing_after p (Err f) = None

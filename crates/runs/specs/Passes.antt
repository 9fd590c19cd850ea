-- A pass over the records of a file, which may refuse one.
use Rattle.std.specs.Prelude.{Ok, Err, Result}
use Rattle.tokens.specs.Outcomes.{on_ok}
use Rattle.steps.specs.declared.fault.Fault.{Fault}
use Rattle.steps.specs.declared.state.RecordAt.{RecordAt}
use Rattle.runs.specs.Runs.{Trail, more, done, broken}

-- the state after all records, or the first fault of the file or refusal of the pass
abbrev pub over : {S : Type 0} → (S → RecordAt → Result S Fault) → S → Trail → Result S Fault
over f s (more r t) = on_ok (f s r) (λ u. over f u t)
over f s done = Ok s
over f s (broken e) = Err e

-- how a pass ends
abbrev pub ended : {A U : Type 0} → Result U Fault → A → Result A Fault
ended (Ok u) a = Ok a
ended (Err f) a = Err f

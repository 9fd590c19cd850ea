use Rattle.runs.proofs.Progress.{walked_on}
use Rattle.runs.proofs.Sequences.{run_is_sequence, sequence_is_run}
use Rattle.runs.proofs.laws.laws_of_runs.Goals as goal

pub returns : goal.returns
returns c = record { unfolds = walked_on; sound = run_is_sequence; complete = sequence_is_run }

use Rattle.name_table.proofs.Runs.{judged}
use Rattle.name_table.proofs.laws.laws_of_names.Goals as goal

pub returns : goal.returns
returns c = record { runs = judged }

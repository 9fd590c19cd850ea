use Rattle.legality.proofs.Elements.{elements_legal}
use Rattle.legality.proofs.Records.{run_legal}
use Rattle.legality.proofs.laws_of_legality.Goals as goal

pub returns : goal.returns
returns c = record { elements = elements_legal; run = run_legal }

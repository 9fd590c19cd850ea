use Rattle.point_lists.proofs.Examples.{examples_hold}
use Rattle.point_lists.proofs.laws.worked_examples.Goals as goal

pub returns : goal.returns
returns c = record { hold = examples_hold }

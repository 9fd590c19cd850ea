use Rattle.items.proofs.Examples.{examples_hold}
use Rattle.items.proofs.laws.worked_examples.Goals as goal

pub returns : goal.returns
returns c = record { hold = examples_hold }

use Rattle.frames.proofs.Examples.{examples_hold}
use Rattle.frames.proofs.laws.worked_examples.Goals as goal

pub returns : goal.returns
returns c = record { hold = examples_hold }

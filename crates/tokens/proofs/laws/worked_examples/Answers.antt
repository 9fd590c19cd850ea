use Rattle.tokens.proofs.Examples.{examples_hold}
use Rattle.tokens.proofs.laws.worked_examples.Goals as goal

pub returns : goal.returns
returns c = record { hold = examples_hold }

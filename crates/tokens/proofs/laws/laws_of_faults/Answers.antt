use Rattle.tokens.proofs.Faults.{numbers_are_distinct}
use Rattle.tokens.proofs.laws.laws_of_faults.Goals as goal

pub returns : goal.returns
returns c = record { distinct = numbers_are_distinct }

use Rattle.std.proofs.Common.{arith}
use Rattle.std.proofs.lemmas.Int.{to_z-of_z}
use Rattle.bounds.proofs.bounds.Bounds.grow.Goals as goal

pub returns : goal.returns
returns c = record { around = grind (arith, to_z-of_z) }

use Rattle.std.proofs.Common.{rules}
use Rattle.fields.proofs.Boxes.{spread_at-boxed}
use Rattle.fields.proofs.copies.read_at.Goals as goal

pub returns-clause-boxed : goal.returns-clause-boxed
returns-clause-boxed c = (spread_at-boxed c.args.file.now c.args.place).on c.map.result (search rules)

use Rattle.std.proofs.Common.{rules}
use Rattle.fields.proofs.Boxes.{outline_at-boxed}
use Rattle.fields.proofs.vertices.read_at.Goals as goal

pub returns-clause-boxed : goal.returns-clause-boxed
returns-clause-boxed c = (outline_at-boxed c.args.file.now c.args.place c.args.closed).on c.map.result (search rules)

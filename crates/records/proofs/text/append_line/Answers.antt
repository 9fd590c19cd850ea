use Rattle.std.proofs.Common.{rules}
use Rattle.records.proofs.Texts.{line_made}
use Rattle.records.proofs.text.append_line.Goals as goal

pub returns : goal.returns
returns c = record { grows = search (rules, line_made c.args.file.now c.args.found c.args.out.now.items) }

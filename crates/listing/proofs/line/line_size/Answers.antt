use Rattle.std.proofs.Common.{length, ap, arith}
use Rattle.items.specs.Things.{thing_of}
use Rattle.listing.specs.Lines.{spaced}
use Rattle.listing.proofs.Fields.{line-length}
use Rattle.listing.proofs.line.line_size.Goals as goal

pub returns-clause-bytes : goal.returns-clause-bytes
returns-clause-bytes c =
    omega (arith, c.fields_size.ensures.bytes, ap (λ l. length (spaced l)) c.fields_of.ensures.fields, line-length (thing_of c.args.item))

use Rattle.std.proofs.Common.{arith}
use Rattle.signature.proofs.Frames.{last_four}
use Rattle.signature.proofs.report.read_signature.Goals as goal

pub returns : goal.returns
returns c =
    let computed = c.checksum32.ensures.value in
    let stored = c.stored_at.ensures.holds in
    let four = last_four c.args.file.now (omega (arith, c.requires)) in
    record { both = cc }

use Rattle.std.proofs.Common.{Ok, sym, ap, ◌∙◌, arith}
use Rattle.signature.proofs.Frames.{framed_room, framed_signature, findings_both, findings_short, framed_by}
use Rattle.signature.proofs.report.find_signature.Goals as goal

pub returns-then-length-lt-SHORTEST : goal.returns-then-length-lt-SHORTEST
returns-then-length-lt-SHORTEST c =
    let found = findings_short c.args.file.now c.if-length-eq0.false c.if-length-lt-SHORTEST.true in
    record {
      found = cc;
      framed = λ body mark f. absurd (omega (arith, c.if-length-lt-SHORTEST.true, framed_room c.args.file.now body mark f));
      unframed = tt;
    }

pub returns-then-magic : goal.returns-then-magic
returns-then-magic c =
    let room = c.if-length-lt-SHORTEST.false in
    let begins = sym c.requires ∙ c.if-magic.true in
    let both = c.read_signature.ensures.both in
    let all = findings_both c.args.file.now room begins in
    record {
      found = cc;
      framed = λ body mark f. ap Ok (both ∙ framed_signature c.args.file.now body mark f);
      unframed = (_, _, framed_by c.args.file.now room begins);
    }

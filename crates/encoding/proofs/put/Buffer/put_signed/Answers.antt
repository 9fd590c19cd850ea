use Rattle.std.proofs.Common.{ap, ◌∙◌}
use Rattle.tokens.specs.Encodings.{shortest, code_of}
use Rattle.tokens.proofs.Encodings.{signed_back}
use Rattle.encoding.proofs.Laying.{put_is, put_again}
use Rattle.encoding.proofs.Signs.{same_sign}
use Rattle.encoding.proofs.put.Buffer.put_signed.Goals as goal

pub returns : goal.returns
returns c =
    let code = c.code_of.ensures.code ∙ ap code_of (same_sign c.args.z c.requires.fits) in
    let puts = put_is (ap shortest code) c.put_unsigned.ensures.puts in
    record { puts = puts; again = put_again puts (signed_back _ _ c.args.z c.requires.fits) }

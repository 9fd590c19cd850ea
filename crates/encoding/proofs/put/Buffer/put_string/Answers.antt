use Rattle.std.proofs.Common.{length, refl, arith, length-append}
use Rattle.tokens.specs.Encodings.{shortest}
use Rattle.tokens.proofs.Encodings.{text_back}
use Rattle.encoding.proofs.Laying.{put_then, put_again, room_then}
use Rattle.encoding.proofs.put.Buffer.put_string.Goals as goal

pub put_unsigned-requires : goal.put_unsigned-requires
put_unsigned-requires c =
    omega (arith, c.requires, length-append (shortest (length c.args.bytes.now)) c.args.bytes.now)

pub put_bytes-requires : goal.put_bytes-requires
put_bytes-requires c = room_then _ refl c.put_unsigned.ensures.puts c.requires

pub returns : goal.returns
returns c =
    let puts = put_then c.put_unsigned.ensures.puts c.put_bytes.ensures.puts in
    record { puts = puts; again = λ rule fits. put_again puts (text_back rule _ _ _ fits) }

use Rattle.std.proofs.Common.{w64, unsigned_abs, ap, ◌∙◌, arith}
use Rattle.std.proofs.lemmas.Int.{ints, to_z-of_z}
use Rattle.encoding.proofs.Laying.{put_is, put_then, room_then}
use Rattle.listing.proofs.Decimals.{minus_first}
use Rattle.listing.proofs.number.put_integer.Goals as goal

pub put_decimal-requires-2 : goal.put_decimal-requires-2
put_decimal-requires-2 c =
    let size = c.unsigned_abs-size.ensures.value ∙ ap unsigned_abs (to_z-of_z w64 c.args.z c.ranges.z) in
    room_then _ (minus_first c.args.z _ (omega (arith, ints, c.if-z-ge0.false)) size) c.put_byte.ensures.puts c.requires

pub returns : goal.returns
returns c =
    let size = c.unsigned_abs-size.ensures.value ∙ ap unsigned_abs (to_z-of_z w64 c.args.z c.ranges.z) in
    record { puts = put_is (minus_first c.args.z _ (omega (arith, ints, c.if-z-ge0.false)) size) (put_then c.put_byte.ensures.puts c.put_decimal-2.ensures.puts) }

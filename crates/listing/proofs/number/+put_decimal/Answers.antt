use Rattle.std.proofs.Common.{sym, arith}
use Rattle.std.proofs.lemmas.Fmt.{decimal_step}
use Rattle.encoding.proofs.Laying.{put_is, put_then, put-length}
use Rattle.listing.proofs.Decimals.{one_digit, one_length, more_length}
use Rattle.listing.proofs.number.+put_decimal.Goals as goal

pub put_byte-requires : goal.put_byte-requires
put_byte-requires t c = omega (arith, c.requires, one_length c.args.n (omega arith))

pub returns-then-n-lt-RADIX : goal.returns-then-n-lt-RADIX
returns-then-n-lt-RADIX t c = record { puts = put_is (one_digit c.args.n (omega arith)) c.put_byte.ensures.puts }

pub put_decimal-requires : goal.put_decimal-requires
put_decimal-requires t c = omega (arith, c.requires, more_length c.args.n (omega arith) c.ranges.n.fits)

pub put_byte-requires-2 : goal.put_byte-requires-2
put_byte-requires-2 t c =
    omega (arith, c.requires, more_length c.args.n (omega arith) c.ranges.n.fits, c.put_decimal.ensures.puts.next, put-length c.put_decimal.ensures.puts)

pub returns : goal.returns
returns t c =
    record { puts = put_is (sym (decimal_step c.args.n (omega arith) c.ranges.n.fits)) (put_then c.put_decimal.ensures.puts c.put_byte-2.ensures.puts) }

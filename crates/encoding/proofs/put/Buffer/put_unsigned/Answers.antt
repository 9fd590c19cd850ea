use Rattle.tokens.proofs.Encodings.{unsigned_back}
use Rattle.encoding.proofs.Laying.{put_again}
use Rattle.encoding.proofs.Shortest.{putting_all, putting_inside, putting_more, putting_last}
use Rattle.encoding.proofs.put.Buffer.put_unsigned.Goals as goal

pub loop-left-init : goal.loop-left-init
loop-left-init c = putting_all c.args.self.now c.args.n c.ranges.n.fits c.requires

pub put_byte-requires : goal.put_byte-requires
put_byte-requires c = putting_inside _ _ _ _ c.loop-left.invariant

pub loop-left-preserved : goal.loop-left-preserved
loop-left-preserved c = putting_more _ _ _ _ c.loop-left.invariant _ c.loop-left-test.true c.put_byte.ensures.puts

pub put_byte-requires-2 : goal.put_byte-requires-2
put_byte-requires-2 c = putting_inside _ _ _ _ c.loop-left.invariant

pub returns : goal.returns
returns c =
    let puts = putting_last _ _ _ _ c.loop-left.invariant _ c.loop-left-test.false c.put_byte-2.ensures.puts in
    record { puts = puts; again = λ small. put_again puts (unsigned_back _ _ _ small) }

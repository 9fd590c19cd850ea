use Rattle.encoding.proofs.Shortest.{Putting}
use Rattle.encoding.proofs.put.Buffer.put_unsigned.Given as goal

abbrev pub invariant-loop-left : goal.invariant-loop-left
invariant-loop-left l = Putting l.initial.self l.n l.self l.left

abbrev pub decreases-loop-left : goal.decreases-loop-left
decreases-loop-left l = l.left

use Rattle.std.proofs.Common.{◌≡◌, ◌^◌, ◌<◌}
use Rattle.tokens.specs.Chains.{radix}
use Rattle.tokens.proofs.Chains.{Reading}
use Rattle.tokens.proofs.integer.read_chain.Given as goal

abbrev pub invariant-loop-k : goal.invariant-loop-k
invariant-loop-k l = (l.scale ≡ radix ^ l.k) × (l.value < l.scale) × Reading l.value l.scale l.k l.rest

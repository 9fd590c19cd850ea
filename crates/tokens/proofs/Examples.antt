-- The worked examples, each by computation.
use Rattle.std.proofs.Common.{refl}
use Rattle.tokens.specs.Chains.{unsigned}
use Rattle.tokens.specs.Deltas.{signed, two_delta, three_delta, g_delta}
use Rattle.tokens.specs.Examples.{ExamplesHold}
use Rattle.tokens.specs.Texts.{text}
use Rattle.tokens.specs.Units.{unit}

-- all of them compute
pub examples_hold : ExamplesHold
unfolding unsigned signed two_delta three_delta g_delta text unit
examples_hold = (refl, (refl, (refl, (refl, (refl, (refl, (refl, (refl, (refl, (refl, (refl, (refl, (refl, (refl, (refl, (refl, (refl, (refl, (refl, (refl, tt))))))))))))))))))))

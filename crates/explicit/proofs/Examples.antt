-- The worked examples, each by computation.
use Rattle.std.proofs.Common.{refl}
use Rattle.tokens.specs.Encodings.{shortest}
use Rattle.explicit.specs.Examples.{ExamplesHold}

-- all of them compute
pub examples_hold : ExamplesHold
unfolding shortest
examples_hold = record { start = refl; cell = refl; placement = refl; text = refl; rectangle = refl; polygon = refl; path = refl }

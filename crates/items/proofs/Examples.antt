-- The worked examples, each by computation.
use Rattle.std.proofs.Common.{refl}
use Rattle.items.specs.Examples.{ExamplesHold}

-- all of them compute
pub examples_hold : ExamplesHold
examples_hold = (refl, (refl, (refl, (refl, (refl, (refl, (refl, (refl, (refl, (refl, (refl, (refl, (refl, (refl, (refl, (refl, (refl, (refl, (refl, (refl, (refl, (refl, (refl, (refl, (refl, (refl, (refl, (refl, tt))))))))))))))))))))))))))))

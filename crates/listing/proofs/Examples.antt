-- The worked examples, each by computation.
use Rattle.std.proofs.Common.{refl}
use Rattle.std.specs.Fmt.{digits}
use Rattle.listing.specs.Lines.{line_of}
use Rattle.listing.specs.Examples.{ExamplesHold}

-- all of them compute
pub examples_hold : ExamplesHold
unfolding line_of digits
examples_hold = (refl, (refl, (refl, (refl, (refl, (refl, (refl, (refl, tt))))))))

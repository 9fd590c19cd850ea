-- The worked examples, each by computation.
use Rattle.std.proofs.Common.{refl}
use Rattle.tokens.specs.Chains.{unsigned}
use Rattle.tokens.specs.Deltas.{signed, g_delta}
use Rattle.repetitions.specs.Offsets.{row_from, rows_from}
use Rattle.repetitions.specs.Spaces.{space_at, series}
use Rattle.repetitions.specs.Plans.{matrix_at, dimension_at, line_at, grid_at, list_at, plan}
use Rattle.repetitions.specs.Repetitions.{repetition}
use Rattle.repetitions.specs.Examples.{ExamplesHold}

pub examples_hold : ExamplesHold
unfolding unsigned signed g_delta row_from rows_from space_at series matrix_at dimension_at line_at grid_at list_at plan repetition
examples_hold = (refl, (refl, (refl, (refl, (refl, (refl, (refl, (refl, (refl, (refl, (refl, (refl, (refl, (refl, (refl, (refl, (refl, tt)))))))))))))))))

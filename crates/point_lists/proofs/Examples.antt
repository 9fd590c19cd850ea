-- The worked examples hold by computation.
use Rattle.std.proofs.Common.{refl}
use Rattle.tokens.specs.Chains.{unsigned}
use Rattle.tokens.specs.Deltas.{signed, two_delta, three_delta, g_delta}
use Rattle.point_lists.specs.Walks.{moved, advanced}
use Rattle.point_lists.specs.Rolls.{unrolled}
use Rattle.point_lists.specs.Lists.{list_head, point_list}
use Rattle.point_lists.specs.Examples.{ExamplesHold}

pub examples_hold : ExamplesHold
unfolding unsigned signed two_delta three_delta g_delta moved advanced unrolled list_head point_list
examples_hold = (refl, (refl, (refl, (refl, (refl, (refl, (refl, (refl, (refl, (refl, (refl, tt)))))))))))

use Rattle.point_lists.specs.Walks.{moved}
use Rattle.point_lists.proofs.walk.Walk.moved_by.Goals as goal

pub returns : goal.returns
unfolding moved
returns c = let at = c.add.ensures in let v = c.vector_by-vector.ensures in cc

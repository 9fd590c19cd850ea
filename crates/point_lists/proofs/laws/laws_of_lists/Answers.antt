use Rattle.point_lists.proofs.Shapes.{list_made}
use Rattle.point_lists.proofs.Locals.{list_local}
use Rattle.point_lists.proofs.Backs.{list_back}
use Rattle.point_lists.proofs.laws.laws_of_lists.Goals as goal

pub returns : goal.returns
returns c = record { made = list_made; local = list_local; back = list_back }

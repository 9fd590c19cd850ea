use Rattle.point_lists.proofs.Steps.{displacement_made}
use Rattle.point_lists.proofs.walk.advance.Goals as goal

pub moved_by-value-requires : goal.moved_by-value-requires
moved_by-value-requires c =
    (c.requires, ((displacement_made c.args.walk.kind c.args.walk.across c.args.file.now c.args.at).on _ c.in_ok-d.ensures).2)

use Rattle.std.proofs.Common.{length, sym, ap, ◌∙◌, arith}
use Rattle.std.specs.List.{flat_map}
use Rattle.std.proofs.lemmas.List.{take_all}
use Rattle.bounds.specs.Points.{origin}
use Rattle.encoding.proofs.Laying.{put_none, put_then, put_is, put-length}
use Rattle.listing.specs.Lines.{spaced}
use Rattle.listing.proofs.Fields.{point_fields, points_are, fields_more, fields_room}
use Rattle.listing.proofs.field.put_points.Goals as goal

pub loop-p-init : goal.loop-p-init
loop-p-init c = put_none c.args.out.now (omega (arith, c.requires))

pub put_point-requires : goal.put_point-requires
put_point-requires c =
    let ps = c.args.points.now in
    omega (arith, c.requires, c.loop-p.invariant.next, put-length c.loop-p.invariant, ap (λ l. length (spaced l)) (points_are ps), fields_room point_fields ps c.loop-p.p-index origin c.loop-p-test.true)

pub loop-p-preserved : goal.loop-p-preserved
loop-p-preserved c =
    put_is (sym (fields_more point_fields c.args.points.now c.loop-p.p-index origin c.loop-p-test.true))
    (put_then c.loop-p.invariant c.put_point.ensures)

pub returns : goal.returns
returns c =
    let ps = c.args.points.now in
    put_is (ap spaced (ap (flat_map point_fields) (take_all c.loop-p.p-index ps c.loop-p-test.false) ∙ points_are ps)) c.loop-p.invariant

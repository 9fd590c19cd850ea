use Rattle.std.proofs.Common.{None, sym, arith}
use Rattle.encoding.proofs.Laying.{put_none, put_then, put_is, put-length}
use Rattle.listing.specs.Parts.{written}
use Rattle.listing.proofs.Fields.{fields_more, fields_room}
use Rattle.listing.proofs.field.put_fields.Goals as goal

pub loop-field-init : goal.loop-field-init
loop-field-init c = put_none c.args.out.now (omega (arith, c.requires))

pub put_field-requires : goal.put_field-requires
put_field-requires c =
    omega (arith, c.requires, c.loop-field.invariant.next, put-length c.loop-field.invariant, fields_room written c.args.fields.now c.loop-field.field-index None c.loop-field-test.true)

pub loop-field-preserved : goal.loop-field-preserved
loop-field-preserved c =
    put_is (sym (fields_more written c.args.fields.now c.loop-field.field-index None c.loop-field-test.true))
    (put_then c.loop-field.invariant c.put_field.ensures)

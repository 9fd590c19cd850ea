use Rattle.std.proofs.Common.{[], ◌∷◌, length, ap, arith}
use Rattle.items.specs.Things.{thing_of}
use Rattle.encoding.proofs.Laying.{put_is, put_then, put-length}
use Rattle.listing.specs.Lines.{spaced}
use Rattle.listing.proofs.Fields.{line-length, line_parts}
use Rattle.listing.proofs.line.put_line.Goals as goal

pub put_byte-requires : goal.put_byte-requires
put_byte-requires c = omega (arith, c.requires, line-length (thing_of c.args.item))

pub put_fields-requires : goal.put_fields-requires
put_fields-requires c =
    let letter = c.put_byte.ensures.puts in
    omega (arith, c.requires, line-length (thing_of c.args.item), ap (λ l. length (spaced l)) c.fields_of.ensures.fields, letter.next, put-length letter)

pub put_byte-requires-2 : goal.put_byte-requires-2
put_byte-requires-2 c =
    let letter = c.put_byte.ensures.puts in
    let fields = c.put_fields.ensures.puts in
    omega (arith, c.requires, line-length (thing_of c.args.item), ap (λ l. length (spaced l)) c.fields_of.ensures.fields, letter.next, fields.next, put-length (put_then letter fields))

pub returns : goal.returns
returns c =
    let letter = put_is (ap (λ b. b ∷ []) c.letter_of.ensures) c.put_byte.ensures.puts in
    let fields = put_is (ap spaced c.fields_of.ensures.fields) c.put_fields.ensures.puts in
    record { puts = put_is (line_parts (thing_of c.args.item)) (put_then (put_then letter fields) c.put_byte-2.ensures.puts) }

use Rattle.std.proofs.Common.{◌≡◌, ◌∷◌, decimal, sym, ap, arith, rules}
use Rattle.encoding.proofs.Laying.{put_none, put_then, put_is, room_then}
use Rattle.listing.specs.Lines.{space, spaced}
use Rattle.listing.specs.Parts.{written}
use Rattle.listing.proofs.Fields.{one_field}
use Rattle.listing.proofs.field.put_field.Goals as goal

pub returns-in-None : goal.returns-in-None
returns-in-None c =
    put_is (ap (λ f. spaced (written f)) (sym c.in-None.is)) (put_none c.args.out.now (omega (arith, c.requires)))

pub put_decimal-requires : goal.put_decimal-requires
put_decimal-requires c =
    room_then _ (one_field (decimal c.in-Some-Unsigned.n)) c.put_byte.ensures.puts (search rules)

pub returns-in-Some-Unsigned : goal.returns-in-Some-Unsigned
returns-in-Some-Unsigned c =
    let e : space ∷ decimal c.in-Some-Unsigned.n ≡ spaced (written c.args.field) = search (rules, one_field) in
    put_is e (put_then c.put_byte.ensures.puts c.put_decimal.ensures.puts)

pub put_bytes-requires : goal.put_bytes-requires
put_bytes-requires c =
    room_then _ (one_field c.in-Some-Text.bytes.now) c.put_byte-in-Some-Text.ensures.puts (search rules)

pub returns-in-Some-Text : goal.returns-in-Some-Text
returns-in-Some-Text c =
    let e : space ∷ c.in-Some-Text.bytes.now ≡ spaced (written c.args.field) = search (rules, one_field) in
    put_is e (put_then c.put_byte-in-Some-Text.ensures.puts c.put_bytes.ensures.puts)

use Rattle.std.proofs.lemmas.Bool.Decides.{Decides-at}
use Rattle.items.specs.Things.{thing_of}
use Rattle.items.specs.Validity.{valid}
use Rattle.items.proofs.Tests.{decided}
use Rattle.items.proofs.validity.is_valid.Goals as goal

pub returns : goal.returns
returns c =
    let t = thing_of c.args.item in
    record { tests = c.are_fields.ensures; law = Decides-at _ (valid t) c.are_fields.ensures (decided t) }

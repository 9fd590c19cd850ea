use Rattle.std.proofs.Common.{◌-◌, sym, ap, ◌∙◌, arith}
use Rattle.bounds.specs.Points.{sum}
use Rattle.repetitions.specs.Spaces.{space_at}
use Rattle.repetitions.specs.Walks.{following, trail}
use Rattle.repetitions.proofs.Mades.{space_made}
use Rattle.repetitions.proofs.Trails.{nothing_after}
use Rattle.repetitions.proofs.copies.ListWalk.onward.Goals as goal

pub returns-then-self-eq1 : goal.returns-then-self-eq1
returns-then-self-eq1 c =
    let w = c.args.self in
    let file = c.args.file.now in
    c.ended.ensures file ∙ sym (nothing_after w.listing.axis w.listing.grid file (w.left - 1) w.whole (space_at w.listing.axis file w.place) (omega arith))

pub add-requires : goal.add-requires
add-requires c =
    let k = ((space_made c.args.self.listing.axis c.args.file.now c.args.self.place).on _ c.in-Ok.ensures.reads).2 in
    (c.requires.1, record { x = omega (arith, k.x); y = omega (arith, k.y) })

pub returns-in-Ok : goal.returns-in-Ok
returns-in-Ok c =
    let w = c.args.self in
    let file = c.args.file.now in
    ap (λ p. trail w.listing.axis w.listing.grid file (w.left - 1) c.in-Ok.space.next p) c.add.ensures
    ∙ ap (λ r. following r (λ d n. trail w.listing.axis w.listing.grid file (w.left - 1) n (sum w.whole d))) c.in-Ok.ensures.reads

pub returns-in-Err : goal.returns-in-Err
returns-in-Err c =
    let w = c.args.self in
    let file = c.args.file.now in
    c.ended-in-Err.ensures file
    ∙ ap (λ r. following r (λ d n. trail w.listing.axis w.listing.grid file (w.left - 1) n (sum w.whole d))) c.in-Err.ensures.reads

use Rattle.std.proofs.Common.{sym, arith}
use Rattle.bounds.proofs.Fitting.{within_near}
use Rattle.repetitions.specs.Walks.{furthest}
use Rattle.repetitions.proofs.Trails.{trail_none, trail-next, trail_far, trail_out}
use Rattle.repetitions.proofs.copies.ListWalk.next_copy.Goals as goal

pub returns-then-self-eq0 : goal.returns-then-self-eq0
returns-then-self-eq0 c =
    let w = c.args.self.now in
    let e = trail_none w.listing.axis w.listing.grid c.args.file.now w.left w.place w.whole (omega arith) in
    (e, e)

pub returns-then-not-reaches : goal.returns-then-not-reaches
returns-then-not-reaches c =
    let w = c.args.self.now in
    let e = trail_far w.listing.axis w.listing.grid c.args.file.now w.left w.place w.whole (omega arith) c.if-not-reaches.ensures.tells in
    (e, e)

pub onward-requires : goal.onward-requires
onward-requires c = (omega arith, within_near furthest c.args.self.now.whole (sym c.if-not-reaches.ensures.tells))

pub returns-in_err-copy : goal.returns-in_err-copy
returns-in_err-copy c =
    let w = c.args.self.now in
    let e = trail_out w.listing.axis w.listing.grid c.args.file.now w.left w.place w.whole (omega arith) c.if-not-reaches.ensures.tells c.in_err-copy.ensures.stands in
    rw c.from_residual.ensures (e, e)

pub returns : goal.returns
returns c =
    let w = c.args.self.now in
    trail-next w.listing.axis w.listing.grid c.args.file.now w.left w.place w.whole c.in_ok-copy.copy _ (omega arith) c.if-not-reaches.ensures.tells c.in_ok-copy.ensures.stands c.onward.ensures

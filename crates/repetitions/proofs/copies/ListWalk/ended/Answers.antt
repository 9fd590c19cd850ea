use Rattle.std.proofs.Common.{refl}
use Rattle.repetitions.proofs.Trails.{trail_none}
use Rattle.repetitions.proofs.copies.ListWalk.ended.Goals as goal

pub returns : goal.returns
returns c = λ file. let w = c.args.self in trail_none w.listing.axis w.listing.grid file 0 w.place w.whole refl

use Rattle.std.proofs.Common.{◌≡◌, ◌-◌, ◌*◌, Some}
use Rattle.tokens.specs.Chains.{largest}
use Rattle.bounds.specs.Points.{Near, origin}
use Rattle.bounds.specs.Boxes.{nothing}
use Rattle.repetitions.specs.Spaces.{space_at, series}
use Rattle.repetitions.specs.Repetitions.{boxed, spaces_at}
use Rattle.repetitions.proofs.spread.read_spread.Given as goal

abbrev pub invariant-loop-i : goal.invariant-loop-i
invariant-loop-i l =
    Near (l._i * largest) l.whole ×
    (boxed l.listing.grid l.whole l.bounds (series (space_at l.listing.axis) (l.listing.spaces - l._i) l.file l.place)
    ≡ boxed l.listing.grid origin (Some nothing) (spaces_at l.listing l.file l.at))

use Rattle.std.proofs.Common.{◌≡◌, ◌-◌, ◌++◌, length, vec_items}
use Rattle.runs.specs.Runs.{walked, run}
use Rattle.records.specs.Listings.{trail_lines}
use Rattle.records.proofs.listing.lines_of.Given as goal

abbrev pub invariant-loop-found : goal.invariant-loop-found
invariant-loop-found l =
    (vec_items l.out ++ trail_lines l.file (walked l.file l.walk.position) ≡ trail_lines l.file (run l.file))
    × (l.walk.file.now ≡ l.file)

abbrev pub decreases-loop-found : goal.decreases-loop-found
decreases-loop-found l = length l.file - l.walk.position.at

use Rattle.std.proofs.Common.{◌≡◌, ◌-◌, length}
use Rattle.point_lists.specs.Rolls.{unrolled, tally}
use Rattle.point_lists.specs.Walks.{advanced, Steady}
use Rattle.point_lists.specs.Lists.{walked}
use Rattle.point_lists.specs.Fills.{written, filled}
use Rattle.point_lists.proofs.fill.write_walk.Given as goal

-- what is left to write, behind what was written, is the whole
abbrev pub invariant-loop-vertex : goal.invariant-loop-vertex
invariant-loop-vertex l =
    Steady l.step.value
    × (tally (written l.first) (record { points = l.out; next = l.vertex-index; last = l.step.value.at }) (unrolled (advanced l.file) (length l.initial.out - l.vertex-index) l.step.next l.step.value)
    ≡ filled l.first l.initial.out (walked l.fn.kind (length l.initial.out) l.file l.at))

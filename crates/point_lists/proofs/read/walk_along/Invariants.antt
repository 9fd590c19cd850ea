use Rattle.std.proofs.Common.{◌≡◌, ◌-◌}
use Rattle.point_lists.specs.Rolls.{unrolled, tally}
use Rattle.point_lists.specs.Walks.{advanced, Steady}
use Rattle.point_lists.specs.Lists.{walked, noted, untoured}
use Rattle.point_lists.proofs.read.walk_along.Given as goal

-- what is left to walk, added to what was found, is what the whole walk finds
abbrev pub invariant-loop-i : goal.invariant-loop-i
invariant-loop-i l =
    Steady l.step.value
    × (tally noted (record { last = l.step.value.at; bounds = l.bounds }) (unrolled (advanced l.file) (l.fn.head.count - l._i) l.step.next l.step.value)
    ≡ tally noted untoured (walked l.fn.head.kind l.fn.head.count l.file l.at))

use Rattle.std.proofs.Common.{◌≡◌, length}
use Rattle.runs.specs.Passes.{over}
use Rattle.runs.specs.Runs.{run}
use Rattle.runs.specs.Walks.{left}
use Rattle.runs.proofs.Passes.{over_all}
use Rattle.runs.proofs.pass.run_pass.Given as goal

abbrev pub invariant-loop-found : goal.invariant-loop-found
invariant-loop-found g l =
    let p = g.P.Pass in
    over_all p.grown (p.state l.pass) (left l.found-iterator) ≡ over p.grown (p.state l.fn.pass) (run l.file)

abbrev pub decreases-loop-found : goal.decreases-loop-found
decreases-loop-found g l = length (left l.found-iterator)

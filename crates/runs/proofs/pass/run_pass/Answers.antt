use Rattle.std.proofs.Common.{rules, ◌≡◌, [], ap, ◌∙◌, sym}
use Rattle.runs.specs.Runs.{run}
use Rattle.runs.specs.Walks.{left}
use Rattle.runs.proofs.Passes.{over_all, over_outcomes}
use Rattle.runs.proofs.Wholes.{whole_run}
use Rattle.runs.proofs.pass.run_pass.Goals as goal

pub loop-found-init : goal.loop-found-init
loop-found-init g c =
    let p = g.P.Pass in
    let s = p.state c.args.pass.now in
    ap (over_all p.grown s) (ap left c.into_iter-found-iterator.ensures.into_iter_gives ∙ c.in_ok-found-items.ensures.gives)
    ∙ over_outcomes p.grown s (run c.args.file.now)

pub returns-clause-whole : goal.returns-clause-whole
returns-clause-whole g c =
    let p = g.P.Pass in
    let s = p.state c.loop-found.pass in
    let none : left c.loop-found.found-iterator ≡ [] = search rules in
    whole_run p.grown (p.state c.args.pass.now) s c.args.file.now (sym (ap (over_all p.grown s) none) ∙ c.loop-found.invariant)

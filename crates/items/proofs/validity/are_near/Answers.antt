use Rattle.std.proofs.Common.{◌∙◌, rules, tests}
use Rattle.std.proofs.lemmas.Iterator.{YieldsList-from_slice}
use Rattle.std.proofs.lemmas.Iterator.Search.{all_from_yields_List}
use Rattle.bounds.specs.Points.{reach, within}
use Rattle.items.proofs.Tests.{all_within_is}
use Rattle.items.proofs.validity.are_near.Goals as goal

pub returns : goal.returns
returns c =
    let ps = c.args.points.now in
    all_from_yields_List (within reach) _ _ _ c.all.ensures.ran (YieldsList-from_slice ps cc) (λ x b q k. search (rules, tests)) ∙ all_within_is reach ps

use Rattle.std.proofs.Common.{rules, tests}
use Rattle.std.proofs.lemmas.Iterator.{YieldsList-from_slice}
use Rattle.std.proofs.lemmas.Iterator.Search.{position_from_yields_List}
use Rattle.keyed.specs.Rows.{table, has_key}
use Rattle.keyed.proofs.Finding.{found_is}
use Rattle.keyed.proofs.table.Table.find.Goals as goal

-- by `search` from what `position` answers, so that a wrong step behind it is refused for its value
pub returns : goal.returns
returns g c =
    let e = position_from_yields_List {all = table c.args.self.now} (has_key g.K.Key.same c.args.key) _ _ c.position.result c.position.ensures.ran (YieldsList-from_slice _ cc) (λ x b q k. search (rules, tests)) in
    record { place = search (rules, e); found = found_is g.K.Key.same g.met.K.Key.decides c.args.key _ _ (search (rules, e)) }

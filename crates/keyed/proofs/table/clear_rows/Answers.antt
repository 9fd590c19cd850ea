use Rattle.std.proofs.Common.{set, ◌∙◌}
use Rattle.std.proofs.Math.Path.{ap₂}
use Rattle.keyed.proofs.Tables.{cleared_more, cleared_all}
use Rattle.keyed.proofs.table.clear_rows.Goals as goal

pub loop-row-preserved : goal.loop-row-preserved
loop-row-preserved g c =
    ap₂ (λ k v. set c.loop-row.rows c.loop-row.row-index (record { key = k; value = v })) c.zeroed.ensures c.zeroed-2.ensures
    ∙ cleared_more _ _ _ _ c.loop-row-test.true c.loop-row.invariant

pub returns : goal.returns
returns g c = record { zeros = cleared_all _ _ _ _ c.loop-row-test.false c.loop-row.auto.row-index-end c.loop-row.invariant }

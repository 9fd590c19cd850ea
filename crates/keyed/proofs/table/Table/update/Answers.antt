use Rattle.std.proofs.Common.{◌<◌, length, sym, ◌∙◌, arith, length-take}
use Rattle.std.proofs.lemmas.Bool.{cond-true, lt-ltb}
use Rattle.keyed.specs.Rows.{table}
use Rattle.keyed.proofs.Tables.{take-updated, updated_past, set_updated}
use Rattle.keyed.proofs.table.Table.update.Goals as goal

pub returns-then-i-self-clause-rows : goal.returns-then-i-self-clause-rows
returns-then-i-self-clause-rows g c = sym (updated_past _ _ _ (omega (arith, c.if-i-self.true, length-take c.args.self.now.used c.args.self.now.rows.now)))

pub returns-clause-rows : goal.returns-clause-rows
returns-clause-rows g c = take-updated c.args.self.now.used c.args.i _ _ _ (omega (arith, length-take c.args.self.now.used c.args.self.now.rows.now))

pub returns-clause-memory : goal.returns-clause-memory
returns-clause-memory g c =
    let h : c.args.i < length (table c.args.self.now) = omega (arith, length-take c.args.self.now.used c.args.self.now.rows.now) in
    set_updated _ c.args.i _ c.args.value ∙ sym (cond-true _ _ _ (lt-ltb _ _ h))

use Rattle.std.proofs.Common.{◌≡◌, true, false, is_some, sym, refl, ap, ◌∙◌, rules}
use Rattle.tokens.specs.Outcomes.{left_by, told}
use Rattle.keyed.specs.Rows.{table, memory, room, find_key}
use Rattle.name_table.specs.Keys.{same_pair}
use Rattle.name_table.specs.Enter.{shown, any_clash}
use Rattle.name_table.proofs.Rows.{row_told, decided-clash, enters_none, enters_known, enters_answer, enters_rows, enters_memory}
use Rattle.name_table.proofs.table.enter_row.Goals as goal

-- the answer by `search`, so that another fault behind the same test is refused for its value
pub returns-then-any_clash : goal.returns-then-any_clash
returns-then-any_clash c =
    let t = c.args.table.now in
    let names = shown c.args.file.now (table t) in
    let there : any_clash c.args.file.now c.args.new (table t) ≡ true = cc in
    let e = sym (enters_none c.args.file.now c.args.new (table t) there (room t)) in
    let conflict = ap told e in
    record { answer = search (rules, conflict); rows = ap (left_by names) e; memory = sym (decided-clash c.args.file.now c.args.new (table t) there _ _ _); lender = refl }

pub returns-then-is_some : goal.returns-then-is_some
returns-then-is_some c =
    let t = c.args.table.now in
    let apart : any_clash c.args.file.now c.args.new (table t) ≡ false = cc in
    let there : is_some (find_key same_pair c.args.new.key (table t)) ≡ true = cc in
    let e = enters_known c.args.file.now c.args.new (table t) apart (room t) (memory t) there in
    record { answer = e.0; rows = e.1; memory = e.2; lender = refl }

pub returns : goal.returns
returns c =
    let t = c.args.table.now in
    let i = c.insert.ensures in
    let apart : any_clash c.args.file.now c.args.new (table t) ≡ false = cc in
    let missing : is_some (find_key same_pair c.args.new.key (table t)) ≡ false = cc in
    let e : c.map_err.result ≡ row_told c.insert.result = search rules in
    record {
      answer = e ∙ ap row_told i.answer ∙ enters_answer c.args.file.now c.args.new (table t) apart (room t) (memory t) missing;
      rows = ap (shown c.args.file.now) i.rows ∙ enters_rows c.args.file.now c.args.new (table t) apart (room t) (memory t) missing;
      memory = i.memory ∙ enters_memory c.args.file.now c.args.new (table t) apart (room t) (memory t) missing;
      lender = i.lender;
    }

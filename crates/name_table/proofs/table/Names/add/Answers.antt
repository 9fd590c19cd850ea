use Rattle.std.proofs.Common.{◌≡◌, length, ap, ◌∙◌, subst, rules}
use Rattle.tokens.specs.Outcomes.{left_by}
use Rattle.keyed.specs.Rows.{memory, room}
use Rattle.name_table.specs.Enter.{view, seen, enter, told_at, memory_after}
use Rattle.name_table.proofs.Rows.{memory-length}
use Rattle.name_table.proofs.Held.{add_held}
use Rattle.name_table.proofs.table.Names.add.Goals as goal

-- what `take` says of the class that it was given, said of the trait's: each `search` shows that they are one
pub returns : goal.returns
returns g c =
    let n = c.args.self.now in
    let k = g.C.NameClass.IMPLICIT in
    let f = c.args.fields in
    let t = c.take.ensures in
    let answer = subst (λ class. c.take.result ≡ told_at c.args.at (enter (room n.table) (view n) (seen n.file.now class f))) (search rules) t.answer in
    let rows = subst (λ class. view c.take.new.self ≡ left_by (view n) (enter (room n.table) (view n) (seen n.file.now class f))) (search rules) t.rows in
    let memory = subst (λ class. memory c.take.new.self.table ≡ memory_after n class f) (search rules) t.memory in
    record {
      answer = answer;
      rows = rows;
      law = add_held n (seen n.file.now k f) c.args.at _ _ answer rows;
      memory = memory;
      room = ap length memory ∙ memory-length n k f;
      file = t.file;
      lender = t.lender;
    }

use Rattle.std.proofs.Common.{◌≡◌, ap, ◌∙◌, subst, rules}
use Rattle.std.specs.List.{find}
use Rattle.std.specs.Option.{option_map}
use Rattle.tokens.specs.Parts.{bytes_in}
use Rattle.keyed.specs.Rows.{table, has_key}
use Rattle.name_table.specs.Keys.{same_pair}
use Rattle.name_table.specs.Enter.{view}
use Rattle.name_table.proofs.Held.{find-shown, find_held}
use Rattle.name_table.proofs.table.Names.find.Goals as goal

-- what `get` says of the class in its key, said of the trait's: `search` shows that they are one
pub returns : goal.returns
returns g c =
    let n = c.args.self.now in
    let k = g.C.NameClass.IMPLICIT in
    let e : option_map (λ x. x.now) c.map.result ≡ option_map (λ v. bytes_in n.file.now v.part) c.get.result = search rules in
    let v = subst (λ class. c.get.result ≡ option_map (λ row. row.value) (find (has_key same_pair (record { class = class; number = c.args.number })) (table n.table))) (search rules) c.get.ensures.value in
    let p = e ∙ ap (option_map (λ v. bytes_in n.file.now v.part)) v ∙ find-shown n.file.now (record { class = k; number = c.args.number }) (table n.table) in
    record { part = p; law = λ rs h. find_held k c.args.number (view n) rs _ p h }

use Rattle.std.proofs.Common.{◌≡◌, sym, ◌∙◌, arith, rules}
use Rattle.std.specs.List.{sum_by}
use Rattle.std.proofs.lemmas.Iterator.{YieldsList-from_slice, YieldsList-from_map}
use Rattle.std.proofs.lemmas.Iterator.Consumers.{YieldsList-at, sum_by_from_yields_List, fits_by_from_yields_list}
use Rattle.listing.proofs.Fields.{size_of, size_within, fields_length, fields_most}
use Rattle.listing.proofs.field.fields_size.Goals as goal

pub sum-requires-clause-fits : goal.sum-requires-clause-fits
sum-requires-clause-fits c =
    let fs = c.args.fields.now in
    fits_by_from_yields_list size_within fs _ _
    (YieldsList-from_map _ size_within (YieldsList-at c.map.ensures.source (YieldsList-from_slice fs cc)) c.map.ensures.closure (λ f n q k. search rules))
    (omega (arith, c.requires, fields_most fs))

pub returns-clause-bytes : goal.returns-clause-bytes
returns-clause-bytes c =
    let fs = c.args.fields.now in
    sum_by_from_yields_List size_of fs _ _ c.sum.ensures.ran
    (YieldsList-from_map _ size_of (YieldsList-at c.map.ensures.source (YieldsList-from_slice fs cc)) c.map.ensures.closure (λ f n q k. search rules))
    ∙ sym (fields_length fs)

pub returns-clause-few : goal.returns-clause-few
returns-clause-few c =
    let fs = c.args.fields.now in
    let e : c.sum.result ≡ sum_by size_within fs =
    sum_by_from_yields_List size_within fs _ _ c.sum.ensures.ran
    (YieldsList-from_map _ size_within (YieldsList-at c.map.ensures.source (YieldsList-from_slice fs cc)) c.map.ensures.closure (λ f n q k. search rules)) in
    omega (arith, e, fields_most fs)

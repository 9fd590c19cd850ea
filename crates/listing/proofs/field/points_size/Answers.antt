use Rattle.std.proofs.Common.{◌≡◌, ℕ, min, ◌∙◌, sym, arith, rules}
use Rattle.std.specs.List.{sum_by}
use Rattle.std.proofs.lemmas.Iterator.{YieldsList-from_slice, YieldsList-from_map}
use Rattle.std.proofs.lemmas.Iterator.Consumers.{YieldsList-at, sum_by_from_yields_List}
use Rattle.std.proofs.lemmas.List.Sums.{sum_by-le}
use Rattle.bounds.specs.declared.point.Point.{Point}
use Rattle.listing.proofs.Fields.{point_size, points_length}
use Rattle.listing.proofs.field.points_size.Goals as goal

pub returns-clause-bytes : goal.returns-clause-bytes
returns-clause-bytes c =
    let ps = c.args.points.now in
    sum_by_from_yields_List point_size ps _ _ c.sum.ensures.ran
    (YieldsList-from_map _ point_size (YieldsList-at c.map.ensures.source (YieldsList-from_slice ps cc)) c.map.ensures.closure (λ p n q k. search rules))
    ∙ sym (points_length ps)

pub returns-clause-few : goal.returns-clause-few
returns-clause-few c =
    let ps = c.args.points.now in
    let few : Point → ℕ = λ p. min (point_size p) 44 in
    let e : c.sum.result ≡ sum_by few ps =
    sum_by_from_yields_List few ps _ _ c.sum.ensures.ran
    (YieldsList-from_map _ few (YieldsList-at c.map.ensures.source (YieldsList-from_slice ps cc)) c.map.ensures.closure (λ p n q k. search rules)) in
    omega (arith, e, sum_by-le few 44 ps (λ k d h. omega arith))

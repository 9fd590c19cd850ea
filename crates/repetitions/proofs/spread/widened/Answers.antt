use Rattle.std.proofs.Common.{arith, w64, SFits, rules}
use Rattle.repetitions.proofs.Products.{wide_room, wide_back}
use Rattle.repetitions.proofs.spread.widened.Goals as goal

pub overflow_mul-x : goal.overflow_mul-x
overflow_mul-x c =
    let f : SFits w64 c.args.p.x = search rules in
    wide_room c.args.grid c.args.p.x _ _ (omega arith) f c.from.ensures c.from-2.ensures

pub overflow_mul-y : goal.overflow_mul-y
overflow_mul-y c =
    let f : SFits w64 c.args.p.y = search rules in
    wide_room c.args.grid c.args.p.y _ _ (omega arith) f c.from-3.ensures c.from-4.ensures

pub returns : goal.returns
returns c =
    let f : SFits w64 c.args.p.x = search rules in
    let g : SFits w64 c.args.p.y = search rules in
    let x = wide_back c.args.grid c.args.p.x _ _ (omega arith) f c.from.ensures c.from-2.ensures in
    let y = wide_back c.args.grid c.args.p.y _ _ (omega arith) g c.from-3.ensures c.from-4.ensures in
    λ i. record { x = x i; y = y i }

use Rattle.std.proofs.Common.{arith}
use Rattle.std.proofs.lemmas.Int.{ints, clamps}
use Rattle.repetitions.proofs.Corners.{corner_sides, corners_by}
use Rattle.repetitions.proofs.plan.Matrix.bounds.Goals as goal

pub overflow_add-result : goal.overflow_add-result
overflow_add-result c = omega (arith, ints, clamps, c.scale-a.ensures.near.x, c.scale-b.ensures.near.x)

pub overflow_add-result-2 : goal.overflow_add-result-2
overflow_add-result-2 c = omega (arith, ints, clamps, c.scale-a.ensures.near.x, c.scale-b.ensures.near.x)

pub overflow_add-result-3 : goal.overflow_add-result-3
overflow_add-result-3 c = omega (arith, ints, clamps, c.scale-a.ensures.near.y, c.scale-b.ensures.near.y)

pub overflow_add-result-4 : goal.overflow_add-result-4
overflow_add-result-4 c = omega (arith, ints, clamps, c.scale-a.ensures.near.y, c.scale-b.ensures.near.y)

pub returns : goal.returns
returns c =
    let a = c.scale-a.result in
    let b = c.scale-b.result in
    record {
      around = corners_by c.args.self c.requires _ a b c.scale-a.ensures.value c.scale-b.ensures.value
          (corner_sides a b _ _ _ _
          (omega (arith, ints, clamps, c.min.ensures.value, c.min-2.ensures.value, c.scale-a.ensures.near.x, c.scale-b.ensures.near.x))
          (omega (arith, ints, clamps, c.max.ensures.value, c.max-2.ensures.value, c.scale-a.ensures.near.x, c.scale-b.ensures.near.x))
          (omega (arith, ints, clamps, c.min-3.ensures.value, c.min-4.ensures.value, c.scale-a.ensures.near.y, c.scale-b.ensures.near.y))
          (omega (arith, ints, clamps, c.max-3.ensures.value, c.max-4.ensures.value, c.scale-a.ensures.near.y, c.scale-b.ensures.near.y)));
    }

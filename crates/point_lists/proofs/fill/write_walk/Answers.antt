use Rattle.std.proofs.Common.{◌≡◌, ◌+◌, ◌-◌, Ok, length, set, sym, ap, ◌∙◌, arith}
use Rattle.std.specs.Result.{result_ok}
use Rattle.point_lists.specs.Rolls.{tally, unrolled}
use Rattle.point_lists.specs.Walks.{advanced}
use Rattle.point_lists.specs.Fills.{written}
use Rattle.point_lists.proofs.Oks.{ok_some, ok_none}
use Rattle.point_lists.proofs.Rolls.{tally_more, tally_stop, tally_none}
use Rattle.point_lists.proofs.Steps.{Stepped, advanced_made}
use Rattle.point_lists.proofs.fill.write_walk.Goals as goal
use Rattle.point_lists.proofs.fill.write_walk.Goals.{In_ok-step}

-- the step was read
stepping : (c : In_ok-step) → Ok c.in_ok-step.step ≡ advanced c.args.file.now c.loop-vertex.step.next c.loop-vertex.step.value
stepping c = ok_some _ (c.in_ok-step.ensures.value ∙ ap result_ok c.advance.ensures)

-- it keeps the walk steady
stepped : (c : In_ok-step) → Stepped c.loop-vertex.step.value c.in_ok-step.step.value
stepped c = ((advanced_made c.args.file.now c.loop-vertex.step.next c.loop-vertex.step.value c.loop-vertex.invariant.0).on _ (stepping c)).2

pub returns-in_err-step : goal.returns-in_err-step
returns-in_err-step c =
    let stop = ok_none (advanced c.args.file.now c.loop-vertex.step.next c.loop-vertex.step.value) (c.in_err-step.ensures.value ∙ ap result_ok c.advance.ensures) in
    rw c.from_residual.ensures
    (record {
      steady = tt;
      writes =
          (stop.0, sym c.loop-vertex.invariant.1 ∙ tally_stop (advanced c.args.file.now) (written c.args.first) _ (length c.args.out.now) c.loop-vertex.vertex-index _ _ _ (omega arith) stop.1);
    })

pub add-requires : goal.add-requires
add-requires c =
    let s = (stepped (goal.at.add-requires c).In_ok-step).steady.at in
    let f = c.requires in
    (record { x = omega (arith, f.x); y = omega (arith, f.y) }, record { x = omega (arith, s.x); y = omega (arith, s.y) })

pub loop-vertex-preserved : goal.loop-vertex-preserved
loop-vertex-preserved c =
    let now = (goal.at.loop-vertex-preserved c).In_ok-step in (
      (stepped now).steady,
      ap
          (λ p. tally (written c.args.first) (record { points = set c.loop-vertex.out c.loop-vertex.vertex-index p; next = c.loop-vertex.vertex-index + 1; last = c.in_ok-step.step.value.at }) (unrolled (advanced c.args.file.now) (length c.args.out.now - (c.loop-vertex.vertex-index + 1)) c.in_ok-step.step.next c.in_ok-step.step.value))
          c.add.ensures
          ∙ sym (tally_more (advanced c.args.file.now) (written c.args.first) _ (length c.args.out.now) c.loop-vertex.vertex-index _ _ _ (omega arith) (stepping now))
          ∙ c.loop-vertex.invariant.1,
    )

pub returns : goal.returns
returns c = record {
  steady = c.loop-vertex.invariant.0;
  writes =
      (_, _, sym c.loop-vertex.invariant.1 ∙ tally_none (advanced c.args.file.now) (written c.args.first) _ (length c.args.out.now) c.loop-vertex.vertex-index _ _ (omega arith));
}

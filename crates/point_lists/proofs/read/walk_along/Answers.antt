use Rattle.std.proofs.Common.{◌+◌, ◌-◌, sym, ap, ◌∙◌, arith}
use Rattle.tokens.proofs.Chaining.{exited}
use Rattle.point_lists.specs.Rolls.{tally, unrolled}
use Rattle.point_lists.specs.Walks.{advanced}
use Rattle.point_lists.specs.Lists.{noted}
use Rattle.point_lists.proofs.Rolls.{tally_more, tally_stop, tally_none}
use Rattle.point_lists.proofs.Steps.{advanced_made}
use Rattle.point_lists.proofs.read.walk_along.Goals as goal

pub returns-in_err-step : goal.returns-in_err-step
returns-in_err-step c =
    exited _ c.from_residual.ensures.1
    ∙ sym (sym c.loop-i.invariant.1 ∙ tally_stop (advanced c.args.file.now) noted _ c.args.head.count c.loop-i._i _ _ _ (omega arith) c.in_err-step.ensures)

pub loop-i-preserved : goal.loop-i-preserved
loop-i-preserved c = (
  ((advanced_made c.args.file.now c.loop-i.step.next c.loop-i.step.value c.loop-i.invariant.0).on _ c.in_ok-step.ensures).2.steady,
  ap (λ b. tally noted (record { last = c.in_ok-step.step.value.at; bounds = b }) (unrolled (advanced c.args.file.now) (c.args.head.count - (c.loop-i._i + 1)) c.in_ok-step.step.next c.in_ok-step.step.value)) c.grow-bounds.ensures.around
      ∙ sym (tally_more (advanced c.args.file.now) noted _ c.args.head.count c.loop-i._i _ _ _ (omega arith) c.in_ok-step.ensures)
      ∙ c.loop-i.invariant.1,
)

pub returns : goal.returns
returns c = sym (sym c.loop-i.invariant.1 ∙ tally_none (advanced c.args.file.now) noted _ c.args.head.count c.loop-i._i _ _ (omega arith))

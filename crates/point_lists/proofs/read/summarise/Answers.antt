use Rattle.std.proofs.Common.{ap, ◌∙◌}
use Rattle.tokens.specs.Answers.{got}
use Rattle.tokens.proofs.Chaining.{going, ending, first_way, other_way, exited}
use Rattle.point_lists.proofs.Heads.{head_made}
use Rattle.point_lists.proofs.Ends.{whole}
use Rattle.point_lists.proofs.read.summarise.Goals as goal

pub returns-in_err-head : goal.returns-in_err-head
returns-in_err-head c =
    ending _ c.in_err-head.ensures (exited _ c.from_residual.ensures.1) ∙ whole c.args.file.now c.args.at c.args.closed

pub returns-in_err-tour : goal.returns-in_err-tour
returns-in_err-tour c =
    going _ c.in_ok-head.ensures (ending _ c.in_err-tour.ensures (exited _ c.from_residual-in_err-tour.ensures.1))
    ∙ whole c.args.file.now c.args.at c.args.closed

pub returns-then-not-may_close : goal.returns-then-not-may_close
returns-then-not-may_close c =
    going _ c.in_ok-head.ensures
    (going _ c.in_ok-tour.ensures (other_way _ c.if-not-may_close.ensures c.refuse.ensures.refuses))
    ∙ whole c.args.file.now c.args.at c.args.closed

pub summary-requires : goal.summary-requires
summary-requires c = ((head_made c.args.file.now c.args.at c.args.closed).on _ c.in_ok-head.ensures).2.few

pub returns : goal.returns
returns c =
    going _ c.in_ok-head.ensures
    (going _ c.in_ok-tour.ensures
    (first_way _ c.if-not-may_close.ensures (ap (λ v. got v c.in_ok-tour.tour.next) c.summary.ensures)))
    ∙ whole c.args.file.now c.args.at c.args.closed

use Rattle.std.proofs.Common.{Ok, ap, ◌∙◌}
use Rattle.tokens.proofs.Chaining.{exited}
use Rattle.repetitions.specs.Walks.{begun}
use Rattle.repetitions.proofs.Mades.{plan_made}
use Rattle.repetitions.proofs.Trails.{begun_gives}
use Rattle.repetitions.proofs.copies.open_walk.Goals as goal

pub returns-in_err-plan : goal.returns-in_err-plan
returns-in_err-plan c =
    let e = exited _ c.from_residual.ensures.1 ∙ ap begun c.in_err-plan.ensures.reads in
    record { opens = e; gives = begun_gives c.args.file.now c.args.at _ e }

pub begin-walk-requires : goal.begin-walk-requires
begin-walk-requires c = ((plan_made c.args.file.now c.args.at).on _ c.in_ok-plan.ensures.reads).2

pub returns : goal.returns
returns c =
    let e = ap (λ w. Ok (record { walk = w })) c.begin-walk.ensures ∙ ap begun c.in_ok-plan.ensures.reads in
    record { opens = e; gives = begun_gives c.args.file.now c.args.at _ e }

use Rattle.std.proofs.Common.{◌≡◌, ℕ, List, Ok, sym, ap, ◌∙◌, subst}
use Rattle.tokens.specs.declared.fault.Read.{Read}
use Rattle.tokens.specs.Answers.{Answer}
use Rattle.tokens.proofs.Chaining.{going, ending, exited}
use Rattle.repetitions.specs.declared.plan.Plan.{Plan}
use Rattle.repetitions.specs.declared.summary.Summary.{Summary}
use Rattle.repetitions.specs.Plans.{plan, Sound}
use Rattle.repetitions.specs.Repetitions.{offsets, repetition, summarised}
use Rattle.repetitions.proofs.Listings.{summarised-then}
use Rattle.repetitions.proofs.Mades.{plan_made, summary_within}
use Rattle.repetitions.proofs.summary.read_repetition.Goals as goal

-- what is told of a plan that was read is the repetition in short
told : (file : List ℕ) (at : ℕ) (x : Read Plan) {p : Plan} {r : Answer Summary} → Ok x ≡ plan file at → x.value ≡ p → r ≡ summarised (offsets file at p x.next) → r ≡ summarised (repetition file at)
unfolding repetition
told file at x e q s =
    going _ e (s ∙ sym (ap (λ p. summarised (offsets file at p x.next)) q))
    ∙ summarised-then (plan file at) (λ p n. offsets file at p n)

pub returns-in_err-plan : goal.returns-in_err-plan
unfolding repetition
returns-in_err-plan c =
    let e = ending _ c.in_err-plan.ensures.reads (exited _ c.from_residual.ensures.1)
    ∙ summarised-then (plan c.args.file.now c.args.at) (λ p n. offsets c.args.file.now c.args.at p n) in
    record { reads = e; within = summary_within c.args.file.now c.args.at _ e }

pub sum_up_matrix-requires : goal.sum_up_matrix-requires
sum_up_matrix-requires c =
    subst Sound c.in-Uniform.is ((plan_made c.args.file.now c.args.at).on _ c.in_ok-plan.ensures.reads).2

pub sum_up_listing-requires : goal.sum_up_listing-requires
sum_up_listing-requires c =
    (subst Sound c.in-Listed.is ((plan_made c.args.file.now c.args.at).on _ c.in_ok-plan.ensures.reads).2).spaces

pub returns-in-Uniform : goal.returns-in-Uniform
returns-in-Uniform c =
    let e = told c.args.file.now c.args.at c.in_ok-plan.plan c.in_ok-plan.ensures.reads c.in-Uniform.is c.sum_up_matrix.ensures in
    record { reads = e; within = summary_within c.args.file.now c.args.at _ e }

pub returns-in-Listed : goal.returns-in-Listed
returns-in-Listed c =
    let e = told c.args.file.now c.args.at c.in_ok-plan.plan c.in_ok-plan.ensures.reads c.in-Listed.is c.sum_up_listing.ensures in
    record { reads = e; within = summary_within c.args.file.now c.args.at _ e }

use Rattle.std.proofs.Common.{ap, ◌∙◌}
use Rattle.bounds.specs.Points.{spot_at}
use Rattle.bounds.specs.Boxes.{bounds_of, boxes_fit}
use Rattle.bounds.proofs.Fitting.{boxes_tell}
use Rattle.bounds.proofs.fit.all_fit.Goals as goal

pub returns : goal.returns
returns c =
    let p = spot_at c.args.place in
    let tests = c.boxes_fit.ensures in
    record {
      tests = tests;
      law = λ os vs ro rv d e.
          tests ∙ ap (λ b. boxes_fit p b c.args.shape) d ∙ ap (λ b. boxes_fit p (bounds_of os) b) e ∙ boxes_tell p os vs ro rv;
    }

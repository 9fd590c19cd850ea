use Rattle.std.proofs.Common.{ap, ◌∙◌}
use Rattle.bounds.specs.Points.{reach, sum, within}
use Rattle.bounds.proofs.fit.corner_fits.Goals as goal

pub returns : goal.returns
returns c =
    c.reaches.ensures.tells ∙ ap (within reach) (c.add-2.ensures.0 ∙ ap (λ p. sum p c.args.vertex) c.add.ensures.0)

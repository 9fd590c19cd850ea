use Rattle.std.proofs.Common.{◌∙◌}
use Rattle.tokens.proofs.Chaining.{first_way, other_way}
use Rattle.repetitions.specs.Plans.{copies_of}
use Rattle.repetitions.proofs.Reaches.{reaching-in_short, matrix-reach, matrix_short}
use Rattle.repetitions.proofs.summary.sum_up_matrix.Goals as goal

pub returns-then-not-is_in_reach : goal.returns-then-not-is_in_reach
returns-then-not-is_in_reach c =
    other_way _ (matrix-reach c.args.matrix c.requires _ _ c.bounds-bounds.ensures.around c.if-not-is_in_reach.ensures) c.refuse.ensures.refuses
    ∙ reaching-in_short c.args.at c.args.next (copies_of c.args.matrix)

pub returns : goal.returns
returns c =
    first_way _ (matrix-reach c.args.matrix c.requires _ _ c.bounds-bounds.ensures.around c.if-not-is_in_reach.ensures)
    (matrix_short c.args.matrix c.args.next _ c.bounds-bounds.ensures.around)
    ∙ reaching-in_short c.args.at c.args.next (copies_of c.args.matrix)

use Rattle.std.proofs.Common.{◌+◌, ◌∷◌, sym, ap, ◌∙◌, arith}
use Rattle.repetitions.specs.Walks.{left_from}
use Rattle.repetitions.proofs.Walks.{left_step, left_turn}
use Rattle.repetitions.proofs.copies.MatrixWalk.next_copy.Goals as goal

pub returns-then-self : goal.returns-then-self
returns-then-self c =
    let w = c.args.self.now in
    left_step w.matrix w.column w.row (sym c.if-not-is_inside.ensures) (omega arith)
    ∙ ap (λ p. p ∷ left_from w.matrix (w.column + 1) w.row) (sym c.copy_at-copy.ensures)

pub returns-else-self : goal.returns-else-self
returns-else-self c =
    let w = c.args.self.now in
    left_turn w.matrix w.column w.row (sym c.if-not-is_inside.ensures) (omega arith)
    ∙ ap (λ p. p ∷ left_from w.matrix 0 (w.row + 1)) (sym c.copy_at-copy.ensures)

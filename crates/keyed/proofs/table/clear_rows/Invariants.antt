use Rattle.std.proofs.Common.{◌≡◌, ◌++◌, drop, replicate}
use Rattle.keyed.proofs.table.clear_rows.Given as goal

-- the rows before the index are zero rows, and the others are as they were
abbrev pub invariant-loop-row : goal.invariant-loop-row
invariant-loop-row g l =
    l.rows ≡ replicate l.row-index (record { key = g.K.Zero.zero; value = g.V.Zero.zero }) ++ drop l.row-index l.initial.rows

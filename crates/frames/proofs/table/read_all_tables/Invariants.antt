use Rattle.std.proofs.Common.{◌≡◌, ◌-◌}
use Rattle.frames.specs.Tables.{table_count, tables}
use Rattle.frames.proofs.table.read_all_tables.Given as goal

-- what is left to read is what the whole reads
abbrev pub invariant-loop-i : goal.invariant-loop-i
invariant-loop-i l = tables (table_count - l._i) l.file l.place ≡ tables table_count l.file l.at

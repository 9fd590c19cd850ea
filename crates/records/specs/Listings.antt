-- The lines of a whole file.
use Rattle.std.specs.Prelude.{ℕ, cond, List, [], ◌++◌, length, codes, nat_le}
use Rattle.runs.specs.Runs.{Trail, more, done, broken, run}
use Rattle.records.specs.Lines.{line_of, fault_line}

-- a line for each record, and one for the fault that ended them, if one did
abbrev pub trail_lines : List ℕ → Trail → List ℕ
trail_lines file (more r t) = line_of file r ++ trail_lines file t
trail_lines file done = []
trail_lines file (broken f) = fault_line f

-- what is printed for an input: the lines of its records, unless it has too many bytes
abbrev pub listing_of : List ℕ → List ℕ
listing_of file = cond (nat_le (length file) 65536) (trail_lines file (run file)) (codes "input longer than 65536 bytes\n")

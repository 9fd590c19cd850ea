-- Switches, and the table offsets.
use Rattle.std.specs.Prelude.{ℕ, zero, suc, Bool, cond, List, ◌==◌, nat_le}
use Rattle.tokens.specs.declared.fault.FaultKind.TheVariants.{Reserved}
use Rattle.tokens.specs.Answers.{Answer, got, fault, then}
use Rattle.tokens.specs.Chains.{unsigned}

-- how many name tables there are
abbrev pub table_count : ℕ
table_count = 6

-- the switch at the place `at`: 0 or 1
unfoldable pub switch : List ℕ → ℕ → Answer Bool
switch file at = then (unsigned file at) λ v n. cond (nat_le v 1) (got (v == 1) n) (fault Reserved at)

-- the switch and the offset of one table, of which nothing is kept
unfoldable pub table : List ℕ → ℕ → Answer (Unit {0})
table file at = then (switch file at) λ _ n. then (unsigned file n) λ _ m. got tt m

-- so many tables
unfoldable pub tables : ℕ → List ℕ → ℕ → Answer (Unit {0})
tables zero file at = got tt at
tables (suc k) file at = then (table file at) λ _ n. tables k file n

-- the table offsets, where they stand here
abbrev pub tables_where : (here : Bool) → List ℕ → ℕ → Answer (Unit {0})
tables_where here file at = cond here (tables table_count file at) (got tt at)

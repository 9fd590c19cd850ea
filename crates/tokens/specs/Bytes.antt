-- Info bytes.
use Rattle.std.specs.Prelude.{ℕ, ◌+◌, Bool, cond, not, List, length, ◌==◌, bit_and, nat_lt, slice_index}
use Rattle.tokens.specs.declared.fault.FaultKind.TheVariants.{Cut}
use Rattle.tokens.specs.Answers.{Answer, got, fault}

-- the byte at the place `at`
unfoldable pub byte_at : List ℕ → ℕ → Answer ℕ
byte_at file at = cond (nat_lt at (length file)) (got (slice_index file at) (at + 1)) (fault Cut at)

-- an info byte has a flag of the mask
abbrev pub flag : ℕ → ℕ → Bool
flag info mask = not (bit_and info mask == 0)

-- Bytes laid into memory.
use Rattle.std.specs.Prelude.{◌≡◌, ℕ, ◌+◌, ◌≤◌, List, ◌++◌, length, take, drop}
use Rattle.encoding.specs.declared.put.Buffer.{Buffer}

-- memory d with the bytes s laid over it from the place n on
unfoldable pub laid : List ℕ → ℕ → List ℕ → List ℕ
laid d n s = take n d ++ (s ++ drop (n + length s) d)

-- the buffer has room for the bytes s
abbrev pub Room : Buffer → List ℕ → Type 0
Room b s = b.at + length s ≤ length b.bytes.now

-- the bytes s were put into the buffer b: it is c then, over the same lent memory, and its place is behind them
pub record Put (b : Buffer) (s : List ℕ) (c : Buffer) : Type 0 where
  pub fits : Room b s
  pub memory : c.bytes.now ≡ laid b.bytes.now b.at s
  pub next : c.at ≡ b.at + length s
  pub lender : c.bytes.ghost_name ≡ b.bytes.ghost_name

-- Integers as chains of bytes: seven bits to a byte, the lowest first, and each byte but the last is 128 or more.
use Rattle.std.specs.Prelude.{ℕ, zero, suc, ◌+◌, ◌*◌, ◌%◌, ◌<◌, ◌≤◌, cond, List, [], ◌∷◌, drop, Ok, Err, Result, nat_le, nat_lt}
use Rattle.tokens.specs.declared.fault.FaultKind.TheVariants.{Cut, Wide}
use Rattle.tokens.specs.declared.fault.FaultKind.{FaultKind}
use Rattle.tokens.specs.Answers.{Answer, got, fault}

-- the greatest integer that a file may hold
abbrev pub largest : ℕ
largest = 17592186044415

-- the most bytes that a chain may have
abbrev pub chain_bytes : ℕ
chain_bytes = 10

-- how many values the seven bits of a byte have
abbrev pub radix : ℕ
radix = 128

-- these bytes are a chain for this value
pub data Chain : List ℕ → ℕ → Type 0 where
  last : {b : ℕ} → b < radix → Chain (b ∷ []) b
  more : {b v : ℕ} {bs : List ℕ} → radix ≤ b → Chain bs v → Chain (b ∷ bs) (b % radix + radix * v)

-- the value and the number of bytes of the chain that a byte is put before
abbrev pub before : ℕ → Result (ℕ × ℕ) FaultKind → Result (ℕ × ℕ) FaultKind
before b (Ok p) = Ok (b % radix + radix * p.0, suc p.1)
before b (Err k) = Err k

-- the value and the number of bytes of the chain at the front, of at most `room` bytes
abbrev pub chain : (room : ℕ) → List ℕ → Result (ℕ × ℕ) FaultKind
chain zero bs = Err Wide
chain (suc room) [] = Err Cut
chain (suc room) (b ∷ bs) = cond (nat_lt b radix) (Ok (b, 1)) (before b (chain room bs))

-- what is answered of a chain at the place `at`
abbrev pub placed : ℕ → Result (ℕ × ℕ) FaultKind → Answer ℕ
placed at (Ok p) = cond (nat_le p.0 largest) (got p.0 (at + p.1)) (fault Wide at)
placed at (Err k) = fault k at

-- the unsigned integer at the place `at`
unfoldable pub unsigned : List ℕ → ℕ → Answer ℕ
unsigned file at = placed at (chain chain_bytes (drop at file))

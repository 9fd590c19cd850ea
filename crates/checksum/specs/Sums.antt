-- Sums of bytes. `sum` is the library's: the sum of the numbers in a list.
use Rattle.std.specs.Prelude.{◌≡◌, ℕ, ◌+◌, ◌%◌, ◌^◌, List, sum}

-- CHECKSUM32: the sum of the bytes, modulo 2^32
abbrev pub checksum_of : List ℕ → ℕ
checksum_of bytes = sum bytes % 2 ^ 32

-- a running sum s of 64 bits, after these bytes were added
abbrev pub added : ℕ → List ℕ → ℕ
added s bytes = (s + sum bytes) % 2 ^ 64

-- a running sum that was started at zero has taken these bytes so far, one by one or in slices
abbrev pub Taken : ℕ → List ℕ → Type 0
Taken s past = s ≡ added 0 past

-- the checksum of two parts, one behind the other, from those of the parts
abbrev pub joined_checksum : ℕ → ℕ → ℕ
joined_checksum front back = (front + back) % 2 ^ 32

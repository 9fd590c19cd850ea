-- The two ends of a file: the magic that it begins with, and the checksum that it ends with.
use Rattle.std.specs.Prelude.{ℕ, ◌+◌, ◌*◌, Bool, List, [], ◌∷◌, take}
use Rattle.std.specs.Str.{bytes_eq}

-- "%SEMI-OASIS", carriage return, line feed
abbrev pub magic : List ℕ
magic = 0x25 ∷ 0x53 ∷ 0x45 ∷ 0x4d ∷ 0x49 ∷ 0x2d ∷ 0x4f ∷ 0x41 ∷ 0x53 ∷ 0x49 ∷ 0x53 ∷ 0x0d ∷ 0x0a ∷ []

-- whether a file begins with the magic
abbrev pub has_magic : List ℕ → Bool
has_magic file = bytes_eq (take 13 file) magic

-- the number that bytes hold, low byte first
abbrev pub low_first : List ℕ → ℕ
low_first [] = 0
low_first (b ∷ bs) = b + 256 * low_first bs

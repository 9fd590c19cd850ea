-- What is proved of START and END, in the subject's words.
use Rattle.std.specs.Prelude.{◌≡◌, ℕ, suc, ◌+◌, ◌-◌, ◌/◌, ◌%◌, ◌≤◌, Bool, true, false, cond, not, List, [], ◌∷◌, ◌++◌, length, drop, replicate}
use Rattle.std.specs.List.{between}
use Rattle.checksum.specs.Sums.{checksum_of}
use Rattle.tokens.specs.declared.text.StringRule.TheVariants.{Binary}
use Rattle.tokens.specs.Answers.{got}
use Rattle.tokens.specs.Chains.{unsigned}
use Rattle.tokens.specs.Encodings.{unit_bytes, FitsUnit}
use Rattle.tokens.specs.Laws.{Exactly}
use Rattle.tokens.specs.Readers.{Made, Back, Local}
use Rattle.tokens.specs.Texts.{text}
use Rattle.tokens.specs.Units.{unit}
use Rattle.frames.specs.declared.end.End.{End}
use Rattle.frames.specs.declared.end.End.TheVariants.{Checksum32}
use Rattle.frames.specs.declared.start.Start.{Start}
use Rattle.frames.specs.Tables.{table_count}
use Rattle.frames.specs.Starts.{version, start}
use Rattle.checksum.specs.Ends.{low_first}
use Rattle.frames.specs.Ends.{first_record, end_size, sum_scheme, last_scheme, signature_size, scheme_of, signature_of, end}

-- the number of a switch
abbrev pub bit : Bool → ℕ
bit on = cond on 1 0

-- so many pairs of a switch and an offset stand from the place `at` to the place n
pub data Tabled (file : List ℕ) : (count at n : ℕ) → Type 0 where
  none : {at : ℕ} → Tabled file 0 at at
  more : {count at m p n : ℕ} (on : Bool) (offset : ℕ) → unsigned file at ≡ got (bit on) m → unsigned file m ≡ got offset p → Tabled file count p n → Tabled file (suc count) at n

-- the table offsets stand from the place `at` to the place n, or nothing does where they are not here
abbrev pub TabledWhere : (here : Bool) → List ℕ → (at n : ℕ) → Type 0
TabledWhere true file at n = Tabled file table_count at n
TabledWhere false file at n = n ≡ at

-- START takes at least one byte, and its unit is one that a file can hold
abbrev pub StartMade : Type 0
StartMade = (file : List ℕ) (at : ℕ) → Made file (suc at) (start file at) (λ s n. FitsUnit s.unit)

-- it is read from no other bytes
abbrev pub StartLocal : Type 0
StartLocal = Local start

-- a START stands from the place `at` to the place n
pub record Starts (file : List ℕ) (at : ℕ) (s : Start) (n : ℕ) : Type 0 where
  -- where the unit, the switch and the table offsets begin
  pub first : ℕ
  pub second : ℕ
  pub third : ℕ
  pub versioned : text Binary file at ≡ got version first
  pub united : unit file first ≡ got s.unit second
  pub told : unsigned file second ≡ got (bit s.late) third
  pub tabled : TabledWhere (not s.late) file third n

-- START is read exactly where one stands
abbrev pub StartExactly : Type 0
StartExactly = (file : List ℕ) (at : ℕ) (s : Start) (n : ℕ) → Exactly (start file at ≡ got s n) (Starts file at s n)

-- the bytes of START's fields for a unit: the version, the unit, the switch off, and six tables that are not there
abbrev pub start_bytes : ℕ → List ℕ
start_bytes u = (0x03 ∷ version) ++ (unit_bytes u ++ (0x00 ∷ replicate 12 0x00))

-- they are read again
abbrev pub StartBack : Type 0
StartBack = (file : List ℕ) (at u : ℕ) → FitsUnit u → Back file at (start_bytes u) (start file at) (record { unit = u; late = false })

-- the last four bytes of the file, low byte first, are the checksum of all bytes from the first record to them
pub record Sealed (file : List ℕ) : Type 0 where
  pub four : 4 ≤ length file
  pub sum : low_first (drop (length file - 4) file) ≡ checksum_of (between first_record (length file - 4) file)

-- what holds of an END that was read, where n is the place after it
pub record Closes (file : List ℕ) (first : ℕ) (e : End) (n : ℕ) : Type 0 where
  pub last : n ≡ length file
  pub size : n ≡ first + end_size
  pub known : scheme_of e ≤ last_scheme
  pub sealed : scheme_of e ≡ sum_scheme → Sealed file

-- END takes at least one byte and ends the file, is of 256 bytes, and tells of a checksum only where that is the file's
abbrev pub EndMade : Type 0
EndMade = (file : List ℕ) (at first : ℕ) (late : Bool) → Made file (suc at) (end file at first late) (Closes file first)

-- an END stands from the place `at` to the end of the file, in a record that begins at the place `first`
pub record Ends (file : List ℕ) (at first : ℕ) (late : Bool) (e : End) : Type 0 where
  -- where the padding, the scheme and the signature begin
  pub padding : ℕ
  pub scheme : ℕ
  pub signature : ℕ
  pub tabled : TabledWhere late file at padding
  pub filler : List ℕ
  pub padded : text Binary file padding ≡ got filler scheme
  pub told : unsigned file scheme ≡ got (scheme_of e) signature
  pub known : scheme_of e ≤ last_scheme
  pub last : length file ≡ signature + signature_size (scheme_of e)
  pub size : length file ≡ first + end_size
  pub stored : signature_of e ≡ low_first (drop signature file)
  pub sum : scheme_of e ≡ sum_scheme → signature_of e ≡ checksum_of (between first_record signature file)

-- END is read exactly where one stands
abbrev pub EndExactly : Type 0
EndExactly = (file : List ℕ) (at first : ℕ) (late : Bool) (e : End) → Exactly (end file at first late ≡ got e (length file)) (Ends file at first late e)

-- the bytes of END's fields before its signature: a padding of 248 bytes, and the scheme of a checksum
abbrev pub end_bytes : List ℕ
end_bytes = 0xf8 ∷ 0x01 ∷ (replicate 248 0x00 ++ (sum_scheme ∷ []))

-- the four bytes that hold a number, low byte first
abbrev pub four_bytes : ℕ → List ℕ
four_bytes n = (n % 256) ∷ (n / 256 % 256) ∷ (n / 65536 % 256) ∷ (n / 16777216 % 256) ∷ []

-- the checksum of a file whose END begins at the place `first`: of all bytes from the first record to the signature
abbrev pub sum_before : List ℕ → (first : ℕ) → ℕ
sum_before file first = checksum_of (between first_record (first + 252) file)

-- where these bytes and those of the checksum stand behind END's ID, and nothing behind them, END is read again
abbrev pub EndBack : Type 0
EndBack =
    (file : List ℕ) (first : ℕ) → drop (first + 1) file ≡ end_bytes ++ four_bytes (sum_before file first) →
    end file (first + 1) first false ≡ got (Checksum32 (sum_before file first)) (length file)

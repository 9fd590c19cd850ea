-- END: the table offsets where they were not in START, a padding string, the validation scheme, and the signature.
use Rattle.std.specs.Prelude.{ℕ, ◌+◌, ◌-◌, Bool, cond, not, ◌&&◌, ◌||◌, List, length, take, drop, ◌==◌, nat_le}
use Rattle.std.specs.List.{between}
use Rattle.checksum.specs.Ends.{low_first}
use Rattle.checksum.specs.Sums.{checksum_of}
use Rattle.tokens.specs.declared.fault.FaultKind.TheVariants.{Cut, BadType, BadEnd, Checksum}
use Rattle.tokens.specs.declared.text.StringRule.TheVariants.{Binary}
use Rattle.tokens.specs.Answers.{Answer, got, fault, then}
use Rattle.tokens.specs.Chains.{unsigned}
use Rattle.tokens.specs.Texts.{text}
use Rattle.frames.specs.declared.end.End.{End}
use Rattle.frames.specs.declared.end.End.TheVariants.{Unsigned, Crc32, Checksum32}
use Rattle.frames.specs.Tables.{tables_where}

-- the place of the first record, behind the magic bytes
abbrev pub first_record : ℕ
first_record = 13

-- how many bytes END has, with its record-ID
abbrev pub end_size : ℕ
end_size = 256

-- the scheme of a file without a signature
abbrev pub no_scheme : ℕ
no_scheme = 0

-- the scheme of a file with a CRC
abbrev pub crc_scheme : ℕ
crc_scheme = 1

-- the scheme of a file with a checksum
abbrev pub sum_scheme : ℕ
sum_scheme = 2

-- the greatest scheme
abbrev pub last_scheme : ℕ
last_scheme = 2

-- how many bytes the signature of a scheme has
abbrev pub signature_size : (scheme : ℕ) → ℕ
signature_size scheme = cond (scheme == no_scheme) 0 4

-- the scheme of an END
abbrev pub scheme_of : End → ℕ
scheme_of Unsigned = no_scheme
scheme_of (Crc32 v) = crc_scheme
scheme_of (Checksum32 v) = sum_scheme

-- the signature that is stored in it, or 0 where there is none
abbrev pub signature_of : End → ℕ
signature_of Unsigned = 0
signature_of (Crc32 v) = v
signature_of (Checksum32 v) = v

-- the END with this scheme and this signature
abbrev pub signed_by : (scheme v : ℕ) → End
signed_by scheme v = cond (scheme == no_scheme) Unsigned (cond (scheme == crc_scheme) (Crc32 v) (Checksum32 v))

-- where the signature of an END begins that goes up to the place n
abbrev pub signature_place : End → (n : ℕ) → ℕ
signature_place e n = n - signature_size (scheme_of e)

-- the validation scheme at the place `at`
unfoldable pub scheme_at : List ℕ → ℕ → Answer ℕ
scheme_at file at = then (unsigned file at) λ v n. cond (nat_le v last_scheme) (got v n) (fault BadType at)

-- the number in the four bytes at the place `at`
unfoldable pub stored_at : List ℕ → ℕ → Answer ℕ
stored_at file at = cond (nat_le 4 (length file - at)) (got (low_first (take 4 (drop at file))) (at + 4)) (fault Cut at)

-- the signature of this scheme at the place `at`
unfoldable pub signature_at : (scheme : ℕ) → List ℕ → ℕ → Answer ℕ
signature_at scheme file at = cond (scheme == no_scheme) (got 0 at) (stored_at file at)

-- the scheme at the place `at` and the signature behind it
unfoldable pub validation_at : List ℕ → ℕ → Answer End
validation_at file at =
    then (scheme_at file at) λ scheme s.
    then (signature_at scheme file s) λ v n. got (signed_by scheme v) n

-- the checksum of the file from its first record to the place s
unfoldable pub sum_to : List ℕ → ℕ → ℕ
sum_to file s = checksum_of (between first_record s file)

-- the last tests, of an END up to the place n: it has its size and ends the file, and a checksum is the file's
unfoldable pub ended : List ℕ → (first : ℕ) → End → (n : ℕ) → Answer End
ended file first e n =
    cond (n == first + end_size && n == length file)
    (cond (not (scheme_of e == sum_scheme) || signature_of e == sum_to file (signature_place e n)) (got e n) (fault Checksum (signature_place e n)))
    (fault BadEnd first)

-- what follows the table offsets, from the place p
abbrev pub end_from : List ℕ → (first p : ℕ) → Answer End
end_from file first p =
    then (text Binary file p) λ _ q.
    then (validation_at file q) λ e n.
    ended file first e n

-- the fields of END from the place `at`, where the record begins at the place `first`
unfoldable pub end : List ℕ → (at first : ℕ) (late : Bool) → Answer End
end file at first late = then (tables_where late file at) λ _ p. end_from file first p

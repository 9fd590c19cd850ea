-- The two ends of a file: the magic that it begins with, and the checksum that it ends with.
use Rattle.std.specs.Prelude.{◌≡◌, ℕ, ◌-◌, cond, List, ◌++◌, length, drop, Ok, Err, Result, ◌==◌, nat_lt}
use Rattle.std.specs.List.{between}
use Rattle.checksum.specs.Sums.{checksum_of}
use Rattle.checksum.specs.Ends.{magic, has_magic, low_first}
use Rattle.signature.specs.declared.report.Signature.{Signature}
use Rattle.signature.specs.declared.report.Absence.{Absence}
use Rattle.signature.specs.declared.report.Absence.TheVariants.{Empty, TooShort, NoMagic}
use Rattle.signature.specs.declared.report.Report.{Report}

-- the checksum of a body, and the one that the bytes behind it hold
abbrev pub signed_by : List ℕ → List ℕ → Signature
signed_by body mark = record { computed = checksum_of body; stored = low_first mark }

-- a file is the magic, a body, and four bytes for its checksum
pub record Framed (file body mark : List ℕ) : Type 0 where
  pub parts : file ≡ magic ++ (body ++ mark)
  pub four : length mark ≡ 4

-- the two checksums of a file that has room for them
abbrev pub signature_of : List ℕ → Signature
signature_of file = signed_by (between 13 (length file - 4) file) (drop (length file - 4) file)

-- both checksums, or why there are none
abbrev pub findings : List ℕ → Result Signature Absence
findings file =
    cond (length file == 0) (Err Empty)
    (cond (nat_lt (length file) 17) (Err TooShort) (cond (has_magic file) (Ok (signature_of file)) (Err NoMagic)))

abbrev pub report_of : List ℕ → Report
report_of file = record { length = length file; magic = has_magic file; signature = findings file }

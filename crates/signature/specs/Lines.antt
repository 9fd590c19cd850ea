-- The text of a report: a line for each fact, a label and a value.
use Rattle.std.specs.Prelude.{ℕ, Bool, cond, List, ◌++◌, Ok, Err, codes, decimal, Result, ◌==◌}
use Rattle.signature.specs.declared.report.Signature.{Signature}
use Rattle.signature.specs.declared.report.Absence.{Absence}
use Rattle.signature.specs.declared.report.Absence.TheVariants.{Empty, TooShort, NoMagic}
use Rattle.signature.specs.declared.report.Report.{Report}

abbrev pub yes_no : Bool → List ℕ
yes_no answer = cond answer (codes "yes") (codes "no")

abbrev pub reason_of : Absence → List ℕ
reason_of Empty = codes "the input is empty"
reason_of TooShort = codes "the input has fewer than 17 bytes"
reason_of NoMagic = codes "the input does not begin with the magic bytes"

abbrev pub line : List ℕ → List ℕ → List ℕ
line label value = label ++ (codes ": " ++ (value ++ codes "\n"))

-- both checksums, and whether they agree
abbrev pub checksum_lines : Signature → List ℕ
checksum_lines s =
    line (codes "checksum") (decimal s.computed)
    ++ (line (codes "stored") (decimal s.stored) ++ line (codes "agree") (yes_no (s.computed == s.stored)))

-- the checksums, or why there are none
abbrev pub verdict : Result Signature Absence → List ℕ
verdict (Ok s) = checksum_lines s
verdict (Err a) = line (codes "signature") (codes "none, " ++ reason_of a)

abbrev pub text_of : Report → List ℕ
text_of r = line (codes "bytes") (decimal r.length) ++ (line (codes "magic") (yes_no r.magic) ++ verdict r.signature)

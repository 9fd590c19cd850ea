-- What is printed so far, and the lines that are left, make up the lines of the file.
use Rattle.std.proofs.Common.{◌≡◌, ℕ, ◌<◌, leb, List, ◌++◌, length, codes, sym, ap, ◌∙◌, append_assoc, append-nil}
use Rattle.std.proofs.lemmas.Bool.{cond-false, lt-leb}
use Rattle.steps.specs.declared.fault.Fault.{Fault}
use Rattle.steps.specs.declared.state.RecordAt.{RecordAt}
use Rattle.runs.specs.Runs.{Trail, more, done, broken}
use Rattle.records.specs.Lines.{line_of, fault_line}
use Rattle.records.specs.Listings.{trail_lines, listing_of}

module _ (file all was end : List ℕ) where
  -- one line more
  pub line_more : (r : RecordAt) (t u : Trail) → end ≡ was ++ line_of file r → t ≡ more r u → was ++ trail_lines file t ≡ all → end ++ trail_lines file u ≡ all
  line_more r t u e m h =
      ap (λ x. x ++ trail_lines file u) e ∙ append_assoc was (line_of file r) (trail_lines file u)
      ∙ sym (ap (λ x. was ++ trail_lines file x) m) ∙ h

  -- the line of a fault, which is the last
  pub line_last : (f : Fault) (t : Trail) → end ≡ was ++ fault_line f → t ≡ broken f → was ++ trail_lines file t ≡ all → end ≡ all
  line_last f t e m h = e ∙ sym (ap (λ x. was ++ trail_lines file x) m) ∙ h

-- no line more
pub no_line : (file all was : List ℕ) (t : Trail) → t ≡ done → was ++ trail_lines file t ≡ all → was ≡ all
no_line file all was t m h = sym (append-nil was) ∙ sym (ap (λ x. was ++ trail_lines file x) m) ∙ h

-- a file with too many bytes
pub too_long : (file : List ℕ) → 65536 < length file → codes "input longer than 65536 bytes\n" ≡ listing_of file
too_long file h = sym (cond-false (leb (length file) 65536) _ _ (lt-leb (length file) 65536 h))

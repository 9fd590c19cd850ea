use Rattle.std.proofs.Common.{◌∙◌, rules}
use Rattle.std.proofs.Output.{has_written_of_eq}
use Rattle.records.proofs.Texts.{nine_fields}
use Rattle.records.proofs.numbers.ElementNumbersDisplay.fmt.Goals as goal

pub returns-in-Path-clause-writes : goal.returns-in-Path-clause-writes
returns-in-Path-clause-writes g c =
    λ plain ok. has_written_of_eq _ _ _ _ _ (nine_fields _ _ _ _ _ _ _ _ _ _ c.copies_of-copies-in-Path.ensures.counts ∙ search rules) (c.write-in-Path.ensures.writes plain ok)

-- The worked examples, each by computation.
use Rattle.std.proofs.Common.{refl}
use Rattle.tokens.specs.Chains.{unsigned}
use Rattle.tokens.specs.Texts.{text}
use Rattle.tokens.specs.Units.{unit}
use Rattle.frames.specs.Ends.{scheme_at, stored_at, signature_at, validation_at, sum_to, ended, end}
use Rattle.frames.specs.Examples.{ExamplesHold}
use Rattle.frames.specs.Starts.{version_at, start}
use Rattle.frames.specs.Tables.{switch, table, tables}

-- all of them compute
pub examples_hold : ExamplesHold
unfolding unsigned text unit switch table tables version_at start scheme_at stored_at signature_at validation_at sum_to ended end
examples_hold = (refl, (refl, (refl, (refl, (refl, (refl, (refl, (refl, (refl, (refl, (refl, (refl, (refl, (refl, (refl, (refl, (refl, (refl, (refl, tt)))))))))))))))))))

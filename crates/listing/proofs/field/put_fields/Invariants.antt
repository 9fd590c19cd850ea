use Rattle.std.proofs.Common.{take}
use Rattle.std.specs.List.{flat_map}
use Rattle.encoding.specs.Laid.{Put}
use Rattle.listing.specs.Lines.{spaced}
use Rattle.listing.specs.Parts.{written}
use Rattle.listing.proofs.field.put_fields.Given as goal

abbrev pub invariant-loop-field : goal.invariant-loop-field
invariant-loop-field l = Put l.initial.out (spaced (flat_map written (take l.field-index l.fields))) l.out

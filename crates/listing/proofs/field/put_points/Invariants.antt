use Rattle.std.proofs.Common.{take}
use Rattle.std.specs.List.{flat_map}
use Rattle.encoding.specs.Laid.{Put}
use Rattle.listing.specs.Lines.{spaced}
use Rattle.listing.proofs.Fields.{point_fields}
use Rattle.listing.proofs.field.put_points.Given as goal

abbrev pub invariant-loop-p : goal.invariant-loop-p
invariant-loop-p l = Put l.initial.out (spaced (flat_map point_fields (take l.p-index l.points))) l.out

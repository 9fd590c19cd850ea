use Rattle.std.proofs.Common.{arith}
use Rattle.std.proofs.lemmas.Int.{ints, to_z-of_z}
use Rattle.bounds.proofs.point.SpotAddPoint.add.Goals as goal

pub returns : goal.returns
returns c = (
  grind (arith, ints, to_z-of_z),
  λ h. record { x = omega (arith, ints, h.x, c.from.ensures); y = omega (arith, ints, h.y, c.from-2.ensures) },
)

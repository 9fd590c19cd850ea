-- Where an element stands.
use Rattle.std.specs.Prelude.{ℕ, Bool, cond, List, ℤ, pos, ◌+ℤ◌}
use Rattle.tokens.specs.declared.fault.FaultKind.TheVariants.{Reach}
use Rattle.tokens.specs.Answers.{Answer, got, fault, then}
use Rattle.tokens.specs.Deltas.{signed}
use Rattle.bounds.specs.declared.point.Point.{Point}
use Rattle.bounds.specs.declared.point.Spot.{Spot}
use Rattle.bounds.specs.Points.{reach, spot_at, all_within, places}
use Rattle.fields.specs.declared.anchor.Present.{Present}
use Rattle.fields.specs.declared.anchor.AnchorVariables.{AnchorVariables}
use Rattle.fields.specs.declared.anchor.Anchor.{Anchor}
use Rattle.fields.specs.declared.copies.Spread.{Spread}
use Rattle.fields.specs.Shapes.{offsets_of, copies}

-- a coordinate that is present counts from 0, or in relative mode from the one before; else it is the one before
abbrev pub coordinate : List ℕ → ℕ → (present relative : Bool) → ℤ → Answer ℤ
coordinate file at present relative v =
    cond present (then (signed file at) λ d n. got (cond relative v (pos 0) +ℤ d) n) (got v at)

-- both coordinates
abbrev pub spot : List ℕ → ℕ → Present → AnchorVariables → Answer Spot
spot file at p v =
    then (coordinate file at p.x v.relative v.at.x) λ x n.
    then (coordinate file n p.y v.relative v.at.y) λ y m. got (record { x = x; y = y }) m

-- an element at a place with its copies
abbrev pub settled : Point → Spread → Anchor
settled p s = record { at = p; repetition = s.repetition; stored = s.stored }

-- the coordinates and the repetition of an element with the vertices vs: each vertex of each copy has to be in reach, or the
-- record, whose first byte is at `first`, is at fault
abbrev pub anchor : List ℕ → (at first : ℕ) → Present → AnchorVariables → List Point → Answer Anchor
anchor file at first p v vs =
    then (spot file at p v) λ q n.
    then (copies file n first p.repetition v.repetition) λ s m.
    cond (all_within reach (places (spot_at q) (offsets_of file s.repetition) vs)) (got (settled (spot_at q) s) m) (fault Reach first)

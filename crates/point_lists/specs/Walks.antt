-- Displacements from vertex to vertex.
use Rattle.std.specs.Prelude.{ℕ, ◌*◌, Bool, true, false, cond, not, List, ℤ, pos}
use Rattle.tokens.specs.declared.fault.FaultKind.TheVariants.{BadList, Reach}
use Rattle.tokens.specs.Answers.{Answer, got, fault, then}
use Rattle.tokens.specs.Deltas.{signed, two_delta, three_delta, g_delta}
use Rattle.bounds.specs.declared.point.Point.{Point}
use Rattle.bounds.specs.Points.{far_reach, point, origin, sum, Near, within}
use Rattle.point_lists.specs.declared.kind.ListKind.{ListKind}
use Rattle.point_lists.specs.declared.kind.ListKind.TheVariants.{AcrossFirst, UpFirst, Manhattan, Octangular, General, Changing}
use Rattle.point_lists.specs.declared.walk.Walk.{Walk}
use Rattle.point_lists.specs.Kinds.{is_zero}

-- a displacement along one axis
abbrev pub one_way : Bool → ℤ → Point
one_way across z = cond across (point z (pos 0)) (point (pos 0) z)

-- a displacement by its two components
abbrev pub pair_of : ℤ × ℤ → Point
pair_of d = point d.0 d.1

-- the displacement at the place `at` along one axis, never zero
abbrev pub alternate : Bool → List ℕ → ℕ → Answer Point
alternate across file at = then (signed file at) λ z n. cond (is_zero z) (fault BadList at) (got (one_way across z) n)

abbrev pub paired : Answer (ℤ × ℤ) → Answer Point
paired r = then r λ d n. got (pair_of d) n

-- the displacement at the place `at`, by the list's type
abbrev pub displacement : ListKind → (across : Bool) → List ℕ → ℕ → Answer Point
displacement AcrossFirst across file at = alternate across file at
displacement UpFirst across file at = alternate across file at
displacement Manhattan across file at = paired (two_delta file at)
displacement Octangular across file at = paired (three_delta file at)
displacement General across file at = paired (g_delta file at)
displacement Changing across file at = paired (g_delta file at)

-- how far the next vertex is from the last, where v was the displacement before: type 5 gives the change of it
abbrev pub vector_by : ListKind → (v d : Point) → Point
vector_by AcrossFirst v d = d
vector_by UpFirst v d = d
vector_by Manhattan v d = d
vector_by Octangular v d = d
vector_by General v d = d
vector_by Changing v d = sum v d

-- the walk, one displacement further
unfoldable pub moved : Walk → Point → Walk
moved w d = record { kind = w.kind; at = sum w.at (vector_by w.kind w.vector d); vector = vector_by w.kind w.vector d; across = not w.across }

-- the displacement at the place `at` leads to a vertex in far reach of the first
abbrev pub landed : ℕ → Walk → Point → ℕ → Answer Walk
landed at w d n = cond (within far_reach (moved w d).at) (got (moved w d) n) (fault Reach at)

-- the walk after the displacement at the place `at`
unfoldable pub advanced : List ℕ → ℕ → Walk → Answer Walk
advanced file at w = then (displacement w.kind w.across file at) λ d n. landed at w d n

abbrev pub across_first : ListKind → Bool
across_first AcrossFirst = true
across_first UpFirst = false
across_first Manhattan = false
across_first Octangular = false
across_first General = false
across_first Changing = false

-- the walk at the first vertex
abbrev pub start : ListKind → Walk
start k = record { kind = k; at = origin; vector = origin; across = across_first k }

-- what every walk keeps: an offset in far reach, and a displacement between two such offsets
pub record Steady (w : Walk) : Type 0 where
  pub at : Near far_reach w.at
  pub vector : Near (2 * far_reach) w.vector

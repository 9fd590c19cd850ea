-- A repetition: the offsets of all its copies, from the first, in order.
use Rattle.std.specs.Prelude.{ℕ, ◌≤◌, cond, List, [], ◌∷◌, length, Some, None, Option, unsigned_abs}
use Rattle.tokens.specs.declared.fault.FaultKind.TheVariants.{Reach}
use Rattle.tokens.specs.Answers.{Answer, got, fault, then}
use Rattle.bounds.specs.declared.point.Point.{Point}
use Rattle.bounds.specs.declared.bounds.Bounds.{Bounds}
use Rattle.bounds.specs.Points.{far_reach, sum, within, all_within}
use Rattle.bounds.specs.Boxes.{grown, bounds_of}
use Rattle.repetitions.specs.declared.plan.Listing.{Listing}
use Rattle.repetitions.specs.declared.plan.Plan.{Plan}
use Rattle.repetitions.specs.declared.plan.Plan.TheVariants.{Uniform, Listed}
use Rattle.repetitions.specs.declared.summary.Summary.{Summary}
use Rattle.repetitions.specs.Offsets.{scaled, spread}
use Rattle.repetitions.specs.Spaces.{space_at, series}
use Rattle.repetitions.specs.Plans.{copies_of, plan}

-- every offset is in reach, or the repetition at the place `first` is at fault
abbrev pub reaching : (first : ℕ) → List Point → ℕ → Answer (List Point)
reaching first ps n = cond (all_within far_reach ps) (got ps n) (fault Reach first)

-- the spaces of a list from the place n on
abbrev pub spaces_at : Listing → List ℕ → ℕ → Answer (List Point)
spaces_at l file n = series (space_at l.axis) l.spaces file n

-- the copies by a list of spaces from the place n on
abbrev pub listed : List ℕ → (first : ℕ) → Listing → ℕ → Answer (List Point)
listed file first l n = then (spaces_at l file n) λ ds i. reaching first (spread l.grid ds) i

-- the offsets that are planned, where n is the place after the plan
abbrev pub offsets : List ℕ → (first : ℕ) → Plan → ℕ → Answer (List Point)
offsets file first (Uniform m) n = reaching first (copies_of m) n
offsets file first (Listed l) n = listed file first l n

-- the repetition at the place `at`
unfoldable pub repetition : List ℕ → ℕ → Answer (List Point)
repetition file at = then (plan file at) λ p n. offsets file at p n

-- a list of offsets in short
abbrev pub in_short : List Point → Summary
in_short ps = record { copies = length ps; bounds = bounds_of ps }

abbrev pub summarised : Answer (List Point) → Answer Summary
summarised r = then r λ ps n. got (in_short ps) n

-- each side of a box is at most n from the origin
pub record Modest (n : ℕ) (b : Bounds) : Type 0 where
  pub left : unsigned_abs b.left ≤ n
  pub right : unsigned_abs b.right ≤ n
  pub bottom : unsigned_abs b.bottom ≤ n
  pub top : unsigned_abs b.top ≤ n

-- a point that is in reach
abbrev pub reachable : Point → Option Point
reachable p = cond (within far_reach p) (Some p) None

-- the box with one point more, or none once a point was out of reach
abbrev pub reached : Option Bounds → Option Point → Option Bounds
reached (Some b) (Some p) = Some (grown b p)
reached (Some b) None = None
reached None p = None

-- the same over all that the spaces lead to from p
abbrev pub reached_by : (grid : ℕ) → Point → Option Bounds → List Point → Option Bounds
reached_by grid p b [] = b
reached_by grid p b (d ∷ ds) = reached_by grid (sum p d) (reached b (reachable (scaled grid (sum p d)))) ds

abbrev pub boxed : (grid : ℕ) → Point → Option Bounds → Answer (List Point) → Answer (Option Bounds)
boxed grid p b r = then r λ ds n. got (reached_by grid p b ds) n

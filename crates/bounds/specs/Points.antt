-- Points of the grid, and which of them are in reach.
use Rattle.std.specs.Prelude.{◌≡◌, ℕ, ◌≤◌, Bool, true, ◌&&◌, List, [], ◌∷◌, map, ℤ, pos, ◌+ℤ◌, nat_le, unsigned_abs}
use Rattle.std.specs.List.{flat_map}
use Rattle.bounds.specs.declared.point.Point.{Point}
use Rattle.bounds.specs.declared.point.Spot.{Spot}

-- how far from the origin a place may be on each axis
abbrev pub reach : ℕ
reach = 1099511627775

-- how far an offset may go on each axis
abbrev pub far_reach : ℕ
far_reach = 2199023255550

abbrev pub point : ℤ → ℤ → Point
point x y = record { x = x; y = y }

abbrev pub origin : Point
origin = point (pos 0) (pos 0)

-- the point that is q away from p
abbrev pub sum : Point → Point → Point
sum p q = point (p.x +ℤ q.x) (p.y +ℤ q.y)

-- the points to which displacements lead from p, one after the other
abbrev pub path : Point → List Point → List Point
path p [] = []
path p (d ∷ ds) = sum p d ∷ path (sum p d) ds

-- the point at which a place is
abbrev pub spot_at : Spot → Point
spot_at s = point s.x s.y

-- both coordinates are at most n in size
pub record Near (n : ℕ) (p : Point) : Type 0 where
  pub x : unsigned_abs p.x ≤ n
  pub y : unsigned_abs p.y ≤ n

-- the test of that
abbrev pub within : ℕ → Point → Bool
within n p = nat_le (unsigned_abs p.x) n && nat_le (unsigned_abs p.y) n

-- the test of all points of a list
abbrev pub all_within : ℕ → List Point → Bool
all_within n [] = true
all_within n (p ∷ ps) = within n p && all_within n ps

-- a list of offsets that begins at the origin
pub record Rooted (ps : List Point) : Type 0 where
  pub others : List Point
  pub begins : ps ≡ origin ∷ others

-- the places of the vertices vs of all copies os of a shape, whose first vertex stands at p
abbrev pub places : Point → List Point → List Point → List Point
places p os vs = flat_map (λ o. map (λ v. sum (sum p o) v) vs) os

-- The box around points.
use Rattle.std.specs.Prelude.{Bool, ◌&&◌, List, ◌≤ℤ◌, fold}
use Rattle.std.specs.Int.{int_min, int_max}
use Rattle.bounds.specs.declared.point.Point.{Point}
use Rattle.bounds.specs.declared.bounds.Bounds.{Bounds}
use Rattle.bounds.specs.Points.{reach, point, origin, sum, within}

-- the box of one point
abbrev pub alone : Point → Bounds
alone p = record { left = p.x; right = p.x; bottom = p.y; top = p.y }

-- the box of the origin
abbrev pub nothing : Bounds
nothing = alone origin

-- the box with one point more
abbrev pub grown : Bounds → Point → Bounds
grown b p =
    record { left = int_min b.left p.x; right = int_max b.right p.x; bottom = int_min b.bottom p.y; top = int_max b.top p.y }

-- the smallest box around the origin and some points
abbrev pub bounds_of : List Point → Bounds
bounds_of ps = fold grown nothing ps

-- a point is in a box
pub record Inside (b : Bounds) (p : Point) : Type 0 where
  pub left : b.left ≤ℤ p.x
  pub right : p.x ≤ℤ b.right
  pub bottom : b.bottom ≤ℤ p.y
  pub top : p.y ≤ℤ b.top

-- the corner at the lower left, and that at the upper right
abbrev pub low_of : Bounds → Point
low_of b = point b.left b.bottom

abbrev pub high_of : Bounds → Point
high_of b = point b.right b.top

-- a place is in reach, and so are both corners of the boxes c and s, added up at that place
abbrev pub boxes_fit : Point → Bounds → Bounds → Bool
boxes_fit p c s =
    within reach p && (within reach (sum (sum p (low_of c)) (low_of s)) && within reach (sum (sum p (high_of c)) (high_of s)))

-- What is proved of point lists.
use Rattle.std.specs.Prelude.{◌≡◌, ℕ, suc, ◌+◌, ◌≤◌, Bool, true, List, [], ◌∷◌, ◌++◌, map, length, ◌-ℤ◌}
use Rattle.std.specs.List.{AllByRecursion as Every}
use Rattle.tokens.specs.Chains.{largest}
use Rattle.tokens.specs.Encodings.{shortest, g_delta_bytes}
use Rattle.tokens.specs.Readers.{Made, Back, Local}
use Rattle.bounds.specs.declared.point.Point.{Point}
use Rattle.bounds.specs.Points.{reach, far_reach, point, Near, Rooted}
use Rattle.point_lists.specs.Lists.{point_list}

-- the vertices of a list: the first is the origin, all are in far reach of it, and a polygon has three at least
pub record Shaped (closed : Bool) (ps : List Point) : Type 0 where
  pub rooted : Rooted ps
  pub near : Every (Near far_reach) ps
  pub few : length ps ≤ largest + 2
  pub enough : closed ≡ true → 3 ≤ length ps

-- a list takes a byte at least and stays in the file, and its vertices are so shaped
abbrev pub ListMade : Type 0
ListMade = (file : List ℕ) (at : ℕ) (closed : Bool) → Made file (suc at) (point_list file at closed) (λ ps n. Shaped closed ps)

-- no byte before the list or after it is looked at
abbrev pub ListLocal : Type 0
ListLocal = (closed : Bool) → Local (λ file at. point_list file at closed)

-- what p has to be moved by to come to q
abbrev pub gap : Point → Point → Point
gap p q = point (q.x -ℤ p.x) (q.y -ℤ p.y)

-- displacements from p to the first of some vertices, and from each to the next, as g-deltas of two integers
abbrev pub delta_bytes : Point → List Point → List ℕ
delta_bytes p [] = []
delta_bytes p (q ∷ qs) = g_delta_bytes ((gap p q).x, (gap p q).y) ++ delta_bytes q qs

-- the vertices p and qs as a list of type 4: the type, how many follow the first, and the displacements
abbrev pub list_bytes : Point → List Point → List ℕ
list_bytes p qs = 4 ∷ (shortest (length qs) ++ delta_bytes p qs)

-- vertices in reach, written so, are read again as offsets from the first: of a path, or of a polygon with three at least
abbrev pub ListBack : Type 0
ListBack =
    (file : List ℕ) (at : ℕ) (closed : Bool) (p : Point) (qs : List Point) →
    Near reach p → Every (Near reach) qs → length qs ≤ largest → (closed ≡ true → 2 ≤ length qs) →
    Back file at (list_bytes p qs) (point_list file at closed) (map (gap p) (p ∷ qs))

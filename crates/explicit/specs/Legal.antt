-- The values that explicit bytes can hold.
use Rattle.std.specs.Prelude.{◌≡◌, ◌≤◌, Bool, true, List, length, unsigned_abs}
use Rattle.std.specs.List.{AllByRecursion as Every}
use Rattle.tokens.specs.Chains.{largest}
use Rattle.bounds.specs.declared.point.Point.{Point}
use Rattle.bounds.specs.Points.{reach, Near}
use Rattle.fields.specs.declared.number.Layers.{Layers}
use Rattle.fields.specs.declared.number.Sides.{Sides}
use Rattle.fields.specs.declared.stroke.Stroke.{Stroke}

-- a layer and a datatype
pub record FitsLayers (l : Layers) : Type 0 where
  pub layer : l.layer ≤ largest
  pub datatype : l.datatype ≤ largest

-- a width and a height, in reach
pub record FitsSides (s : Sides) : Type 0 where
  pub width : s.width ≤ reach
  pub height : s.height ≤ reach

-- a half-width and both extensions, in reach
pub record FitsStroke (s : Stroke) : Type 0 where
  pub half : s.half ≤ reach
  pub start : unsigned_abs s.start ≤ reach
  pub end : unsigned_abs s.end ≤ reach

-- the vertices p and qs of a polygon, or of a path: all in reach, and three at least of a polygon
pub record FitsVertices (closed : Bool) (p : Point) (qs : List Point) : Type 0 where
  pub first : Near reach p
  pub others : Every (Near reach) qs
  pub few : length qs ≤ largest
  pub enough : closed ≡ true → 2 ≤ length qs

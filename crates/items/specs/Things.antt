-- What an item means: its kind and its fields, names and texts by their bytes, vertices by their list.
use Rattle.std.specs.Prelude.{ℕ, List, ℤ}
use Rattle.bounds.specs.declared.point.Point.{Point}
use Rattle.items.specs.declared.item.Item.{Item}
use Rattle.items.specs.declared.item.Item.TheVariants.{Start, Cell, Placement, Text, Rectangle, Polygon, Path, End}

-- an item, apart from where its bytes and vertices are kept
pub data Thing : Type 0 where
  -- the unit
  a_start : ℕ → Thing
  -- the name
  a_cell : List ℕ → Thing
  -- the name, the place, the angle and the flip
  a_placement : List ℕ → Point → ℕ → ℕ → Thing
  -- the text layer, the text type, the place and the text
  a_text : ℕ → ℕ → Point → List ℕ → Thing
  -- the layer, the datatype, the width, the height and the lower left corner
  a_rectangle : ℕ → ℕ → ℕ → ℕ → Point → Thing
  -- the layer, the datatype and the vertices
  a_polygon : ℕ → ℕ → List Point → Thing
  -- the layer, the datatype, the half-width, the extensions at the start and the end, and the vertices
  a_path : ℕ → ℕ → ℕ → ℤ → ℤ → List Point → Thing
  an_end : Thing

-- two items mean the same exactly where these are equal
abbrev pub thing_of : Item → Thing
thing_of (Start u) = a_start u
thing_of (Cell n) = a_cell n.now
thing_of (Placement n p a f) = a_placement n.now p a f
thing_of (Text l t p s) = a_text l t p s.now
thing_of (Rectangle l d w h p) = a_rectangle l d w h p
thing_of (Polygon l d vs) = a_polygon l d vs.now
thing_of (Path l d h s e vs) = a_path l d h s e vs.now
thing_of End = an_end

-- The bytes of records in which every field is given, and coordinates are absolute.
use Rattle.std.specs.Prelude.{ℕ, ◌+◌, ◌*◌, List, [], ◌∷◌, ◌++◌}
use Rattle.tokens.specs.Encodings.{shortest, signed_bytes, text_bytes}
use Rattle.bounds.specs.declared.point.Point.{Point}
use Rattle.point_lists.specs.Laws.{list_bytes}
use Rattle.fields.specs.declared.number.Layers.{Layers}
use Rattle.fields.specs.declared.number.Sides.{Sides}
use Rattle.fields.specs.declared.stroke.Stroke.{Stroke}
use Rattle.frames.specs.Laws.{start_bytes as start_fields, end_bytes as end_fields, four_bytes}

-- a layer and a datatype, or a textlayer and a texttype
abbrev pub layers_bytes : Layers → List ℕ
layers_bytes l = shortest l.layer ++ shortest l.datatype

-- a width and a height
abbrev pub sides_bytes : Sides → List ℕ
sides_bytes s = shortest s.width ++ shortest s.height

-- the scheme that both extensions are given, then the one at the start and the one at the end
abbrev pub extensions_bytes : Stroke → List ℕ
extensions_bytes s = 0x0f ∷ (signed_bytes s.start ++ signed_bytes s.end)

-- a half-width and both extensions
abbrev pub stroke_bytes : Stroke → List ℕ
stroke_bytes s = shortest s.half ++ extensions_bytes s

-- both coordinates
abbrev pub place_bytes : Point → List ℕ
place_bytes p = signed_bytes p.x ++ signed_bytes p.y

-- the fields of a placement of the cell with this name, the info byte first
abbrev pub placement_fields : (angle flip : ℕ) → (name : List ℕ) → Point → List ℕ
placement_fields a f t p = (0xb0 + 2 * a + f) ∷ (text_bytes t ++ place_bytes p)

-- those of a text
abbrev pub label_fields : (text : List ℕ) → Layers → Point → List ℕ
label_fields t l p = 0x5b ∷ (text_bytes t ++ (layers_bytes l ++ place_bytes p))

-- those of a rectangle
abbrev pub rectangle_fields : Layers → Sides → Point → List ℕ
rectangle_fields l s p = 0x7b ∷ (layers_bytes l ++ (sides_bytes s ++ place_bytes p))

-- those of a polygon with the vertices p and qs
abbrev pub polygon_fields : Layers → Point → List Point → List ℕ
polygon_fields l p qs = 0x3b ∷ (layers_bytes l ++ (list_bytes p qs ++ place_bytes p))

-- those of a path with the vertices p and qs
abbrev pub path_fields : Layers → Stroke → Point → List Point → List ℕ
path_fields l s p qs = 0xfb ∷ (layers_bytes l ++ (stroke_bytes s ++ (list_bytes p qs ++ place_bytes p)))

-- START for a unit
abbrev pub start_bytes : ℕ → List ℕ
start_bytes u = 0x01 ∷ start_fields u

-- END with this checksum
abbrev pub end_bytes : ℕ → List ℕ
end_bytes sum = 0x02 ∷ (end_fields ++ four_bytes sum)

-- a cell: CELL with its name, then the mode for absolute coordinates
abbrev pub cell_bytes : (name : List ℕ) → List ℕ
cell_bytes t = (0x0e ∷ text_bytes t) ++ (0x0f ∷ [])

-- a placement
abbrev pub placement_bytes : (angle flip : ℕ) → (name : List ℕ) → Point → List ℕ
placement_bytes a f t p = 0x11 ∷ placement_fields a f t p

-- a text
abbrev pub label_bytes : (text : List ℕ) → Layers → Point → List ℕ
label_bytes t l p = 0x13 ∷ label_fields t l p

-- a rectangle
abbrev pub rectangle_bytes : Layers → Sides → Point → List ℕ
rectangle_bytes l s p = 0x14 ∷ rectangle_fields l s p

-- a polygon
abbrev pub polygon_bytes : Layers → Point → List Point → List ℕ
polygon_bytes l p qs = 0x15 ∷ polygon_fields l p qs

-- a path
abbrev pub path_bytes : Layers → Stroke → Point → List Point → List ℕ
path_bytes l s p qs = 0x16 ∷ path_fields l s p qs

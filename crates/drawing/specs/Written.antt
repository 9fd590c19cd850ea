-- The explicit form of items: every field given, nothing inherited.
use Rattle.std.specs.Prelude.{ℕ, ◌+◌, List, [], ◌∷◌, ◌++◌, sum}
use Rattle.frames.specs.Laws.{end_bytes as end_fields}
use Rattle.checksum.specs.Ends.{magic}
use Rattle.items.specs.Things.{Thing, a_start, a_cell, a_placement, a_text, a_rectangle, a_polygon, a_path, an_end}
use Rattle.explicit.specs.Bytes.{start_bytes, end_bytes, cell_bytes, placement_bytes, label_bytes, rectangle_bytes, polygon_bytes, path_bytes}

-- the sum of bytes
abbrev pub total : List ℕ → ℕ
total bs = sum bs

-- the bytes of an item's records, where s is the sum of the bytes of all records before them
abbrev pub record_bytes : ℕ → Thing → List ℕ
record_bytes s (a_start u) = start_bytes u
record_bytes s (a_cell n) = cell_bytes n
record_bytes s (a_placement n p a f) = placement_bytes a f n p
record_bytes s (a_text l t p x) = label_bytes x (record { layer = l; datatype = t }) p
record_bytes s (a_rectangle l d w h p) = rectangle_bytes (record { layer = l; datatype = d }) (record { width = w; height = h }) p
record_bytes s (a_polygon l d []) = []
record_bytes s (a_polygon l d (p ∷ ps)) = polygon_bytes (record { layer = l; datatype = d }) p ps
record_bytes s (a_path l d h b e []) = []
record_bytes s (a_path l d h b e (p ∷ ps)) = path_bytes (record { layer = l; datatype = d }) (record { half = h; start = b; end = e }) p ps
record_bytes s an_end = end_bytes (s + total (0x02 ∷ end_fields))

-- the bytes of an item: a start has the magic before its record
abbrev pub item_bytes : ℕ → Thing → List ℕ
item_bytes s (a_start u) = magic ++ start_bytes u
item_bytes s (a_cell n) = record_bytes s (a_cell n)
item_bytes s (a_placement n p a f) = record_bytes s (a_placement n p a f)
item_bytes s (a_text l t p x) = record_bytes s (a_text l t p x)
item_bytes s (a_rectangle l d w h p) = record_bytes s (a_rectangle l d w h p)
item_bytes s (a_polygon l d vs) = record_bytes s (a_polygon l d vs)
item_bytes s (a_path l d h b e vs) = record_bytes s (a_path l d h b e vs)
item_bytes s an_end = record_bytes s an_end

-- the bytes of items one behind the other
abbrev pub written : ℕ → List Thing → List ℕ
written s [] = []
written s (t ∷ ts) = item_bytes s t ++ written (s + total (record_bytes s t)) ts

-- the explicit form
abbrev pub explicit_form : List Thing → List ℕ
explicit_form ts = written 0 ts

-- The line of an item: a letter, then each field after a space, then a line feed.
use Rattle.std.specs.Prelude.{ℕ, List, [], ◌∷◌, ◌++◌, length, decimal}
use Rattle.std.specs.Fmt.{signed_decimal}
use Rattle.bounds.specs.declared.point.Point.{Point}
use Rattle.items.specs.Things.{Thing, a_start, a_cell, a_placement, a_text, a_rectangle, a_polygon, a_path, an_end}

abbrev pub space : ℕ
space = 0x20

abbrev pub line_feed : ℕ
line_feed = 0x0a

-- S C L T R P H E
abbrev pub letter_of : Thing → ℕ
letter_of (a_start u) = 83
letter_of (a_cell n) = 67
letter_of (a_placement n p a f) = 76
letter_of (a_text l t p s) = 84
letter_of (a_rectangle l d w h p) = 82
letter_of (a_polygon l d vs) = 80
letter_of (a_path l d h s e vs) = 72
letter_of an_end = 69

-- the coordinates of points
abbrev pub coordinates : List Point → List (List ℕ)
coordinates [] = []
coordinates (p ∷ ps) = signed_decimal p.x ∷ signed_decimal p.y ∷ coordinates ps

-- the fields, names and texts as they are, and numbers in decimal
abbrev pub fields_of : Thing → List (List ℕ)
fields_of (a_start u) = decimal u ∷ []
fields_of (a_cell n) = n ∷ []
fields_of (a_placement n p a f) = n ∷ signed_decimal p.x ∷ signed_decimal p.y ∷ decimal a ∷ decimal f ∷ []
fields_of (a_text l t p s) = decimal l ∷ decimal t ∷ signed_decimal p.x ∷ signed_decimal p.y ∷ s ∷ []
fields_of (a_rectangle l d w h p) = decimal l ∷ decimal d ∷ decimal w ∷ decimal h ∷ signed_decimal p.x ∷ signed_decimal p.y ∷ []
fields_of (a_polygon l d vs) = decimal l ∷ decimal d ∷ decimal (length vs) ∷ coordinates vs
fields_of (a_path l d h s e vs) = decimal l ∷ decimal d ∷ decimal h ∷ signed_decimal s ∷ signed_decimal e ∷ decimal (length vs) ∷ coordinates vs
fields_of an_end = []

-- each after a space
abbrev pub spaced : List (List ℕ) → List ℕ
spaced [] = []
spaced (f ∷ fs) = space ∷ (f ++ spaced fs)

-- the line of an item
unfoldable pub line_of : Thing → List ℕ
line_of t = letter_of t ∷ (spaced (fields_of t) ++ (line_feed ∷ []))

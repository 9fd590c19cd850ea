-- Worked examples.
use Rattle.std.specs.Prelude.{◌≡◌, [], ◌∷◌, replicate, pos, negsuc}
use Rattle.bounds.specs.Points.{point, origin}
use Rattle.explicit.specs.Bytes.{start_bytes, cell_bytes, placement_bytes, label_bytes, rectangle_bytes, polygon_bytes, path_bytes}

-- the explicit bytes of a record of each kind
pub record ExamplesHold : Type 0 where
  -- the unit 1000
  pub start : start_bytes 1000 ≡ 0x01 ∷ 0x03 ∷ 0x31 ∷ 0x2e ∷ 0x30 ∷ 0x00 ∷ 0xe8 ∷ 0x07 ∷ replicate 13 0x00
  -- a cell with the name A
  pub cell : cell_bytes (0x41 ∷ []) ≡ 0x0e ∷ 0x01 ∷ 0x41 ∷ 0x0f ∷ []
  -- A placed at (-1, 2), turned by a quarter and flipped
  pub placement : placement_bytes 1 1 (0x41 ∷ []) (point (negsuc 0) (pos 2)) ≡ 0x11 ∷ 0xb3 ∷ 0x01 ∷ 0x41 ∷ 0x03 ∷ 0x04 ∷ []
  -- the text A on textlayer 3 with texttype 4, at (1, 0)
  pub text :
      label_bytes (0x41 ∷ []) (record { layer = 3; datatype = 4 }) (point (pos 1) (pos 0))
      ≡ 0x13 ∷ 0x5b ∷ 0x01 ∷ 0x41 ∷ 0x03 ∷ 0x04 ∷ 0x02 ∷ 0x00 ∷ []
  -- a rectangle on layer 1 with datatype 2, 100 wide and 50 high, at the origin
  pub rectangle :
      rectangle_bytes (record { layer = 1; datatype = 2 }) (record { width = 100; height = 50 }) origin
      ≡ 0x14 ∷ 0x7b ∷ 0x01 ∷ 0x02 ∷ 0x64 ∷ 0x32 ∷ 0x00 ∷ 0x00 ∷ []
  -- a triangle
  pub polygon :
      polygon_bytes (record { layer = 1; datatype = 0 }) origin (point (pos 10) (pos 0) ∷ point (pos 0) (pos 10) ∷ [])
      ≡ 0x15 ∷ 0x3b ∷ 0x01 ∷ 0x00 ∷ 0x04 ∷ 0x02 ∷ 0x29 ∷ 0x00 ∷ 0x2b ∷ 0x14 ∷ 0x00 ∷ 0x00 ∷ []
  -- a line of half-width 5, 5 shorter at its start and 5 longer at its end
  pub path :
      path_bytes (record { layer = 1; datatype = 0 }) (record { half = 5; start = negsuc 4; end = pos 5 }) origin (point (pos 100) (pos 0) ∷ [])
      ≡ 0x16 ∷ 0xfb ∷ 0x01 ∷ 0x00 ∷ 0x05 ∷ 0x0f ∷ 0x0b ∷ 0x0a ∷ 0x04 ∷ 0x01 ∷ 0x91 ∷ 0x03 ∷ 0x00 ∷ 0x00 ∷ 0x00 ∷ []

-- The offsets of the copies of a repetition, as plain mathematics.
use Rattle.std.specs.Prelude.{ℕ, List, ◌∷◌, map, pos, ◌*ℤ◌}
use Rattle.std.specs.List.{range_with_len, flat_map}
use Rattle.bounds.specs.declared.point.Point.{Point}
use Rattle.bounds.specs.Points.{point, origin, sum, path}

-- k times as far
abbrev pub scaled : ℕ → Point → Point
scaled k p = point (pos k *ℤ p.x) (pos k *ℤ p.y)

-- copy (i, j)
abbrev pub copy_at : Point → Point → ℕ → ℕ → Point
copy_at across up i j = sum (scaled i across) (scaled j up)

-- n copies of row j, from column i on
unfoldable pub row_from : Point → Point → (j i n : ℕ) → List Point
row_from across up j i n = map (λ k. copy_at across up k j) (range_with_len i n)

-- m rows from row j on, one after the other
unfoldable pub rows_from : (columns : ℕ) → Point → Point → (j m : ℕ) → List Point
rows_from columns across up j m = flat_map (λ k. row_from across up k 0 columns) (range_with_len j m)

-- all copies of a matrix, row by row
abbrev pub matrix : (columns rows : ℕ) → Point → Point → List Point
matrix columns rows across up = rows_from columns across up 0 rows

-- the copies that are so many spaces apart, times the grid
abbrev pub spread : (grid : ℕ) → List Point → List Point
spread grid spaces = origin ∷ map (scaled grid) (path origin spaces)

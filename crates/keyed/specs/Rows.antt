-- A table of rows as a list, in order of first coming.
use Rattle.std.specs.Prelude.{ℕ, zero, suc, Bool, cond, List, [], ◌∷◌, ◌++◌, length, take, Ok, Err, Option, Result, nat_lt, position, slice_set}
use Rattle.keyed.specs.declared.table.Entry.{Entry}
use Rattle.keyed.specs.declared.table.Table.{Table}
use Rattle.keyed.specs.declared.table.NoRow.{NoRow}

module _ {K V : Type 0} where
  abbrev pub has_key : (K → K → Bool) → K → Entry K V → Bool
  has_key same k row = same row.key k

  -- the place of the first row with the key
  abbrev pub find_key : (K → K → Bool) → K → List (Entry K V) → Option ℕ
  find_key same k rows = position (has_key same k) rows

  -- the rows of a table that are in use
  abbrev pub table : Table K V → List (Entry K V)
  table t = take t.used t.rows.now

  -- all rows of its memory
  abbrev pub memory : Table K V → List (Entry K V)
  memory t = t.rows.now

  -- how many they are
  abbrev pub room : Table K V → ℕ
  room t = length (memory t)

  -- the row at i has another value, and no other row changes
  abbrev pub updated : List (Entry K V) → ℕ → V → List (Entry K V)
  updated [] i v = []
  updated (r ∷ rs) zero v = record { key = r.key; value = v } ∷ rs
  updated (r ∷ rs) (suc i) v = r ∷ updated rs i v

  -- one row more, at the end; a full table stays as it is
  abbrev pub added : ℕ → List (Entry K V) → Entry K V → List (Entry K V)
  added most rows row = cond (nat_lt (length rows) most) (rows ++ row ∷ []) rows

  -- where that row stands, or the refusal of a full table
  abbrev pub next_place : ℕ → List (Entry K V) → Result ℕ NoRow
  next_place most rows = cond (nat_lt (length rows) most) (Ok (length rows)) (Err (record {}))

  -- memory with a row laid at n, where there is such a place; all other rows stay
  abbrev pub laid : List (Entry K V) → ℕ → Entry K V → List (Entry K V)
  laid rows n row = cond (nat_lt n (length rows)) (slice_set rows n row) rows

  -- memory of which the first n rows are in use, with another value at i
  abbrev pub changed : List (Entry K V) → ℕ → ℕ → V → List (Entry K V)
  changed rows n i v = cond (nat_lt i n) (updated rows i v) rows

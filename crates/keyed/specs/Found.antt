-- What finding a key in rows means.
use Rattle.std.specs.Prelude.{◌≡◌, ℕ, ◌<◌, List, length, take, Some, None, Option, ◌≢◌}
use Rattle.std.specs.List.{HoldsAt, AllByRecursion as Every}
use Rattle.keyed.specs.declared.table.Entry.{Entry}

module _ {K V : Type 0} where
  -- the row at i is the first with the key
  pub record FirstWith (key : K) (rows : List (Entry K V)) (i : ℕ) : Type 0 where
    pub within : i < length rows
    pub here : HoldsAt (λ row. row.key ≡ key) rows i
    pub earlier : Every (λ row. row.key ≢ key) (take i rows)

  -- a place is that of the first row with the key, and none says that no row has it
  abbrev pub Found : K → List (Entry K V) → Option ℕ → Type 0
  Found key rows (Some i) = FirstWith key rows i
  Found key rows None = Every (λ row. row.key ≢ key) rows

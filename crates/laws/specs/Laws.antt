-- What is proved of explicit forms.
use Rattle.std.specs.Prelude.{◌≡◌, ◌≤◌, true, List, [], length}
use Rattle.std.specs.List.{AllByRecursion as Every}
use Rattle.runs.specs.Laws.{records_of}
use Rattle.runs.specs.Runs.{longest, run}
use Rattle.items.specs.Sequences.{Whole}
use Rattle.items.specs.Things.{Thing}
use Rattle.items.specs.Validity.{valid}
use Rattle.drawing.specs.Written.{explicit_form}
use Rattle.laws.specs.Files.{names_of, items, Allowed}

-- items that a file can give, in sequence from start to end, with an explicit form that is not too long
pub record Drawable (ts : List Thing) : Type 0 where
  pub valid : Every (λ t. valid t ≡ true) ts
  pub order : Whole ts
  pub short : length (explicit_form ts) ≤ longest

-- what the explicit form of items is read as
pub record ReadAgain (ts : List Thing) : Type 0 where
  pub allowed : Allowed (explicit_form ts)
  pub items : items (explicit_form ts) ≡ ts
  -- it has no name records, and so needs no rows
  pub nameless : names_of (explicit_form ts) (records_of (run (explicit_form ts))) ≡ []

-- the explicit form of such items is an allowed file with exactly those items
abbrev pub Reread : Type 0
Reread = (ts : List Thing) → Drawable ts → ReadAgain ts

-- two explicit forms are equal in every byte only where the items are
abbrev pub FormsDistinct : Type 0
FormsDistinct = (ts us : List Thing) → Drawable ts → Drawable us → explicit_form ts ≡ explicit_form us → ts ≡ us

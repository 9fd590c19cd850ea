-- What is proved of repetitions, in the subject's words.
use Rattle.std.specs.Prelude.{◌≡◌, ℕ, suc, ◌+◌, ◌*◌, ◌<◌, ◌≤◌, List, length, take, fold, slice_index_or}
use Rattle.std.specs.List.{AllByRecursion as Every}
use Rattle.tokens.specs.Readers.{Made, Local}
use Rattle.bounds.specs.declared.point.Point.{Point}
use Rattle.bounds.specs.Points.{far_reach, origin, sum, Near, Rooted}
use Rattle.repetitions.specs.Offsets.{scaled, copy_at, matrix, spread}
use Rattle.repetitions.specs.Plans.{most_copies}
use Rattle.repetitions.specs.Repetitions.{repetition}

-- the copies of a repetition: the first is at the origin, all are in reach, and they are few
pub record Copied (ps : List Point) : Type 0 where
  pub begins : Rooted ps
  pub near : Every (Near far_reach) ps
  pub some : 1 ≤ length ps
  pub few : length ps ≤ most_copies

-- what is made of a repetition: at least one byte is read, inside the file, and the copies are such
abbrev pub RepetitionMade : Type 0
RepetitionMade = (file : List ℕ) (at : ℕ) → Made file (suc at) (repetition file at) (λ ps n. Copied ps)

-- no byte before its place or after where it stopped is looked at
abbrev pub RepetitionLocal : Type 0
RepetitionLocal = Local repetition

-- copy (i, j) of a matrix comes after j rows and i columns
abbrev pub MatrixInOrder : Type 0
MatrixInOrder =
    (columns rows i j : ℕ) (across up d : Point) → i < columns → j < rows → slice_index_or (matrix columns rows across up) (j * columns + i) d ≡ copy_at across up i j

-- and there are no other copies
abbrev pub MatrixWhole : Type 0
MatrixWhole = (columns rows : ℕ) (across up : Point) → length (matrix columns rows across up) ≡ columns * rows

-- copy k by a list is at the sum of its first k spaces, times the grid
abbrev pub ListInOrder : Type 0
ListInOrder = (grid k : ℕ) (spaces : List Point) (d : Point) → k ≤ length spaces → slice_index_or (spread grid spaces) k d ≡ scaled grid (fold sum origin (take k spaces))

-- and there are no other copies
abbrev pub ListWhole : Type 0
ListWhole = (grid : ℕ) (spaces : List Point) → length (spread grid spaces) ≡ suc (length spaces)

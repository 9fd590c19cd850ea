-- The plan of a repetition: what stands in it before its list of spaces, if it has one.
use Rattle.std.specs.Prelude.{ℕ, ◌+◌, ◌*◌, ◌<◌, ◌≤◌, Bool, true, false, cond, List, ◌==◌, nat_le}
use Rattle.tokens.specs.declared.fault.FaultKind.TheVariants.{BadType, Copies}
use Rattle.tokens.specs.Answers.{Answer, got, fault, then}
use Rattle.tokens.specs.Chains.{largest, unsigned}
use Rattle.bounds.specs.declared.point.Point.{Point}
use Rattle.bounds.specs.Points.{origin, Near}
use Rattle.repetitions.specs.declared.space.Axis.{Axis}
use Rattle.repetitions.specs.declared.space.Axis.TheVariants.{Across, Up, Both}
use Rattle.repetitions.specs.declared.plan.Matrix.{Matrix}
use Rattle.repetitions.specs.declared.plan.Listing.{Listing}
use Rattle.repetitions.specs.declared.plan.Plan.{Plan}
use Rattle.repetitions.specs.declared.plan.Plan.TheVariants.{Uniform, Listed}
use Rattle.repetitions.specs.Offsets.{matrix}
use Rattle.repetitions.specs.Spaces.{space_at}

-- the most copies that a repetition may have
abbrev pub most_copies : ℕ
most_copies = 65536

-- two dimensions, then two spaces. Too many copies are a fault of the second dimension
unfoldable pub matrix_at : Axis → Axis → List ℕ → ℕ → Answer Plan
matrix_at a b file at =
    then (unsigned file at) λ n second. then (unsigned file second) λ m i.
    cond (nat_le ((n + 2) * (m + 2)) most_copies)
    (then (space_at a file i) λ d j. then (space_at b file j) λ e k. got (Uniform (record { columns = n + 2; rows = m + 2; across = d; up = e })) k)
    (fault Copies second)

-- the only dimension of a repetition. Too many copies are a fault of it
unfoldable pub dimension_at : List ℕ → ℕ → Answer ℕ
dimension_at file at = then (unsigned file at) λ n i. cond (nat_le (n + 2) most_copies) (got n i) (fault Copies at)

-- one dimension, then one space: a matrix of one row
unfoldable pub line_at : Axis → List ℕ → ℕ → Answer Plan
line_at a file at =
    then (dimension_at file at) λ n i.
    then (space_at a file i) λ d j. got (Uniform (record { columns = n + 2; rows = 1; across = d; up = origin })) j

-- a grid, or 1 where none is given
unfoldable pub grid_at : (gridded : Bool) → List ℕ → ℕ → Answer ℕ
grid_at true file at = unsigned file at
grid_at false file at = got 1 at

-- one dimension, and a grid where one is given
unfoldable pub list_at : Axis → (gridded : Bool) → List ℕ → ℕ → Answer Plan
list_at a gridded file at =
    then (dimension_at file at) λ n i.
    then (grid_at gridded file i) λ g j. got (Listed (record { axis = a; spaces = n + 1; grid = g })) j

-- by the type, which stands at the place `first`
abbrev pub plan_from : List ℕ → (first kind at : ℕ) → Answer Plan
plan_from file first kind at =
    cond (kind == 1) (matrix_at Across Up file at)
    (cond (kind == 2) (line_at Across file at)
    (cond (kind == 3) (line_at Up file at)
    (cond (kind == 4) (list_at Across false file at)
    (cond (kind == 5) (list_at Across true file at)
    (cond (kind == 6) (list_at Up false file at)
    (cond (kind == 7) (list_at Up true file at)
    (cond (kind == 8) (matrix_at Both Both file at)
    (cond (kind == 9) (line_at Both file at)
    (cond (kind == 10) (list_at Both false file at)
    (cond (kind == 11) (list_at Both true file at)
    (fault BadType first)))))))))))

-- the plan at the place `at`
unfoldable pub plan : List ℕ → ℕ → Answer Plan
plan file at = then (unsigned file at) λ kind n. plan_from file at kind n

-- the copies of a matrix
abbrev pub copies_of : Matrix → List Point
copies_of m = matrix m.columns m.rows m.across m.up

-- what holds of a matrix that was read
pub record Sized (m : Matrix) : Type 0 where
  pub some_columns : 0 < m.columns
  pub some_rows : 0 < m.rows
  pub columns : m.columns ≤ most_copies
  pub rows : m.rows ≤ most_copies
  pub few : m.columns * m.rows ≤ most_copies
  pub across : Near largest m.across
  pub up : Near largest m.up

-- what holds of a list of spaces that was read, before the spaces
pub record Short (l : Listing) : Type 0 where
  pub spaces : l.spaces < most_copies
  pub grid : l.grid ≤ largest

-- what holds of a plan that was read
abbrev pub Sound : Plan → Type 0
Sound (Uniform m) = Sized m
Sound (Listed l) = Short l

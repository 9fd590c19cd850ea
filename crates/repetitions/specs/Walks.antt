-- What a walk over the copies of a repetition has yet to give.
use Rattle.std.specs.Prelude.{◌≡◌, ℕ, zero, suc, ◌+◌, ◌-◌, Bool, cond, ◌&&◌, List, [], ◌∷◌, ◌++◌, Some, None, Ok, Err, Option, Result, nat_le, nat_lt}
use Rattle.std.specs.Borrow.{Bor}
use Rattle.tokens.specs.declared.fault.TokenFault.{TokenFault}
use Rattle.tokens.specs.Answers.{Answer}
use Rattle.tokens.specs.Chains.{largest}
use Rattle.bounds.specs.declared.point.Point.{Point}
use Rattle.bounds.specs.Points.{origin, sum, within}
use Rattle.repetitions.specs.declared.space.Axis.{Axis}
use Rattle.repetitions.specs.declared.plan.Matrix.{Matrix}
use Rattle.repetitions.specs.declared.plan.Plan.{Plan}
use Rattle.repetitions.specs.declared.plan.Plan.TheVariants.{Uniform, Listed}
use Rattle.repetitions.specs.declared.copies.MatrixWalk.{MatrixWalk}
use Rattle.repetitions.specs.declared.copies.ListWalk.{ListWalk}
use Rattle.repetitions.specs.declared.copies.Walk.{Walk}
use Rattle.repetitions.specs.declared.copies.Walk.TheVariants.{InMatrix, ByList}
use Rattle.repetitions.specs.declared.copies.CopyWalk.{CopyWalk}
use Rattle.repetitions.specs.declared.copies.Copies.{Copies}
use Rattle.repetitions.specs.Offsets.{scaled, row_from, rows_from}
use Rattle.repetitions.specs.Spaces.{space_at}
use Rattle.repetitions.specs.Plans.{most_copies}
use Rattle.repetitions.specs.Repetitions.{reachable}

-- a matrix is no larger than one that was read
abbrev pub sized : Matrix → Bool
sized m = (nat_le m.columns most_copies && nat_le m.rows most_copies) && (within largest m.across && within largest m.up)

-- copy (i, j) is one of the matrix
abbrev pub inside : Matrix → (i j : ℕ) → Bool
inside m i j = (nat_lt i m.columns && nat_lt j m.rows) && sized m

-- the copies from (i, j) on: the end of row j, and the rows after it
abbrev pub ahead : Matrix → (i j : ℕ) → List Point
ahead m i j = row_from m.across m.up j i (m.columns - i) ++ rows_from m.columns m.across m.up (j + 1) (m.rows - (j + 1))

-- none, where there is no copy (i, j)
abbrev pub left_from : Matrix → (i j : ℕ) → List Point
left_from m i j = cond (inside m i j) (ahead m i j) []

abbrev pub matrix_left : MatrixWalk → List Point
matrix_left w = left_from w.matrix w.column w.row

-- no sum of the spaces of a repetition is further than this on an axis
abbrev pub furthest : ℕ
furthest = 1152921504606846976

-- a sum of spaces on the grid, where it is in reach and no further than such a sum can be
abbrev pub standing : (grid : ℕ) → Point → Option Point
standing grid p = cond (within furthest p) (reachable (scaled grid p)) None

-- a copy with those after it, or none
abbrev pub leading : Option Point → List Point → List Point
leading (Some p) ps = p ∷ ps
leading None ps = []

-- what follows a space, or none where no space stands
abbrev pub following : Answer Point → (Point → ℕ → List Point) → List Point
following (Ok x) f = f x.value x.next
following (Err e) f = []

-- k copies, the first at p times the grid, and the space after it at the place `at`
unfoldable pub trail : Axis → (grid : ℕ) → List ℕ → (k at : ℕ) → Point → List Point
trail a grid file zero at p = []
trail a grid file (suc k) at p = leading (standing grid p) (following (space_at a file at) λ d n. trail a grid file k n (sum p d))

abbrev pub list_left : List ℕ → ListWalk → List Point
list_left file w = trail w.listing.axis w.listing.grid file w.left w.place w.whole

abbrev pub left_of : List ℕ → Walk → List Point
left_of file (InMatrix w) = matrix_left w
left_of file (ByList w) = list_left file w

-- what a walk has yet to give, where it is handed this file
abbrev pub left_in : List ℕ → CopyWalk → List Point
left_in file c = left_of file c.walk

-- and in its own file
abbrev pub to_give : Copies → List Point
to_give c = left_in c.file.now c.walk

-- the walk over what is planned, where n is the place after the plan
abbrev pub planned : Plan → ℕ → Walk
planned (Uniform m) n = InMatrix (record { matrix = m; column = 0; row = 0 })
planned (Listed l) n = ByList (record { listing = l; left = l.spaces + 1; place = n; whole = origin })

-- and as a walk that holds no file
abbrev pub walk_of : Plan → ℕ → CopyWalk
walk_of p n = record { walk = planned p n }

abbrev pub begun : Answer Plan → Result CopyWalk TokenFault
begun (Ok x) = Ok (walk_of x.value x.next)
begun (Err e) = Err e

-- a walk was opened, and where it is handed this file, it will give these copies
abbrev pub LeadsTo : List ℕ → Result CopyWalk TokenFault → List Point → Type 0
LeadsTo file (Ok c) ps = left_in file c ≡ ps
LeadsTo file (Err e) ps = ⊥

-- the walk over what is planned, beside a file
abbrev pub opened : Bor (List ℕ) → Answer Plan → Result Copies TokenFault
opened file (Ok x) = Ok (record { file = file; walk = walk_of x.value x.next })
opened file (Err e) = Err e

-- a walk was opened in this file, and it will give these copies
abbrev pub OpensTo : List ℕ → Result Copies TokenFault → List Point → Type 0
OpensTo file (Ok c) ps = (c.file.now ≡ file) × (to_give c ≡ ps)
OpensTo file (Err e) ps = ⊥

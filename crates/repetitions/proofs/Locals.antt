-- A repetition is read from the bytes that it takes, and from no others.
use Rattle.std.proofs.Common.{ℕ, zero, suc, ◌+◌, ◌*◌, Bool, true, false, cond, eqb, leb, List, [], ◌∷◌, pos}
use Rattle.tokens.specs.declared.fault.FaultKind.TheVariants.{Copies, Reach}
use Rattle.tokens.specs.Answers.{Answer, got, fault, then}
use Rattle.tokens.specs.Chains.{unsigned}
use Rattle.tokens.specs.Deltas.{g_delta}
use Rattle.tokens.specs.Readers.{Local}
use Rattle.tokens.proofs.Locals.{local_then, local_got, local_fault, local_cond, unsigned_local, g_delta_local}
use Rattle.bounds.specs.declared.point.Point.{Point}
use Rattle.bounds.specs.Points.{far_reach, point, origin, all_within}
use Rattle.repetitions.specs.declared.space.Axis.{Axis}
use Rattle.repetitions.specs.declared.space.Axis.TheVariants.{Across, Up, Both}
use Rattle.repetitions.specs.declared.plan.Plan.{Plan}
use Rattle.repetitions.specs.declared.plan.Plan.TheVariants.{Uniform, Listed}
use Rattle.repetitions.specs.Offsets.{spread}
use Rattle.repetitions.specs.Spaces.{space_at, series}
use Rattle.repetitions.specs.Plans.{most_copies, matrix_at, dimension_at, line_at, grid_at, list_at, plan_from, plan, copies_of}
use Rattle.repetitions.specs.Repetitions.{reaching, offsets, repetition}
use Rattle.repetitions.specs.Laws.{RepetitionLocal}

space_local : (a : Axis) → Local (space_at a)
unfolding space_at
space_local Across = local_then unsigned (λ file at s n. got (point (pos s) (pos 0)) n) unsigned_local (λ at s. local_got _)
space_local Up = local_then unsigned (λ file at s n. got (point (pos 0) (pos s)) n) unsigned_local (λ at s. local_got _)
space_local Both = local_then g_delta (λ file at d n. got (point d.0 d.1) n) g_delta_local (λ at d. local_got _)

matrix_local : (a b : Axis) → Local (matrix_at a b)
unfolding matrix_at
matrix_local a b =
    local_then unsigned _ unsigned_local (λ at n.
    from_second n)
  where
    rest : (n m : ℕ) → Local (λ file i. then (space_at a file i) (λ d j. then (space_at b file j) (λ e k. got (Uniform (record { columns = n + 2; rows = m + 2; across = d; up = e })) k)))
    rest n m =
        local_then (space_at a) _ (space_local a) (λ i d.
        local_then (space_at b) (λ file j e k. got (Uniform (record { columns = n + 2; rows = m + 2; across = d; up = e })) k) (space_local b) (λ j e. local_got _))

    from_second : (n : ℕ) → Local (λ file second. then (unsigned file second) (λ m i. cond (leb ((n + 2) * (m + 2)) most_copies) (then (space_at a file i) (λ d j. then (space_at b file j) (λ e k. got (Uniform (record { columns = n + 2; rows = m + 2; across = d; up = e })) k))) (fault Copies second)))
    from_second n = local_then unsigned _ unsigned_local (λ second m. local_cond (leb ((n + 2) * (m + 2)) most_copies) _ _ (rest n m) (local_fault _))

dimension_local : Local dimension_at
unfolding dimension_at
dimension_local = local_then unsigned _ unsigned_local (λ at n. local_cond (leb (n + 2) most_copies) _ _ (local_got n) (local_fault _))

line_local : (a : Axis) → Local (line_at a)
unfolding line_at
line_local a =
    local_then dimension_at _ dimension_local (λ at n.
    local_then (space_at a) (λ file i d j. got (Uniform (record { columns = n + 2; rows = 1; across = d; up = origin })) j) (space_local a) (λ i d. local_got _))

grid_local : (gridded : Bool) → Local (grid_at gridded)
unfolding grid_at
grid_local true = unsigned_local
grid_local false = local_got 1

list_local : (a : Axis) (gridded : Bool) → Local (list_at a gridded)
unfolding list_at
list_local a gridded =
    local_then dimension_at _ dimension_local (λ at n.
    local_then (grid_at gridded) (λ file i g j. got (Listed (record { axis = a; spaces = n + 1; grid = g })) j) (grid_local gridded) (λ i g. local_got _))

plan_local : Local plan
unfolding plan
plan_local =
    local_then unsigned (λ file at kind n. plan_from file at kind n) unsigned_local (λ at kind.
    local_cond (eqb kind 1) _ _ (matrix_local Across Up)
    (local_cond (eqb kind 2) _ _ (line_local Across)
    (local_cond (eqb kind 3) _ _ (line_local Up)
    (local_cond (eqb kind 4) _ _ (list_local Across false)
    (local_cond (eqb kind 5) _ _ (list_local Across true)
    (local_cond (eqb kind 6) _ _ (list_local Up false)
    (local_cond (eqb kind 7) _ _ (list_local Up true)
    (local_cond (eqb kind 8) _ _ (matrix_local Both Both)
    (local_cond (eqb kind 9) _ _ (line_local Both)
    (local_cond (eqb kind 10) _ _ (list_local Both false)
    (local_cond (eqb kind 11) _ _ (list_local Both true)
    (local_fault _))))))))))))

series_local : {A : Type 0} (r : List ℕ → ℕ → Answer A) (k : ℕ) → Local r → Local (series r k)
unfolding series
series_local r zero l = local_got []
series_local r (suc k) l =
    local_then r _ l (λ at v. local_then (series r k) (λ file n vs m. got (v ∷ vs) m) (series_local r k l) (λ n vs. local_got (v ∷ vs)))

-- the test of the offsets reads nothing
reaching_local : (first : ℕ) (ps : List Point) → Local (λ file n. reaching first ps n)
reaching_local first ps = local_cond (all_within far_reach ps) (λ file n. got ps n) (λ file n. fault Reach first) (local_got ps) (local_fault _)

offsets_local : (first : ℕ) (p : Plan) → Local (λ file n. offsets file first p n)
offsets_local first (Uniform m) = reaching_local first (copies_of m)
offsets_local first (Listed l) =
    local_then (series (space_at l.axis) l.spaces) (λ file n ds i. reaching first (spread l.grid ds) i)
    (series_local (space_at l.axis) l.spaces (space_local l.axis)) (λ n ds. reaching_local first (spread l.grid ds))

pub repetition_local : RepetitionLocal
unfolding repetition
repetition_local = local_then plan (λ file at p n. offsets file at p n) plan_local (λ at p. offsets_local at p)

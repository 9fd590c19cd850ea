-- What a repetition makes: progress in the file, and what holds of its plan and its copies.
use Rattle.std.proofs.Common.{◌≡◌, ℕ, zero, suc, ◌+◌, ◌*◌, ◌<◌, ◌≤◌, Bool, true, false, eqb, leb, List, [], ◌∷◌, map, length, pos, IfOk, refl, ap, mul_comm, mul-one, le-mul_of_pos_right, arith}
use Rattle.std.specs.List.{AllByRecursion as Every}
use Rattle.std.proofs.lemmas.Int.{ints}
use Rattle.std.proofs.lemmas.Bool.{leb-true}
use Rattle.tokens.specs.Answers.{Answer}
use Rattle.tokens.specs.Chains.{largest}
use Rattle.tokens.specs.Readers.{Made}
use Rattle.tokens.proofs.ChainLaws.{unsigned_made}
use Rattle.tokens.proofs.Deltas.{g_delta_made}
use Rattle.tokens.proofs.Mades.{made_got, made_fault, made_then, made_cond, made_less, made_by}
use Rattle.bounds.specs.declared.point.Point.{Point}
use Rattle.bounds.specs.Points.{far_reach, point, origin, sum, Near, all_within, Rooted, path}
use Rattle.bounds.proofs.Fitting.{all_within_lem}
use Rattle.repetitions.specs.declared.space.Axis.{Axis}
use Rattle.repetitions.specs.declared.space.Axis.TheVariants.{Across, Up, Both}
use Rattle.repetitions.specs.declared.plan.Plan.{Plan}
use Rattle.repetitions.specs.declared.plan.Plan.TheVariants.{Uniform, Listed}
use Rattle.repetitions.specs.declared.summary.Summary.{Summary}
use Rattle.repetitions.specs.Offsets.{scaled, spread}
use Rattle.repetitions.specs.Spaces.{space_at, series}
use Rattle.repetitions.specs.Plans.{most_copies, matrix_at, dimension_at, line_at, grid_at, list_at, plan_from, plan, copies_of, Sized, Sound}
use Rattle.repetitions.specs.Repetitions.{reaching, offsets, repetition, in_short, summarised, Modest}
use Rattle.repetitions.specs.Laws.{Copied, RepetitionMade}
use Rattle.repetitions.proofs.Matrices.{matrix_rooted, rows_length}
use Rattle.repetitions.proofs.Reaches.{spread-length, near_modest}

-- a space is at most the greatest integer on each axis
pub space_made : (axis : Axis) (file : List ℕ) (at : ℕ) → Made file (suc at) (space_at axis file at) (λ d n. Near largest d)
unfolding space_at
space_made Across file at = made_then _ (unsigned_made file at) (λ s n l h p. made_got (point (pos s) (pos 0)) n (omega arith) h (record { x = p; y = omega arith }))
space_made Up file at = made_then _ (unsigned_made file at) (λ s n l h p. made_got (point (pos 0) (pos s)) n (omega arith) h (record { x = omega arith; y = p }))
space_made Both file at = made_then _ (g_delta_made file at) (λ d n l h p. made_got (point d.0 d.1) n (omega arith) h (record { x = omega (arith, p.0); y = omega (arith, p.1) }))

-- one space more
pub sum_near : (i : ℕ) (p d : Point) → Near (i * largest) p → Near largest d → Near ((i + 1) * largest) (sum p d)
sum_near i p d h k = record { x = omega (arith, ints, h.x, k.x); y = omega (arith, ints, h.y, k.y) }

-- two dimensions whose copies are few
few_sized : (n m : ℕ) (d e : Point) → (n + 2) * (m + 2) ≤ most_copies → Near largest d → Near largest e → Sized (record { columns = n + 2; rows = m + 2; across = d; up = e })
few_sized n m d e few f g =
    let p : 0 < m + 2 = omega arith in
    let q : 0 < n + 2 = omega arith in
    let a = le-mul_of_pos_right (n + 2) p in
    let b = le-mul_of_pos_right (m + 2) q in
    let c = mul_comm (m + 2) (n + 2) in
    record { some_columns = q; some_rows = p; columns = omega arith; rows = omega arith; few = few; across = f; up = g }

-- one dimension
line-sized : (n : ℕ) (d : Point) → n + 2 ≤ most_copies → Near largest d → Sized (record { columns = n + 2; rows = 1; across = d; up = origin })
line-sized n d few f =
    record { some_columns = omega arith; some_rows = omega arith; columns = few; rows = omega arith; few = omega (arith, mul-one (n + 2)); across = f; up = record { x = omega arith; y = omega arith } }

matrix_made : (a b : Axis) (file : List ℕ) (at : ℕ) → Made file (suc at) (matrix_at a b file at) (λ p n. Sound p)
unfolding matrix_at
matrix_made a b file at =
    made_then _ (unsigned_made file at) (λ n i _ _ _.
    made_then _ (made_less (unsigned_made file i)) (λ m j _ _ _.
    made_cond (leb ((n + 2) * (m + 2)) most_copies)
    (λ t. made_then _ (made_less (space_made a file j)) (λ d k _ _ f.
    made_then _ (made_less (space_made b file k)) (λ e l _ h g.
    made_got (Uniform (record { columns = n + 2; rows = m + 2; across = d; up = e })) l (omega arith) h (few_sized n m d e (leb-true _ _ t) f g))))
    (λ t. made_fault _)))

dimension_made : (file : List ℕ) (at : ℕ) → Made file (suc at) (dimension_at file at) (λ n i. n + 2 ≤ most_copies)
unfolding dimension_at
dimension_made file at =
    made_then _ (unsigned_made file at) (λ n i _ h _.
    made_cond (leb (n + 2) most_copies) (λ t. made_got n i (omega arith) h (leb-true _ _ t)) (λ t. made_fault _))

line_made : (a : Axis) (file : List ℕ) (at : ℕ) → Made file (suc at) (line_at a file at) (λ p n. Sound p)
unfolding line_at
line_made a file at =
    made_then _ (dimension_made file at) (λ n i _ _ few.
    made_then _ (made_less (space_made a file i)) (λ d k _ h f.
    made_got (Uniform (record { columns = n + 2; rows = 1; across = d; up = origin })) k (omega arith) h (line-sized n d few f)))

grid_made : (gridded : Bool) (file : List ℕ) (at : ℕ) → at ≤ length file → Made file at (grid_at gridded file at) (λ g n. g ≤ largest)
unfolding grid_at
grid_made true file at h = made_less (unsigned_made file at)
grid_made false file at h = made_got 1 at (omega arith) h (omega arith)

list_made : (a : Axis) (gridded : Bool) (file : List ℕ) (at : ℕ) → Made file (suc at) (list_at a gridded file at) (λ p n. Sound p)
unfolding list_at
list_made a gridded file at =
    made_then _ (dimension_made file at) (λ n i _ k few.
    made_then _ (grid_made gridded file i k) (λ g j _ h f.
    made_got (Listed (record { axis = a; spaces = n + 1; grid = g })) j (omega arith) h (record { spaces = omega arith; grid = f })))

plan_from_made : (file : List ℕ) (first kind at : ℕ) → Made file at (plan_from file first kind at) (λ p n. Sound p)
plan_from_made file first kind at =
    made_cond (eqb kind 1) (λ _. made_less (matrix_made Across Up file at))
    (λ _. made_cond (eqb kind 2) (λ _. made_less (line_made Across file at))
    (λ _. made_cond (eqb kind 3) (λ _. made_less (line_made Up file at))
    (λ _. made_cond (eqb kind 4) (λ _. made_less (list_made Across false file at))
    (λ _. made_cond (eqb kind 5) (λ _. made_less (list_made Across true file at))
    (λ _. made_cond (eqb kind 6) (λ _. made_less (list_made Up false file at))
    (λ _. made_cond (eqb kind 7) (λ _. made_less (list_made Up true file at))
    (λ _. made_cond (eqb kind 8) (λ _. made_less (matrix_made Both Both file at))
    (λ _. made_cond (eqb kind 9) (λ _. made_less (line_made Both file at))
    (λ _. made_cond (eqb kind 10) (λ _. made_less (list_made Both false file at))
    (λ _. made_cond (eqb kind 11) (λ _. made_less (list_made Both true file at))
    (λ _. made_fault _)))))))))))

pub plan_made : (file : List ℕ) (at : ℕ) → Made file (suc at) (plan file at) (λ p n. Sound p)
unfolding plan
plan_made file at = made_then _ (unsigned_made file at) (λ kind n _ _ _. plan_from_made file at kind n)

-- as many things as were asked for
pub series_made : {A : Type 0} (r : List ℕ → ℕ → Answer A) (P : A → Type 0) (file : List ℕ) → ((at : ℕ) → Made file (suc at) (r file at) (λ v n. P v)) → (k at : ℕ) → at ≤ length file → Made file at (series r k file at) (λ vs n. (length vs ≡ k) × Every P vs)
unfolding series
series_made r P file m zero at h = made_got [] at (omega arith) h (refl, tt)
series_made r P file m (suc k) at h =
    made_then _ (made_less (m at)) (λ v n _ i p.
    made_then _ (series_made r P file m k n i) (λ vs j _ l q. made_got (v ∷ vs) j (omega arith) l (ap suc q.0, (p, q.1))))

-- offsets that were tested
reaching_made : (file : List ℕ) (first n : ℕ) (ps : List Point) → n ≤ length file → Rooted ps → 1 ≤ length ps → length ps ≤ most_copies → Made file n (reaching first ps n) (λ ps n. Copied ps)
reaching_made file first n ps h r s f =
    made_cond (all_within far_reach ps)
    (λ t. made_got ps n (omega arith) h (record { begins = r; near = (all_within_lem far_reach ps).0 t; some = s; few = f }))
    (λ t. made_fault _)

-- those of a plan that was read
offsets_made : (file : List ℕ) (first : ℕ) (p : Plan) (n : ℕ) → n ≤ length file → Sound p → Made file n (offsets file first p n) (λ ps n. Copied ps)
offsets_made file first (Uniform m) n h z =
    let l = rows_length m.across m.up m.columns 0 m.rows in
    let some = le-mul_of_pos_right m.columns z.some_rows in
    reaching_made file first n (copies_of m) h (matrix_rooted m.across m.up m.columns m.rows z.some_columns z.some_rows) (omega (arith, l, some, z.some_columns)) (omega (arith, l, z.few))
offsets_made file first (Listed l) n h z =
    made_then _ (series_made (space_at l.axis) (Near largest) file (λ at. space_made l.axis file at) l.spaces n h) (λ ds i _ k q.
    let e = spread-length l.grid ds in
    reaching_made file first i (spread l.grid ds) k (record { others = map (scaled l.grid) (path origin ds); begins = refl }) (omega (arith, e)) (omega (arith, e, q.0, z.spaces)))

pub repetition_made : RepetitionMade
unfolding repetition
repetition_made file at = made_then _ (plan_made file at) (λ p n _ h z. offsets_made file at p n h z)

-- what the reader of a repetition promises
pub summary_within : (file : List ℕ) (at : ℕ) (r : Answer Summary) → r ≡ summarised (repetition file at) → IfOk r (λ x. (1 ≤ x.value.copies) × (x.value.copies ≤ most_copies) × Modest far_reach x.value.bounds × (at < x.next) × (x.next ≤ length file))
summary_within file at r e =
    made_by _ e
    (made_then {P = λ s n. (1 ≤ s.copies) × (s.copies ≤ most_copies) × Modest far_reach s.bounds} _ (repetition_made file at)
    (λ ps n _ h q. made_got (in_short ps) n (omega arith) h (q.some, q.few, near_modest far_reach ps q.begins q.near)))
    (λ x l h p. (p.0, p.1, p.2, l, h))

-- A list of type 4 that was written from vertex to vertex is read again.
use Rattle.std.proofs.Common.{◌≡◌, ℕ, ◌+◌, ◌≤◌, Bool, true, false, List, [], ◌∷◌, ◌++◌, map, length, ℤ, pos, ◌+ℤ◌, ◌-ℤ◌, sym, refl, ap, ◌∙◌, ap₂, arith}
use Rattle.std.specs.List.{AllByRecursion as Every}
use Rattle.std.proofs.lemmas.List.{append-nil}
use Rattle.std.proofs.lemmas.Int.{ints}
use Rattle.std.proofs.lemmas.Bool.{cond-true, le-leb}
use Rattle.tokens.specs.Answers.{got}
use Rattle.tokens.specs.Chains.{largest}
use Rattle.tokens.specs.Encodings.{shortest, g_delta_bytes, FitsDelta}
use Rattle.tokens.specs.Readers.{Back}
use Rattle.tokens.proofs.Backs.{back_then, back_last, back_none, back_is}
use Rattle.tokens.proofs.Encodings.{small_back, unsigned_back, g_delta_back, code_size}
use Rattle.bounds.specs.declared.point.Point.{Point}
use Rattle.bounds.specs.Points.{reach, far_reach, origin, sum, Near, within, path}
use Rattle.bounds.proofs.Fitting.{near_within}
use Rattle.point_lists.specs.declared.kind.ListKind.TheVariants.{General}
use Rattle.point_lists.specs.declared.walk.Walk.{Walk}
use Rattle.point_lists.specs.Kinds.{good_count, closes, implied}
use Rattle.point_lists.specs.Walks.{displacement, vector_by, moved, advanced, start}
use Rattle.point_lists.specs.Rolls.{unrolled}
use Rattle.point_lists.specs.Lists.{last_of, vectors, vertices, closing, list_head, point_list}
use Rattle.point_lists.specs.Laws.{gap, delta_bytes, ListBack}

-- two gaps make one
gaps : (a b c : ℤ) → (b -ℤ a) +ℤ (c -ℤ b) ≡ c -ℤ a
gaps a b c = omega (arith, ints)

gap-gap : (p q r : Point) → sum (gap p q) (gap q r) ≡ gap p r
gap-gap p q r = λ i. record { x = gaps p.x q.x r.x i; y = gaps p.y q.y r.y i }

-- no gap
self : (a : ℤ) → pos 0 ≡ a -ℤ a
self a = omega (arith, ints)

gap_self : (p : Point) → origin ≡ gap p p
gap_self p = λ i. record { x = self p.x i; y = self p.y i }

-- a gap between places in reach
gap_near : (p q : Point) → Near reach p → Near reach q → Near far_reach (gap p q)
gap_near p q h k = record { x = omega (arith, ints, h.x, k.x); y = omega (arith, ints, h.y, k.y) }

-- is a displacement that a file can hold
gap_fits : (p q : Point) → Near reach p → Near reach q → FitsDelta ((gap p q).x, (gap p q).y)
gap_fits p q h k =
    let g = gap_near p q h k in
    (omega (arith, code_size (gap p q).x, g.x), omega (arith, code_size (gap p q).y, g.y))

-- the walk from vertex to vertex
walks : Walk → Point → List Point → List Walk
walks w p [] = []
walks w p (q ∷ qs) = moved w (gap p q) ∷ walks (moved w (gap p q)) q qs

-- a walk along a list of type 4 goes by its displacements
straight : (first p q : Point) (w : Walk) → w.kind ≡ General → sum (gap first p) (vector_by w.kind w.vector (gap p q)) ≡ gap first q
straight first p q w g = ap (λ k. sum (gap first p) (vector_by k w.vector (gap p q))) g ∙ gap-gap first p q

here : (first p q : Point) (w : Walk) → w.kind ≡ General → w.at ≡ gap first p → (moved w (gap p q)).at ≡ gap first q
unfolding moved
here first p q w g e = ap (λ a. sum a (vector_by w.kind w.vector (gap p q))) e ∙ straight first p q w g

-- and its type stays
kept : (d : Point) (w : Walk) → w.kind ≡ General → (moved w d).kind ≡ General
unfolding moved
kept d w g = g

step_back : (file : List ℕ) (at : ℕ) (first p q : Point) (w : Walk) → w.kind ≡ General → w.at ≡ gap first p → Near reach first → Near reach p → Near reach q → Back file at (g_delta_bytes ((gap p q).x, (gap p q).y)) (advanced file at w) (moved w (gap p q))
unfolding advanced
step_back file at first p q w g e hf hp hq =
    let inside : within far_reach (moved w (gap p q)).at ≡ true =
    ap (within far_reach) (here first p q w g e) ∙ near_within far_reach (gap first q) (gap_near first q hf hq) in
    back_last _ (back_is (ap (λ k. displacement k w.across file at) (sym g)) (back_last _ (g_delta_back file at ((gap p q).x, (gap p q).y) (gap_fits p q hp hq)) refl))
    (cond-true (within far_reach (moved w (gap p q)).at) _ _ inside)

walks_back : (file : List ℕ) (first : Point) → Near reach first → (qs : List Point) (at : ℕ) (w : Walk) (p : Point) → w.kind ≡ General → w.at ≡ gap first p → Near reach p → Every (Near reach) qs → Back file at (delta_bytes p qs) (unrolled (advanced file) (length qs) at w) (walks w p qs)
unfolding unrolled walks
walks_back file first hf [] at w p g e h k = back_none
walks_back file first hf (q ∷ qs) at w p g e h k =
    back_then _ (step_back file at first p q w g e hf h k.0)
    (back_last _ (walks_back file first hf qs (at + length (g_delta_bytes ((gap p q).x, (gap p q).y))) (moved w (gap p q)) q (kept (gap p q) w g) (here first p q w g e) k.0 k.1) refl)

-- its displacements are the gaps, which lead to the vertices
walks_vectors : (qs : List Point) (w : Walk) (p first : Point) → w.kind ≡ General → path (gap first p) (vectors (walks w p qs)) ≡ map (gap first) qs
unfolding walks moved
walks_vectors [] w p first g = refl
walks_vectors (q ∷ qs) w p first g =
    ap₂ (λ a l. a ∷ l) (straight first p q w g) (ap (λ a. path a (vectors (walks (moved w (gap p q)) q qs))) (straight first p q w g) ∙ walks_vectors qs (moved w (gap p q)) q first g)

counts : (closed : Bool) (n : ℕ) → (closed ≡ true → 2 ≤ n) → good_count General closed n ≡ true
counts true n h = le-leb 2 n (h refl)
counts false n h = refl

closed-any : (closed : Bool) (p : Point) → closes General closed p ≡ true
closed-any true p = refl
closed-any false p = refl

implied_none : (closed : Bool) (p : Point) → implied General closed p ≡ []
implied_none true p = refl
implied_none false p = refl

head_back : (file : List ℕ) (at : ℕ) (closed : Bool) (n : ℕ) → n ≤ largest → (closed ≡ true → 2 ≤ n) → Back file at (4 ∷ shortest n) (list_head file at closed) (record { kind = General; count = n })
unfolding list_head
head_back file at closed n l m =
    back_then _ (small_back file at 4 (omega arith))
    (back_last _ (unsigned_back file _ n l) (cond-true (good_count General closed n) _ _ (counts closed n m)))

closing-got : (closed : Bool) (at n : ℕ) (ds vs : List Point) → vertices General closed ds ≡ vs → closing General closed at ds n ≡ got vs n
closing-got closed at n ds vs e =
    cond-true (closes General closed (last_of origin (path origin ds))) _ _ (closed-any closed (last_of origin (path origin ds))) ∙ ap (λ v. got v n) e

pub list_back : ListBack
unfolding point_list
list_back file at closed p qs hp hq l m =
    let w : Walk = start General in
    let ds : List Point = vectors (walks w p qs) in
    let far : path origin ds ≡ map (gap p) qs = ap (λ a. path a ds) (gap_self p) ∙ walks_vectors qs w p p refl in
    let all : vertices General closed ds ≡ map (gap p) (p ∷ qs) =
    ap (λ l. origin ∷ (path origin ds ++ l)) (implied_none closed (last_of origin (path origin ds)))
    ∙ ap₂ (λ a l. a ∷ l) (gap_self p) (append-nil (path origin ds) ∙ far) in
    back_then _ (head_back file at closed (length qs) l m)
    (back_last _ (walks_back file p hp qs _ w p refl (gap_self p) hp hq)
    (closing-got closed at _ ds _ all))

-- One step of a walk by a list of spaces, and what a walk gives from its beginning.
use Rattle.std.proofs.Common.{◌≡◌, ℕ, zero, suc, ◌+◌, ◌-◌, ◌*◌, ◌<◌, ◌≤◌, Bool, true, false, cond, List, [], ◌∷◌, map, Some, None, Ok, Err, Result, sym, refl, ap, ◌∙◌, subst, arith}
use Rattle.std.proofs.lemmas.Bool.{and_parts, cond-true, cond-false}
use Rattle.tokens.specs.declared.fault.Read.{Read}
use Rattle.tokens.specs.declared.fault.TokenFault.{TokenFault}
use Rattle.tokens.specs.Answers.{Answer, got, then}
use Rattle.tokens.specs.Chains.{largest}
use Rattle.tokens.proofs.Chaining.{same_got, not_fault}
use Rattle.bounds.specs.declared.point.Point.{Point}
use Rattle.bounds.specs.Points.{far_reach, origin, sum, Near, within, all_within, path}
use Rattle.bounds.proofs.Fitting.{near_within}
use Rattle.repetitions.specs.declared.space.Axis.{Axis}
use Rattle.repetitions.specs.declared.plan.Plan.{Plan}
use Rattle.repetitions.specs.declared.plan.Plan.TheVariants.{Uniform, Listed}
use Rattle.repetitions.specs.declared.copies.CopyWalk.{CopyWalk}
use Rattle.repetitions.specs.Offsets.{scaled, spread}
use Rattle.repetitions.specs.Spaces.{space_at, series}
use Rattle.repetitions.specs.Plans.{most_copies, plan, copies_of, Sound}
use Rattle.repetitions.specs.Repetitions.{reachable, spaces_at, reaching, offsets, repetition}
use Rattle.repetitions.specs.Walks.{furthest, standing, leading, following, trail, left_of, planned, begun, LeadsTo}
use Rattle.repetitions.proofs.Mades.{space_made, sum_near, plan_made}
use Rattle.repetitions.proofs.Orders.{origin_on}
use Rattle.repetitions.proofs.Walks.{left_whole}

-- a value that was read by two readers was read by the first and then by the second
got-then : {A B : Type 0} (m : Answer A) (f : A → ℕ → Answer B) (v : B) (n : ℕ) → got v n ≡ then m f → (x : Read A) × (Ok x ≡ m) × (got v n ≡ f x.value x.next)
got-then (Ok x) f v n e = (x, refl, e)
got-then (Err d) f v n e = not_fault e

-- a value comes only where the test came out true
got_where : {A : Type 0} (b : Bool) (v w : A) (m n : ℕ) (d : TokenFault) → got v m ≡ cond b (got w n) (Err d) → (b ≡ true) × (w ≡ v)
got_where true v w m n d e = (refl, sym (same_got e).0)
got_where false v w m n d e = not_fault e

module _ (a : Axis) (g : ℕ) (file : List ℕ) where
  -- what stands after the copy at p, of which k - 1 are left
  abbrev rest : (k at : ℕ) → Point → List Point
  rest k at p = following (space_at a file at) (λ d n. trail a g file (k - 1) n (sum p d))

  -- no copy is left
  pub trail_none : (k at : ℕ) (p : Point) → k ≡ 0 → trail a g file k at p ≡ []
  unfolding trail
  trail_none k at p e = ap (λ i. trail a g file i at p) e

  trail_is : (k at : ℕ) (p : Point) → 0 < k → trail a g file k at p ≡ leading (standing g p) (rest k at p)
  unfolding trail
  trail_is zero at p h = absurd (omega arith)
  trail_is (suc k) at p h =
      let e : k ≡ suc k - 1 = omega arith in
      ap (λ i. leading (standing g p) (following (space_at a file at) (λ d n. trail a g file i n (sum p d)))) e

  -- a copy is left, and it is given
  pub trail-next : (k at : ℕ) (p q : Point) (left : List Point) → 0 < k → true ≡ within furthest p → Some q ≡ reachable (scaled g p) → left ≡ rest k at p → trail a g file k at p ≡ q ∷ left
  trail-next k at p q left h f e r =
      trail_is k at p h
      ∙ ap (λ s. leading s (rest k at p)) (cond-true (within furthest p) (reachable (scaled g p)) None (sym f) ∙ sym e)
      ∙ ap (λ l. q ∷ l) (sym r)

  -- the next one is further than any sum of spaces
  pub trail_far : (k at : ℕ) (p : Point) → 0 < k → false ≡ within furthest p → trail a g file k at p ≡ []
  trail_far k at p h f = trail_is k at p h ∙ ap (λ s. leading s (rest k at p)) (cond-false (within furthest p) (reachable (scaled g p)) None (sym f))

  -- the next one is out of reach
  pub trail_out : (k at : ℕ) (p : Point) → 0 < k → true ≡ within furthest p → None ≡ reachable (scaled g p) → trail a g file k at p ≡ []
  trail_out k at p h f e =
      trail_is k at p h ∙ ap (λ s. leading s (rest k at p)) (cond-true (within furthest p) (reachable (scaled g p)) None (sym f) ∙ sym e)

  -- after the last copy nothing follows
  pub nothing_after : (k : ℕ) (p : Point) (r : Answer Point) → k ≡ 0 → following r (λ d n. trail a g file k n (sum p d)) ≡ []
  nothing_after k p (Ok x) e = trail_none k x.next (sum p x.value) e
  nothing_after k p (Err d) e = refl

  -- a copy in reach, no further than i spaces
  stands : (i : ℕ) (p : Point) → i ≤ most_copies → Near (i * largest) p → within far_reach (scaled g p) ≡ true → standing g p ≡ Some (scaled g p)
  stands i p h n t =
      cond-true (within furthest p) (reachable (scaled g p)) None (near_within furthest p (record { x = omega (arith, n.x); y = omega (arith, n.y) }))
      ∙ cond-true (within far_reach (scaled g p)) (Some (scaled g p)) None t

  -- where k spaces stand and all that they lead to is in reach, that is given
  trail_whole : (k at i n : ℕ) (p : Point) (ds : List Point) → got ds n ≡ series (space_at a) k file at → all_within far_reach (scaled g p ∷ map (scaled g) (path p ds)) ≡ true → i + k ≤ most_copies → Near (i * largest) p → trail a g file (suc k) at p ≡ scaled g p ∷ map (scaled g) (path p ds)
  unfolding trail series
  trail_whole zero at i n p ds e t l h =
      let w = and_parts (within far_reach (scaled g p)) _ t in
      ap (λ s. leading s (following (space_at a file at) (λ d n. trail a g file 0 n (sum p d)))) (stands i p (omega arith) h w.0)
      ∙ ap (λ r. scaled g p ∷ r) (nothing_after 0 p (space_at a file at) refl)
      ∙ ap (λ xs. scaled g p ∷ map (scaled g) (path p xs)) (sym (same_got e).0)
  trail_whole (suc k) at i n p ds e t l h =
      let b = got-then (space_at a file at) (λ v j. then (series (space_at a) k file j) (λ vs m. got (v ∷ vs) m)) ds n e in
      let x = b.0 in
      let c = got-then (series (space_at a) k file x.next) (λ vs m. got (x.value ∷ vs) m) ds n b.2 in
      let y = c.0 in
      let s : ds ≡ x.value ∷ y.value = (same_got c.2).0 in
      let w = and_parts (within far_reach (scaled g p)) (all_within far_reach (map (scaled g) (path p ds))) t in
      let u = subst (λ xs. all_within far_reach (map (scaled g) (path p xs)) ≡ true) s w.1 in
      let near = ((space_made a file at).on x b.1).2 in
      ap (λ o. leading o (following (space_at a file at) (λ d j. trail a g file (suc k) j (sum p d)))) (stands i p (omega arith) h w.0)
      ∙ ap (λ r. scaled g p ∷ following r (λ d j. trail a g file (suc k) j (sum p d))) (sym b.1)
      ∙ ap (λ r. scaled g p ∷ r) (trail_whole k x.next (i + 1) y.next (sum p x.value) y.value c.1 u (omega arith) (sum_near i p x.value h near))
      ∙ ap (λ xs. scaled g p ∷ map (scaled g) (path p xs)) (sym s)

-- the walk over a plan that was read gives the copies that are planned
walk_gives : (file : List ℕ) (at : ℕ) (ps : List Point) (n : ℕ) (p : Plan) (i : ℕ) → Sound p → offsets file at p i ≡ got ps n → left_of file (planned p i) ≡ ps
walk_gives file at ps n (Uniform m) i z q = left_whole m z ∙ (got_where (all_within far_reach (copies_of m)) ps (copies_of m) n i _ (sym q)).1
walk_gives file at ps n (Listed l) i z q =
    let b = got-then (spaces_at l file i) (λ ds j. reaching at (spread l.grid ds) j) ps n (sym q) in
    let x = b.0 in
    let w = got_where (all_within far_reach (spread l.grid x.value)) ps (spread l.grid x.value) n x.next _ b.2 in
    let o = origin_on l.grid in
    let tail = map (scaled l.grid) (path origin x.value) in
    let t = subst (λ (p : Point). all_within far_reach (p ∷ tail) ≡ true) (sym o) w.0 in
    let e : l.spaces + 1 ≡ suc l.spaces = omega arith in
    ap (λ k. trail l.axis l.grid file k i origin) e
    ∙ trail_whole l.axis l.grid file l.spaces i 0 x.next origin x.value b.1 t (omega (arith, z.spaces)) (record { x = omega arith; y = omega arith })
    ∙ ap (λ p. p ∷ tail) o
    ∙ w.1

-- a walk that was opened at a repetition gives its copies
pub begun_gives : (file : List ℕ) (at : ℕ) (r : Result CopyWalk TokenFault) → r ≡ begun (plan file at) → (ps : List Point) (n : ℕ) → repetition file at ≡ got ps n → LeadsTo file r ps
unfolding repetition
begun_gives file at r o ps n q = subst (λ s. LeadsTo file s ps) (sym o) (by (plan file at) refl q)
  where
    by : (m : Answer Plan) → m ≡ plan file at → then m (λ p i. offsets file at p i) ≡ got ps n → LeadsTo file (begun m) ps
    by (Ok x) e t = walk_gives file at ps n x.value x.next ((plan_made file at).on x e).2 t
    by (Err d) e t = not_fault (sym t)

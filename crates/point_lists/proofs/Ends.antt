-- A list in short is what a walk in short gives.
use Rattle.std.proofs.Common.{◌≡◌, ℕ, suc, ◌+◌, ◌≤◌, Bool, true, false, cond, List, [], ◌∷◌, ◌++◌, map, length, Ok, Err, fold, sym, refl, ap, ◌∙◌, ap₂, arith, length-append}
use Rattle.tokens.specs.declared.fault.FaultKind.TheVariants.{BadList}
use Rattle.tokens.specs.Answers.{Answer, got, fault, then}
use Rattle.tokens.specs.Readers.{Made}
use Rattle.tokens.proofs.Mades.{made_weaken}
use Rattle.bounds.specs.declared.point.Point.{Point}
use Rattle.bounds.specs.Points.{origin, path}
use Rattle.bounds.specs.Boxes.{nothing, grown}
use Rattle.point_lists.specs.declared.kind.ListKind.{ListKind}
use Rattle.point_lists.specs.declared.walk.Walk.{Walk}
use Rattle.point_lists.specs.declared.read.Head.{Head}
use Rattle.point_lists.specs.declared.read.Tour.{Tour}
use Rattle.point_lists.specs.declared.read.ListSummary.{ListSummary}
use Rattle.point_lists.specs.Kinds.{closes, implied}
use Rattle.point_lists.specs.Walks.{advanced, start, Steady}
use Rattle.point_lists.specs.Rolls.{tally}
use Rattle.point_lists.specs.Lists.{last_of, vectors, vertices, walked, closing, list_head, point_list, summary_of, summarised, noted, untoured, short_of}
use Rattle.point_lists.proofs.Rolls.{Follow, Rolled, unrolled_made}
use Rattle.point_lists.proofs.Steps.{Stepped, advanced_made, start_steady}
use Rattle.point_lists.proofs.Heads.{Begun, head_made}

abbrev ats : List Walk → List Point
ats ws = map (λ w. w.at) ws

-- the vertices of a walk are where its displacements lead
path_is : (w : Walk) (ws : List Walk) → Follow Stepped w ws → ats ws ≡ path w.at (vectors ws)
path_is w [] f = refl
path_is w (v ∷ vs) f = ap₂ (λ p ps. p ∷ ps) f.0.from (path_is v vs f.1 ∙ ap (λ p. path p (vectors vs)) f.0.from)

-- what so many steps of a walk make
pub walked_made : (k : ListKind) (n : ℕ) (file : List ℕ) (at : ℕ) → at ≤ length file → Made file at (walked k n file at) (λ ws m. Rolled Steady Stepped n (start k) ws)
walked_made k n file at inside =
    unrolled_made file (advanced file) Steady Stepped
    (λ at w s. made_weaken {least = suc at} (omega arith) (λ v m h p. (p.steady, p)) (advanced_made file at w s))
    n at (start k) inside (start_steady k)

-- a fold over two lists
folded_++ : {A B : Type 0} (f : B → A → B) (a : B) (xs ys : List A) → fold f a (xs ++ ys) ≡ fold f (fold f a xs) ys
folded_++ f a [] ys = refl
folded_++ f a (x ∷ xs) ys = folded_++ f (f a x) xs ys

-- the box and the last vertex that a walk notes
noted_bounds : (t : Tour) (ws : List Walk) → (fold noted t ws).bounds ≡ fold grown t.bounds (ats ws)
noted_bounds t [] = refl
noted_bounds t (w ∷ ws) = noted_bounds (noted t w) ws

noted_last : (t : Tour) (ws : List Walk) → (fold noted t ws).last ≡ last_of t.last (ats ws)
noted_last t [] = refl
noted_last t (w ∷ ws) = noted_last (noted t w) ws

ats_length : (ws : List Walk) → length (ats ws) ≡ length ws
ats_length [] = refl
ats_length (w ∷ ws) = ap suc (ats_length ws)

-- what holds of a walk of n steps from the first vertex
module _ (k : ListKind) (n : ℕ) (ws : List Walk) (r : Rolled Steady Stepped n (start k) ws) where
  pub path_from : ats ws ≡ path origin (vectors ws)
  path_from = path_is (start k) ws r.each

  pub last_is : (fold noted untoured ws).last ≡ last_of origin (path origin (vectors ws))
  last_is = noted_last untoured ws ∙ ap (last_of origin) path_from

  pub path-length : length (path origin (vectors ws)) ≡ n
  path-length = ap length (sym path_from) ∙ ats_length ws ∙ r.many

  short_is : (closed : Bool) → summary_of (vertices k closed (vectors ws)) ≡ short_of k closed n (fold noted untoured ws)
  short_is closed =
      let ps = path origin (vectors ws) in
      let more : List Point = implied k closed (last_of origin ps) in
      let same : implied k closed (fold noted untoured ws).last ≡ more = ap (implied k closed) last_is in
      let long = path-length in
      let box : fold grown nothing (ps ++ more) ≡ fold grown (fold noted untoured ws).bounds (implied k closed (fold noted untoured ws).last) =
      folded_++ grown nothing ps more
      ∙ ap (λ b. fold grown b more) (ap (fold grown nothing) (sym path_from) ∙ sym (noted_bounds untoured ws))
      ∙ ap (fold grown (fold noted untoured ws).bounds) (sym same) in
      let count : suc (length (ps ++ more)) ≡ n + length (implied k closed (fold noted untoured ws).last) + 1 =
      omega (arith, length-append ps more, ap length same, long) in
      λ i. record { vertices = count i; bounds = box i }

-- what follows a walk in short
abbrev pub conclude : ListKind → (closed : Bool) → (at n : ℕ) → Tour → ℕ → Answer ListSummary
conclude k closed at n t m = cond (closes k closed t.last) (got (short_of k closed n t) m) (fault BadList at)

each_way : (b : Bool) (at m : ℕ) (ps : List Point) (s : ListSummary) → summary_of ps ≡ s → summarised (cond b (got ps m) (fault BadList at)) ≡ cond b (got s m) (fault BadList at)
each_way true at m ps s e = ap (λ x. got x m) e
each_way false at m ps s e = refl

concluded : (k : ListKind) (closed : Bool) (file : List ℕ) (low at n : ℕ) (r : Answer (List Walk)) → Made file low r (λ ws m. Rolled Steady Stepped n (start k) ws) → then (tally noted untoured r) (conclude k closed at n) ≡ summarised (then r λ ws m. closing k closed at (vectors ws) m)
concluded k closed file low at n (Ok x) h =
    let r = (h.on x refl).2 in
    ap (λ p. cond (closes k closed p) (got (short_of k closed n (fold noted untoured x.value)) x.next) (fault BadList at)) (last_is k n x.value r)
    ∙ sym (each_way (closes k closed (last_of origin (path origin (vectors x.value)))) at x.next (vertices k closed (vectors x.value)) _ (short_is k n x.value r closed))
concluded k closed file low at n (Err e) h = refl

-- the whole of a list in short, step by step
pub whole : (file : List ℕ) (at : ℕ) (closed : Bool) → (then (list_head file at closed) λ h n. then (tally noted untoured (walked h.kind h.count file n)) (conclude h.kind closed at h.count)) ≡ summarised (point_list file at closed)
unfolding point_list
whole file at closed = by_head (list_head file at closed) (head_made file at closed)
  where
    by_head : (r : Answer Head) → Made file (suc at) r (λ h n. Begun closed h) → (then r λ h n. then (tally noted untoured (walked h.kind h.count file n)) (conclude h.kind closed at h.count)) ≡ summarised (then r λ h n. then (walked h.kind h.count file n) λ ws m. closing h.kind closed at (vectors ws) m)
    by_head (Ok x) m =
        concluded x.value.kind closed file x.next at x.value.count (walked x.value.kind x.value.count file x.next)
        (walked_made x.value.kind x.value.count file x.next (m.on x refl).1)
    by_head (Err e) m = refl

-- A list that reads without fault has a beginning, a walk and an end.
use Rattle.std.proofs.Common.{◌≡◌, ℕ, ◌+◌, ◌≤◌, Bool, true, false, cond, leb, List, [], ◌∷◌, ◌++◌, map, length, drop, set, Some, Ok, Err, Option, sym, refl, ap, ◌∙◌, arith, length-append}
use Rattle.std.proofs.lemmas.Bool.{cond-true, and_from, le-leb}
use Rattle.std.proofs.lemmas.List.{append-nil, length-map, map-append}
use Rattle.tokens.specs.declared.fault.Read.{Read}
use Rattle.tokens.specs.declared.fault.TokenFault.{TokenFault}
use Rattle.tokens.specs.Answers.{Answer, got, fault, then}
use Rattle.tokens.specs.declared.fault.FaultKind.TheVariants.{BadList}
use Rattle.tokens.proofs.Chaining.{same_got, not_fault}
use Rattle.bounds.specs.declared.point.Point.{Point}
use Rattle.bounds.specs.Points.{reach, origin, sum, within, path}
use Rattle.point_lists.specs.declared.kind.ListKind.{ListKind}
use Rattle.point_lists.specs.declared.walk.Walk.{Walk}
use Rattle.point_lists.specs.declared.read.Head.{Head}
use Rattle.point_lists.specs.declared.read.ListSummary.{ListSummary}
use Rattle.point_lists.specs.Kinds.{closes, implied}
use Rattle.point_lists.specs.Walks.{start, Steady}
use Rattle.point_lists.specs.Lists.{last_of, vectors, vertices, walked, closing, list_head, point_list, summarised}
use Rattle.point_lists.specs.Fills.{filled, Laid, can_lay, laid_count, laid_memory}
use Rattle.point_lists.proofs.Rolls.{Rolled}
use Rattle.point_lists.proofs.Steps.{Stepped}
use Rattle.point_lists.proofs.Heads.{head_made}
use Rattle.point_lists.proofs.Ends.{walked_made, path_from, path-length}
use Rattle.point_lists.proofs.Fills.{front, front_more, from_first, Walked}

-- the walk of a list with the beginning x
pub record Opened (file : List ℕ) (closed : Bool) (ps : List Point) (n : ℕ) (x : Read Head) : Type 0 where
  pub walk : List Walk
  pub along : Ok (record { value = walk; next = n }) ≡ walked x.value.kind x.value.count file x.next
  pub all : ps ≡ vertices x.value.kind closed (vectors walk)
  pub rolled : Rolled Steady Stepped x.value.count (start x.value.kind) walk

-- a list that closes
by_end : (k : ListKind) (closed : Bool) (at : ℕ) (ps : List Point) (n : ℕ) (ds : List Point) (m : ℕ) (b : Bool) → cond b (got (vertices k closed ds) m) (fault BadList at) ≡ got ps n → got (vertices k closed ds) m ≡ got ps n
by_end k closed at ps n ds m true q = q
by_end k closed at ps n ds m false q = not_fault (sym q)

by_walk : (file : List ℕ) (at : ℕ) (closed : Bool) (ps : List Point) (n : ℕ) (x : Read Head) → x.next ≤ length file → (r : Answer (List Walk)) → r ≡ walked x.value.kind x.value.count file x.next → (then r λ ws m. closing x.value.kind closed at (vectors ws) m) ≡ got ps n → Opened file closed ps n x
by_walk file at closed ps n x inside (Ok y) w q =
    let g = same_got (by_end x.value.kind closed at ps n (vectors y.value) y.next (closes x.value.kind closed (last_of origin (path origin (vectors y.value)))) q) in
    record {
      walk = y.value;
      along = ap (λ m. got y.value m) (sym g.1) ∙ w;
      all = sym g.0;
      rolled = ((walked_made x.value.kind x.value.count file x.next inside).on y w).2;
    }
by_walk file at closed ps n x inside (Err d) w q = not_fault (sym q)

module _ (file : List ℕ) (at : ℕ) (closed : Bool) (ps : List Point) (n : ℕ) (e : point_list file at closed ≡ got ps n) where
  after_head : (r : Answer Head) → r ≡ list_head file at closed → (then r λ h n. then (walked h.kind h.count file n) λ ws m. closing h.kind closed at (vectors ws) m) ≡ got ps n
  unfolding point_list
  after_head r h = ap (λ r. then r λ h n. then (walked h.kind h.count file n) λ ws m. closing h.kind closed at (vectors ws) m) h ∙ e

  -- it has a beginning
  pub headed : {P : Type 0} (d : TokenFault) → Err d ≡ list_head file at closed → P
  headed d h = not_fault (sym (after_head (Err d) h))

  -- and a walk from there
  pub opened : (x : Read Head) → Ok x ≡ list_head file at closed → Opened file closed ps n x
  opened x h = by_walk file at closed ps n x ((head_made file at closed).on x h).1 (walked x.value.kind x.value.count file x.next) refl (after_head (Ok x) h)

module _ (file : List ℕ) (closed : Bool) (ps : List Point) (n : ℕ) (x : Read Head) (o : Opened file closed ps n x) where
  -- its walk does not meet a fault
  pub not_stopped : {P : Type 0} (p : Point) (out : List Point) (d : TokenFault) → filled p out (walked x.value.kind x.value.count file x.next) ≡ Err d → P
  not_stopped p out d f = not_fault (ap (filled p out) o.along ∙ f)

  -- how many vertices it has
  pub opened-length : length ps ≡ x.value.count + 1 + length (implied x.value.kind closed (last_of origin (path origin (vectors o.walk))))
  opened-length =
      let ds = path origin (vectors o.walk) in
      omega (arith, ap length o.all, length-append ds (implied x.value.kind closed (last_of origin ds)), path-length x.value.kind x.value.count o.walk o.rolled)

  module _ (p : Point) (out after : List Point) (last : Point) (w : Walked p out o.walk after last) where
    -- the last vertex of the walk
    pub opened_last : last ≡ last_of origin (path origin (vectors o.walk))
    opened_last = w.end ∙ ap (last_of origin) (path_from x.value.kind x.value.count o.walk o.rolled)

    -- the vertices that are given, at their places
    given : after ≡ front out (map (sum p) (origin ∷ path origin (vectors o.walk)))
    given =
        w.memory
        ∙ ap (front out) (from_first p o.walk ∙ ap (λ l. map (sum p) (origin ∷ l)) (path_from x.value.kind x.value.count o.walk o.rolled))

    -- points over the front of memory, and the rest
    fronted : (qs : List Point) → front out (map (sum p) qs) ≡ map (sum p) qs ++ drop (length qs) out
    fronted qs = ap (λ k. map (sum p) qs ++ drop k out) (length-map qs (sum p))

    -- no vertex is implied
    pub laid_given : implied x.value.kind closed last ≡ [] → Laid p ps (Some (x.value.count + 1)) out after
    laid_given none =
        let ds = path origin (vectors o.walk) in
        let imp : implied x.value.kind closed (last_of origin ds) ≡ [] = ap (implied x.value.kind closed) (sym opened_last) ∙ none in
        let all : ps ≡ origin ∷ ds = o.all ∙ ap (λ l. origin ∷ (ds ++ l)) imp ∙ ap (λ l. origin ∷ l) (append-nil ds) in
        record {
          count = ap Some (sym (opened-length ∙ omega (arith, ap length imp)));
          memory = given ∙ ap (λ l. front out (map (sum p) l)) (sym all) ∙ fronted ps;
        }

    -- one is
    pub laid-implied : (v : Point) → length ps ≤ length out → implied x.value.kind closed last ≡ v ∷ [] → Laid p ps (Some (x.value.count + 2)) out (set after (x.value.count + 1) (sum p v))
    laid-implied v fits one =
        let ds = path origin (vectors o.walk) in
        let imp : implied x.value.kind closed (last_of origin ds) ≡ v ∷ [] = ap (implied x.value.kind closed) (sym opened_last) ∙ one in
        let all : ps ≡ (origin ∷ ds) ++ v ∷ [] = o.all ∙ ap (λ l. origin ∷ (ds ++ l)) imp in
        let long : x.value.count + 1 ≡ length (map (sum p) (origin ∷ ds)) = omega (arith, length-map (origin ∷ ds) (sum p), path-length x.value.kind x.value.count o.walk o.rolled) in
        let count : length ps ≡ x.value.count + 2 = opened-length ∙ omega (arith, ap length imp) in
        record {
          count = ap Some (sym count);
          memory = ap (λ l. set l (x.value.count + 1) (sum p v)) given
              ∙ ap (λ i. set (front out (map (sum p) (origin ∷ ds))) i (sum p v)) long
              ∙ front_more out (map (sum p) (origin ∷ ds)) (sum p v) (omega (arith, long, count, fits))
              ∙ ap (front out) (sym (map-append (sum p) (origin ∷ ds) (v ∷ [])) ∙ ap (map (sum p)) (sym all))
              ∙ fronted ps;
        }

-- a list that reads in short without fault, and whose vertices were laid
pub all_laid : (p : Point) (out : List Point) (r : Answer (List Point)) (x : Read ListSummary) (c : Option ℕ) (after : List Point) → Ok x ≡ summarised r → x.value.vertices ≤ length out → within reach p ≡ true → ((ps : List Point) (n : ℕ) → r ≡ got ps n → length ps ≤ length out → Laid p ps c out after) → (c ≡ laid_count p out r) × (after ≡ laid_memory p out r)
all_laid p out (Ok y) x c after e h w f =
    let many : x.value.vertices ≡ length y.value = ap (λ (s : ListSummary). s.vertices) (same_got e).0 in
    let fits : length y.value ≤ length out = omega arith in
    let can : can_lay p out y.value ≡ true = and_from (leb (length y.value) (length out)) (within reach p) (le-leb _ _ fits) w in
    let laid = f y.value y.next refl fits in
    (laid.count ∙ sym (cond-true (can_lay p out y.value) _ _ can), laid.memory ∙ sym (cond-true (can_lay p out y.value) _ _ can))
all_laid p out (Err d) x c after e h w f = not_fault e

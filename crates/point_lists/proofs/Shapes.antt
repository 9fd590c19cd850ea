-- What holds of the vertices of a list.
use Rattle.std.proofs.Common.{◌≡◌, ℕ, suc, ◌≤◌, Bool, true, false, List, [], ◌∷◌, ◌++◌, map, length, refl, subst, arith, length-append}
use Rattle.std.specs.List.{AllByRecursion as Every}
use Rattle.std.proofs.ByRecursion.{All-append}
use Rattle.tokens.specs.Chains.{largest}
use Rattle.tokens.specs.Readers.{Made}
use Rattle.tokens.proofs.Mades.{made_then, made_cond, made_got, made_fault}
use Rattle.bounds.specs.declared.point.Point.{Point}
use Rattle.bounds.specs.Points.{far_reach, origin, Near, path}
use Rattle.point_lists.specs.declared.kind.ListKind.{ListKind}
use Rattle.point_lists.specs.declared.kind.ListKind.TheVariants.{AcrossFirst, UpFirst, Manhattan, Octangular, General, Changing}
use Rattle.point_lists.specs.declared.walk.Walk.{Walk}
use Rattle.point_lists.specs.Kinds.{good_count, closes, implied}
use Rattle.point_lists.specs.Walks.{start, Steady}
use Rattle.point_lists.specs.Lists.{last_of, vectors, vertices, point_list, summary_of, summarised}
use Rattle.point_lists.specs.Laws.{Shaped, ListMade}
use Rattle.point_lists.proofs.Rolls.{Rolled}
use Rattle.point_lists.proofs.Steps.{Stepped}
use Rattle.point_lists.proofs.Heads.{head_made, good_many}
use Rattle.point_lists.proofs.Ends.{walked_made, path_from, path-length}

-- the origin is near
origin_near : Near far_reach origin
origin_near = record { x = omega arith; y = omega arith }

-- the vertices of a steady walk are near
ats_near : (ws : List Walk) → Every Steady ws → Every (Near far_reach) (map (λ w. w.at) ws)
ats_near [] a = tt
ats_near (w ∷ ws) a = (a.0.at, ats_near ws a.1)

-- so is the last of near points
last_near : (p : Point) (ps : List Point) → Near far_reach p → Every (Near far_reach) ps → Near far_reach (last_of p ps)
last_near p [] h a = h
last_near p (q ∷ qs) h a = last_near q qs a.0 a.1

-- and the vertex that is implied by a near one
implied_near : (k : ListKind) (closed : Bool) (p : Point) → Near far_reach p → Every (Near far_reach) (implied k closed p)
implied_near k false p h = tt
implied_near AcrossFirst true p h = (record { x = omega arith; y = h.y }, tt)
implied_near UpFirst true p h = (record { x = h.x; y = omega arith }, tt)
implied_near Manhattan true p h = tt
implied_near Octangular true p h = tt
implied_near General true p h = tt
implied_near Changing true p h = tt

-- at most one vertex is implied
implied_few : (k : ListKind) (closed : Bool) (p : Point) → length (implied k closed p) ≤ 1
implied_few k false p = omega arith
implied_few AcrossFirst true p = omega arith
implied_few UpFirst true p = omega arith
implied_few Manhattan true p = omega arith
implied_few Octangular true p = omega arith
implied_few General true p = omega arith
implied_few Changing true p = omega arith

many : (k : ListKind) (closed : Bool) (n : ℕ) → good_count k closed n ≡ true → closed ≡ true → 2 ≤ n
many k closed n e c = good_many k n (subst (λ b. good_count k b n ≡ true) c e)

shaped : (k : ListKind) (closed : Bool) (n : ℕ) (ws : List Walk) → n ≤ largest → good_count k closed n ≡ true → Rolled Steady Stepped n (start k) ws → Shaped closed (vertices k closed (vectors ws))
shaped k closed n ws few good r =
    let ps = path origin (vectors ws) in
    let near : Every (Near far_reach) ps = subst (Every (Near far_reach)) (path_from k n ws r) (ats_near ws r.kept) in
    let more = implied k closed (last_of origin ps) in
    let long = path-length k n ws r in
    record {
      rooted = record { others = ps ++ more; begins = refl };
      near = (origin_near, All-append (Near far_reach) ps more near (implied_near k closed (last_of origin ps) (last_near origin ps origin_near near)));
      few = omega (arith, length-append ps more, implied_few k closed (last_of origin ps), long);
      enough = λ c. omega (arith, length-append ps more, long, many k closed n good c);
    }

pub list_made : ListMade
unfolding point_list
list_made file at closed =
    made_then _ (head_made file at closed)
    (λ h n l i b. made_then _ (walked_made h.kind h.count file n i)
    (λ ws m q j r. made_cond (closes h.kind closed (last_of origin (path origin (vectors ws))))
    (λ e. made_got (vertices h.kind closed (vectors ws)) m (omega arith) j (shaped h.kind closed h.count ws b.few b.good r))
    (λ e. made_fault _)))

-- a list in short goes as far
pub summarised_made : (file : List ℕ) (at : ℕ) (closed : Bool) → Made file (suc at) (summarised (point_list file at closed)) (λ s n. Unit {0})
summarised_made file at closed = made_then _ (list_made file at closed) (λ ps n l h s. made_got (summary_of ps) n (omega arith) h tt)

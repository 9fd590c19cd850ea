-- What is known in short of repetitions and lists is the box around their points, which begin at the origin.
use Rattle.std.proofs.Common.{◌≡◌, ℕ, suc, Bool, eqb, List, [], ◌∷◌, Ok, Err, Option, refl, ap, subst}
use Rattle.tokens.specs.declared.fault.Read.{Read}
use Rattle.tokens.specs.Answers.{Answer, got, then}
use Rattle.tokens.specs.Chains.{unsigned}
use Rattle.tokens.specs.Readers.{Made}
use Rattle.tokens.proofs.Chaining.{same_got, not_fault}
use Rattle.bounds.specs.declared.point.Point.{Point}
use Rattle.bounds.specs.Points.{origin, Rooted}
use Rattle.bounds.specs.Boxes.{nothing, bounds_of}
use Rattle.point_lists.specs.Lists.{point_list, summarised as list_in_short}
use Rattle.point_lists.specs.Laws.{Shaped}
use Rattle.point_lists.proofs.Shapes.{list_made}
use Rattle.repetitions.specs.declared.summary.Summary.{Summary}
use Rattle.repetitions.specs.Laws.{Copied}
use Rattle.repetitions.specs.Repetitions.{repetition, summarised as copies_in_short}
use Rattle.repetitions.proofs.Mades.{repetition_made}
use Rattle.fields.proofs.Gives.{Gives, gives_got, gives_fault, gives_then, gives_cond}
use Rattle.fields.specs.declared.vertices.Outline.{Outline}
use Rattle.fields.specs.Numbers.{inherited}
use Rattle.fields.specs.Shapes.{points_or, offsets_of, vertices_of, Boxed, spread_by, spread_at, copies, outline_at, outline}

-- the origin alone
pub one_boxed : Boxed (origin ∷ []) nothing
one_boxed = record { rooted = record { others = []; begins = refl }; around = refl }

-- a repetition in short has the box of its copies
spread-boxed : (file : List ℕ) (place : ℕ) (x : Read Summary) → Ok x ≡ copies_in_short (repetition file place) → Boxed (points_or (repetition file place)) x.value.bounds
spread-boxed file place x e = by (repetition file place) (repetition_made file place) e
  where
    by : (r : Answer (List Point)) → Made file (suc place) r (λ ps n. Copied ps) → Ok x ≡ copies_in_short r → Boxed (points_or r) x.value.bounds
    by (Ok y) m g =
        record { rooted = (m.on y refl).2.begins; around = ap (λ (s : Summary). s.bounds) (same_got g).0 }
    by (Err d) m g = not_fault g

-- so have the copies by a repetition
pub spread_at-boxed : (file : List ℕ) (at : ℕ) → Gives (spread_at file at) (λ s. Boxed (offsets_of file s.repetition) s.bounds)
spread_at-boxed file at = gives_then (copies_in_short (repetition file at)) _ (λ s e. gives_got _ _ (spread-boxed file at s e))

-- and the copies of a record
pub copies-boxed : (file : List ℕ) (at first : ℕ) (present : Bool) (v : Option ℕ) → Gives (copies file at first present v) (λ s. Boxed (offsets_of file s.repetition) s.bounds)
copies-boxed file at first present v =
    gives_cond present
    (λ _. gives_then (unsigned file at) _ (λ kind _.
    gives_cond (eqb kind.value 0)
    (λ _. gives_then (inherited kind.next first v) _ (λ old _. by old.value old.next))
    (λ _. gives_then (copies_in_short (repetition file at)) _ (λ s e. gives_got _ _ (spread-boxed file at s e)))))
    (λ _. gives_got _ _ one_boxed)
  where
    by : (old n : ℕ) → Gives (then (copies_in_short (repetition file old)) (λ s _. got (spread_by old s) n)) (λ s. Boxed (offsets_of file s.repetition) s.bounds)
    by old n = gives_then (copies_in_short (repetition file old)) _ (λ s e. gives_got _ _ (spread-boxed file old s e))

-- a list in short has the box of its vertices
pub outline_at-boxed : (file : List ℕ) (at : ℕ) (closed : Bool) → Gives (outline_at file at closed) (λ o. Boxed (vertices_of file o) o.bounds)
outline_at-boxed file at closed = by (point_list file at closed) refl (list_made file at closed)
  where
    by : (r : Answer (List Point)) → r ≡ point_list file at closed → Made file (suc at) r (λ ps n. Shaped closed ps) → Gives (then (list_in_short r) (λ s n. got (record { place = at; closed = closed; vertices = s.vertices; bounds = s.bounds }) n)) (λ (o : Outline). Boxed (vertices_of file o) o.bounds)
    by (Ok y) e m =
        let p : y.value ≡ points_or (point_list file at closed) = ap points_or e in
        gives_got _ _ (record { rooted = subst Rooted p (m.on y refl).2.rooted; around = ap bounds_of p })
    by (Err d) e m = gives_fault d

-- so has the list of a record
pub outline-boxed : (file : List ℕ) (at first : ℕ) (closed present : Bool) (v : Option ℕ) → Gives (outline file at first closed present v) (λ o. Boxed (vertices_of file o) o.bounds)
outline-boxed file at first closed present v =
    gives_cond present (λ _. outline_at-boxed file at closed)
    (λ _. gives_then (inherited at first v) _ (λ old _. gives_then (outline_at file old.value closed) _ (λ o e. gives_got _ _ ((outline_at-boxed file old.value closed).on o e))))

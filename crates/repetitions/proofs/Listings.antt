-- Copies by a list of spaces, in short.
use Rattle.std.proofs.Common.{◌≡◌, ℕ, ◌+◌, List, Some, Ok, Err, sym, refl, ap, ◌∙◌}
use Rattle.tokens.specs.declared.fault.Read.{Read}
use Rattle.tokens.specs.Answers.{Answer, got, then}
use Rattle.tokens.proofs.Chaining.{same_got, not_fault}
use Rattle.bounds.specs.declared.point.Point.{Point}
use Rattle.bounds.specs.Points.{origin}
use Rattle.bounds.specs.Boxes.{nothing}
use Rattle.repetitions.specs.declared.plan.Listing.{Listing}
use Rattle.repetitions.specs.declared.summary.Summary.{Summary}
use Rattle.repetitions.specs.Spaces.{space_at}
use Rattle.repetitions.specs.Offsets.{spread}
use Rattle.repetitions.specs.Repetitions.{reaching, reached_by, boxed, spaces_at, listed, in_short, summarised}
use Rattle.repetitions.proofs.Series.{then_same, series-length}
use Rattle.repetitions.proofs.Reaches.{summed, spread-in_short}

-- to sum up what follows a reader is to sum up the whole
pub summarised-then : {A : Type 0} (m : Answer A) (f : A → ℕ → Answer (List Point)) → then m (λ v n. summarised (f v n)) ≡ summarised (then m f)
summarised-then (Ok x) f = refl
summarised-then (Err e) f = refl

-- what is answered of the box of a list of spaces is the list in short
pub listed-in_short : (file : List ℕ) (first : ℕ) (l : Listing) (n : ℕ) → then (boxed l.grid origin (Some nothing) (spaces_at l file n)) (summed first (l.spaces + 1)) ≡ summarised (listed file first l n)
listed-in_short file first l n =
    flat (spaces_at l file n)
    ∙ then_same (spaces_at l file n) _ _ (λ ds i e.
    let k = series-length (space_at l.axis) file l.spaces n ds i e in
    ap (λ c. summed first (c + 1) (reached_by l.grid origin (Some nothing) ds) i) (sym k) ∙ spread-in_short first l.grid i ds)
    ∙ summarised-then (spaces_at l file n) (λ ds i. reaching first (spread l.grid ds) i)
  where
    flat : (m : Answer (List Point)) → then (boxed l.grid origin (Some nothing) m) (summed first (l.spaces + 1)) ≡ then m (λ ds i. summed first (l.spaces + 1) (reached_by l.grid origin (Some nothing) ds) i)
    flat (Ok x) = refl
    flat (Err e) = refl

-- what was summed up is a list of offsets in short
pub summarised_parts : (r : Answer (List Point)) (x : Read Summary) → Ok x ≡ summarised r → (ps : List Point) × (got ps x.next ≡ r) × (x.value ≡ in_short ps)
summarised_parts (Ok y) x e = let p = same_got {v = x.value} {m = x.next} e in (y.value, ap (λ n. got y.value n) p.1, p.0)
summarised_parts (Err d) x e = not_fault e

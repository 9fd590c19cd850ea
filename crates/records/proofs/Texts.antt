-- The pieces that are written make up the fields of a line.
use Rattle.std.proofs.Common.{◌≡◌, ℕ, List, [], ◌∷◌, ◌++◌, codes, decimal, sym, refl, ap, ◌∙◌, append_assoc, append-nil}
use Rattle.steps.specs.declared.state.RecordAt.{RecordAt}
use Rattle.records.specs.Lines.{spaced, numbers_of, name_of, name_fields, line_of}

-- nine fields, of which the last is a number
pub nine_fields : (a b c d f g h i : List ℕ) (n m : ℕ) → n ≡ m → (codes " " ++ (a ++ (codes " " ++ (b ++ (codes " " ++ (c ++ (codes " " ++ (d ++ (codes " " ++ (f ++ (codes " " ++ g))))))))))) ++ (codes " " ++ (h ++ (codes " " ++ (i ++ (codes " " ++ decimal n))))) ≡ spaced (a ∷ b ∷ c ∷ d ∷ f ∷ g ∷ h ∷ i ∷ decimal m ∷ [])
nine_fields a b c d f g h i n m e = (simp (append_assoc, append-nil)) ∙ ap (λ k. spaced (a ∷ b ∷ c ∷ d ∷ f ∷ g ∷ h ∷ i ∷ decimal k ∷ [])) e

-- the fields of two lists
spaced_both : (xs ys : List (List ℕ)) → spaced (xs ++ ys) ≡ spaced xs ++ spaced ys
spaced_both [] ys = refl
spaced_both (x ∷ xs) ys = ap (λ t. 32 ∷ (x ++ t)) (spaced_both xs ys) ∙ sym (ap (λ t. 32 ∷ t) (append_assoc x (spaced xs) (spaced ys)))

-- the pieces of a record's line: its place, its ID and its numbers, and then its name
pub line_made : (file : List ℕ) (r : RecordAt) (was : List ℕ) → ((was ++ (decimal r.place ++ (codes " " ++ (decimal r.id ++ spaced (numbers_of r.content))))) ++ spaced (name_fields file (name_of r.content))) ++ codes "\n" ≡ was ++ line_of file r
line_made file r was =
    let names = name_fields file (name_of r.content) in
    let joined : ((was ++ (decimal r.place ++ (codes " " ++ (decimal r.id ++ spaced (numbers_of r.content))))) ++ spaced names) ++ codes "\n" ≡ was ++ (decimal r.place ++ ((32 ∷ (decimal r.id ++ (spaced (numbers_of r.content) ++ spaced names))) ++ codes "\n")) = simp append_assoc in
    joined ∙ ap (λ t. was ++ (decimal r.place ++ ((32 ∷ (decimal r.id ++ t)) ++ codes "\n"))) (sym (spaced_both (numbers_of r.content) names))

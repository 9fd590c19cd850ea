-- The texts and the vertices that a record names are those that were written.
use Rattle.std.proofs.Common.{◌≡◌, ℕ, ◌+◌, ◌-◌, ◌*◌, Bool, true, false, List, [], ◌∷◌, ◌++◌, length, take, drop, sym, refl, ap, ◌∙◌, arith}
use Rattle.std.proofs.lemmas.List.{append_assoc, take_at}
use Rattle.tokens.specs.Encodings.{shortest, text_bytes}
use Rattle.tokens.specs.Parts.{bytes_in, text_part}
use Rattle.tokens.proofs.Backs.{after}
use Rattle.bounds.specs.declared.point.Point.{Point}
use Rattle.bounds.specs.Points.{origin, places}
use Rattle.point_lists.specs.Laws.{list_bytes}
use Rattle.point_lists.proofs.Backs.{list_back}
use Rattle.fields.specs.Shapes.{points_or}
use Rattle.explicit.specs.Bytes.{layers_bytes, stroke_bytes, place_bytes}
use Rattle.explicit.specs.Contents.{shown_vertices}
use Rattle.explicit.specs.Laws.{TextsShown, VerticesShown}
use Rattle.explicit.specs.Legal.{FitsVertices}
use Rattle.explicit.proofs.Fields.{from_first}

-- what follows the first of two parts that stand in a file
past : (file : List ℕ) (at : ℕ) (a b rest : List ℕ) → drop at file ≡ (a ++ b) ++ rest → drop (at + length a) file ≡ b ++ rest
past file at a b rest s = after file at a (b ++ rest) (s ∙ append_assoc a b rest)

-- the text of a string that stands in a file
text-shown : (file : List ℕ) (at : ℕ) (t rest : List ℕ) → drop at file ≡ text_bytes t ++ rest → bytes_in file (text_part at t) ≡ t
text-shown file at t rest s =
    let n : ℕ = at + length (shortest (length t)) in
    let d : n + length t - n ≡ length t = omega arith in
    ap (λ k. take k (drop n file)) d ∙ ap (take (length t)) (past file at (shortest (length t)) t rest s) ∙ take_at t rest (length t) refl

-- of each record with a string
pub texts_shown : TextsShown
texts_shown file rest at t = (
  (λ s. text-shown file (at + 1) t ((0x0f ∷ []) ++ rest)
      (past file at (0x0e ∷ []) (text_bytes t ++ (0x0f ∷ [])) rest s ∙ append_assoc (text_bytes t) (0x0f ∷ []) rest)),
  (λ a f q s.
      let fs : List ℕ = text_bytes t ++ place_bytes q in
      let i : ℕ = 0xb0 + 2 * a + f in
      text-shown file (at + 1 + 1) t (place_bytes q ++ rest)
      (past file (at + 1) (i ∷ []) fs rest (past file at (0x11 ∷ []) (i ∷ fs) rest s) ∙ append_assoc (text_bytes t) (place_bytes q) rest)),
  (λ l q s.
      let bs : List ℕ = layers_bytes l ++ place_bytes q in
      let fs : List ℕ = text_bytes t ++ bs in
      text-shown file (at + 1 + 1) t (bs ++ rest)
      (past file (at + 1) (0x5b ∷ []) fs rest (past file at (0x13 ∷ []) (0x5b ∷ fs) rest s) ∙ append_assoc (text_bytes t) bs rest)),
)

-- the vertices of a list that stands in a file
vertices-shown_at : (file : List ℕ) (at : ℕ) (closed : Bool) (p : Point) (qs : List Point) (rest : List ℕ) → FitsVertices closed p qs → drop at file ≡ list_bytes p qs ++ rest → shown_vertices file at closed p ≡ p ∷ qs
vertices-shown_at file at closed p qs rest h s =
    let r = (list_back file at closed p qs h.first h.others h.few h.enough).again rest s in
    ap (λ x. places p (origin ∷ []) (points_or x)) (sym r) ∙ from_first p (p ∷ qs)

-- of each record with a list
pub vertices-shown : VerticesShown
vertices-shown file rest at l q qs = (
  (λ h s.
      let bs : List ℕ = list_bytes q qs ++ place_bytes q in
      let fs : List ℕ = layers_bytes l ++ bs in
      let n : ℕ = at + 1 + 1 in
      vertices-shown_at file (n + length (layers_bytes l)) true q qs (place_bytes q ++ rest) h
      (past file n (layers_bytes l) bs rest (past file (at + 1) (0x3b ∷ []) fs rest (past file at (0x15 ∷ []) (0x3b ∷ fs) rest s))
      ∙ append_assoc (list_bytes q qs) (place_bytes q) rest)),
  (λ k h s.
      let bs : List ℕ = list_bytes q qs ++ place_bytes q in
      let ks : List ℕ = stroke_bytes k ++ bs in
      let fs : List ℕ = layers_bytes l ++ ks in
      let n : ℕ = at + 1 + 1 in
      vertices-shown_at file (n + length (layers_bytes l) + length (stroke_bytes k)) false q qs (place_bytes q ++ rest) h
      (past file (n + length (layers_bytes l)) (stroke_bytes k) bs rest
      (past file n (layers_bytes l) ks rest (past file (at + 1) (0xfb ∷ []) fs rest (past file at (0x16 ∷ []) (0xfb ∷ fs) rest s)))
      ∙ append_assoc (list_bytes q qs) (place_bytes q) rest)),
)

-- Fields that are given are read again.
use Rattle.std.proofs.Common.{◌≡◌, ℕ, suc, ◌+◌, ◌≤◌, Bool, true, false, cond, leb, List, [], ◌∷◌, ◌++◌, map, length, ℤ, pos, ◌+ℤ◌, ◌-ℤ◌, nat_abs, None, Option, sym, refl, ap, ◌∙◌, subst, ap₂, arith}
use lib.ListN.{length-map}
use Rattle.std.specs.List.{AllByRecursion as Every}
use Rattle.std.proofs.lemmas.List.{append_assoc}
use Rattle.std.proofs.lemmas.Int.{ints}
use Rattle.std.proofs.lemmas.Bool.{cond-true, cond-false, le-leb}
use Rattle.tokens.specs.declared.text.StringRule.{StringRule}
use Rattle.tokens.specs.Answers.{got, then}
use Rattle.tokens.specs.Encodings.{shortest, signed_bytes, FitsSigned, text_bytes, FitsText}
use Rattle.tokens.specs.Readers.{Back}
use Rattle.tokens.proofs.Backs.{back_then, back_last, back_is}
use Rattle.tokens.proofs.Encodings.{small_back, unsigned_back, signed_back, code_size}
use Rattle.tokens.proofs.Parts.{part_back}
use Rattle.bounds.specs.declared.point.Point.{Point}
use Rattle.bounds.specs.Boxes.{bounds_of}
use Rattle.bounds.specs.Points.{reach, origin, sum, Near, all_within, places}
use Rattle.bounds.proofs.Fitting.{all_within_lem}
use Rattle.point_lists.specs.Laws.{gap, list_bytes}
use Rattle.point_lists.proofs.Backs.{list_back}
use Rattle.fields.specs.declared.anchor.AnchorVariables.{AnchorVariables}
use Rattle.fields.specs.declared.anchor.Anchor.{Anchor}
use Rattle.fields.specs.declared.anchor.Present.{Present}
use Rattle.fields.specs.declared.number.Layers.{Layers}
use Rattle.fields.specs.declared.number.Sides.{Sides}
use Rattle.fields.specs.declared.stroke.Stroke.{Stroke}
use Rattle.fields.specs.declared.variables.LayerVariables.{LayerVariables}
use Rattle.fields.specs.declared.variables.PathVariables.{PathVariables}
use Rattle.fields.specs.declared.variables.SideVariables.{SideVariables}
use Rattle.fields.specs.declared.vertices.Outline.{Outline}
use Rattle.fields.specs.Anchors.{coordinate, anchor}
use Rattle.fields.specs.Numbers.{measure, layers, sides}
use Rattle.fields.specs.References.{string_at}
use Rattle.fields.specs.Shapes.{vertices_of, points_or, outline}
use Rattle.fields.specs.Strokes.{extension, stroke}
use Rattle.explicit.specs.Bytes.{layers_bytes, sides_bytes, stroke_bytes, place_bytes}
use Rattle.explicit.specs.Contents.{text_given}
use Rattle.explicit.specs.Legal.{FitsLayers, FitsSides, FitsStroke, FitsVertices}

-- a layer and a datatype, where the info byte announces both
pub layers_back : (file : List ℕ) (at first : ℕ) (v : LayerVariables) (l : Layers) → FitsLayers l → Back file at (layers_bytes l) (layers file at first 0x03 v) l
layers_back file at first v l h =
    back_then _ (unsigned_back file at l.layer h.layer) (back_last _ (unsigned_back file _ l.datatype h.datatype) refl)

-- a size in reach
measure_back : (file : List ℕ) (at first : ℕ) (v : Option ℕ) (w : ℕ) → w ≤ reach → Back file at (shortest w) (measure file at first true v) w
measure_back file at first v w h = back_last _ (unsigned_back file at w (omega arith)) (cond-true (leb w reach) _ _ (le-leb w reach h))

-- a width and a height
pub sides_back : (file : List ℕ) (at first : ℕ) (v : SideVariables) (s : Sides) → FitsSides s → Back file at (sides_bytes s) (sides file at first 0x7b v) s
sides_back file at first v s h =
    back_then _ (measure_back file at first v.width s.width h.width) (back_last _ (measure_back file _ first v.height s.height h.height) refl)

-- an integer in reach is one that a file can hold
fits_signed : (z : ℤ) → nat_abs z ≤ reach → FitsSigned z
fits_signed z h = omega (arith, code_size z)

-- an extension that is given
extension_back : (file : List ℕ) (at first : ℕ) (half : ℤ) (v : Option ℤ) (z : ℤ) → nat_abs z ≤ reach → Back file at (signed_bytes z) (extension file at first 3 half v) z
extension_back file at first half v z h =
    back_last _ (signed_back file at z (fits_signed z h)) (cond-true (leb (nat_abs z) reach) _ _ (le-leb (nat_abs z) reach h))

-- a half-width and both extensions
pub stroke_back : (file : List ℕ) (at first : ℕ) (v : PathVariables) (s : Stroke) → FitsStroke s → Back file at (stroke_bytes s) (stroke file at first 0xfb v) s
stroke_back file at first v s h =
    back_then _ (measure_back file at first v.half s.half h.half)
    (back_last _
    (back_then _ (small_back file _ 15 (omega arith))
    (back_then _ (extension_back file _ first (pos s.half) v.start s.start h.start)
    (back_last _ (extension_back file _ first (pos s.half) v.end s.end h.end) refl)))
    refl)

-- a string, by the part of the file where its text stands
pub string_back : (rule : StringRule) (file : List ℕ) (at : ℕ) (t : List ℕ) → FitsText rule t → Back file at (text_bytes t) (string_at rule file at) (text_given at t)
string_back rule file at t h = back_last _ (part_back rule file at t h) refl

-- a coordinate that is given in absolute mode
coordinate_back : (file : List ℕ) (at : ℕ) (relative : Bool) (v z : ℤ) → relative ≡ false → nat_abs z ≤ reach → Back file at (signed_bytes z) (coordinate file at true relative v) z
coordinate_back file at relative v z e h =
    let counted : cond relative v (pos 0) +ℤ z ≡ z = ap (λ b. b +ℤ z) (cond-false relative v (pos 0) e) ∙ from_zero z in
    back_last _ (signed_back file at z (fits_signed z h)) (ap (λ y. got y (at + length (signed_bytes z))) counted)
  where
    from_zero : (z : ℤ) → pos 0 +ℤ z ≡ z
    from_zero z = omega (arith, ints)

-- both coordinates are given, and no repetition
abbrev pub place_given : Present
place_given = record { x = true; y = true; repetition = false }

-- an element at this place without a repetition
abbrev pub anchored_at : AnchorVariables → Point → Anchor
anchored_at v p = record { at = p; repetition = None; stored = v.repetition }

-- a place at which all vertices are in reach
pub anchor_back : (file : List ℕ) (at first : ℕ) (v : AnchorVariables) (p : Point) (vs : List Point) → v.relative ≡ false → Near reach p → Every (Near reach) (places p (origin ∷ []) vs) → Back file at (place_bytes p) (anchor file at first place_given v vs) (anchored_at v p)
anchor_back file at first v p vs e h all =
    back_last _
    (back_then _ (coordinate_back file at v.relative v.at.x p.x e h.x)
    (back_last _ (coordinate_back file _ v.relative v.at.y p.y e h.y) refl))
    (cond-true (all_within reach (places p (origin ∷ []) vs)) _ _ ((all_within_lem reach (places p (origin ∷ []) vs)).1 all))

-- an offset from p, counted from p
from_there : (a b : ℤ) → a +ℤ pos 0 +ℤ (b -ℤ a) ≡ b
from_there a b = omega (arith, ints)

-- the vertices of one copy, by their offsets from the first
pub from_first : (p : Point) (vs : List Point) → places p (origin ∷ []) (map (gap p) vs) ≡ vs
from_first p [] = refl
from_first p (q ∷ qs) = ap₂ (λ a l. a ∷ l) (λ i. record { x = from_there p.x q.x i; y = from_there p.y q.y i }) (from_first p qs)

-- the place of an element of one vertex
alone : (a : ℤ) → a +ℤ pos 0 +ℤ pos 0 ≡ a
alone a = omega (arith, ints)

-- a place in reach of an element of one vertex
pub point_back : (file : List ℕ) (at first : ℕ) (v : AnchorVariables) (p : Point) → v.relative ≡ false → Near reach p → Back file at (place_bytes p) (anchor file at first place_given v (origin ∷ [])) (anchored_at v p)
point_back file at first v p e h =
    let here : p ≡ sum (sum p origin) origin = λ i. record { x = sym (alone p.x) i; y = sym (alone p.y) i } in
    anchor_back file at first v p (origin ∷ []) e h (subst (Near reach) here h, tt)

-- the outline of the vertices p and qs, whose list stands at the place `at`
abbrev pub outlined : ℕ → (closed : Bool) → Point → List Point → Outline
outlined at closed p qs = record { place = at; closed = closed; vertices = suc (length qs); bounds = bounds_of (map (gap p) (p ∷ qs)) }

-- a list of vertices
pub outline_back : (file : List ℕ) (at first : ℕ) (closed : Bool) (v : Option ℕ) (p : Point) (qs : List Point) → FitsVertices closed p qs → Back file at (list_bytes p qs) (outline file at first closed true v) (outlined at closed p qs)
outline_back file at first closed v p qs h =
    let n : length (map (gap p) (p ∷ qs)) ≡ suc (length qs) = ap suc (length-map qs (gap p)) in
    back_last _ (back_last _ (list_back file at closed p qs h.first h.others h.few h.enough) refl)
    (ap (λ k. got (record { place = at; closed = closed; vertices = k; bounds = bounds_of (map (gap p) (p ∷ qs)) }) (at + length (list_bytes p qs))) n)

-- a list of vertices, and the place of the first, at which all of them are in reach
pub figure_back : {B : Type 0} (file : List ℕ) (at first : ℕ) (closed : Bool) (v : Option ℕ) (w : AnchorVariables) (p : Point) (qs : List Point) (k : Outline → Anchor → B) → FitsVertices closed p qs → w.relative ≡ false → Back file at (list_bytes p qs ++ place_bytes p) (then (outline file at first closed true v) λ o n. then (anchor file n first place_given w (vertices_of file o)) λ a m. got (k o a) m) (k (outlined at closed p qs) (anchored_at w p))
figure_back file at first closed v w p qs k h e =
    record {
      again = λ rest s.
          let vs : List Point = map (gap p) (p ∷ qs) in
          let n : ℕ = at + length (list_bytes p qs) in
          let o : Outline = outlined at closed p qs in
          let r = (list_back file at closed p qs h.first h.others h.few h.enough).again (place_bytes p ++ rest) (s ∙ append_assoc (list_bytes p qs) (place_bytes p) rest) in
          let same : vs ≡ vertices_of file o = ap points_or r in
          let near : Every (Near reach) (places p (origin ∷ []) vs) = subst (Every (Near reach)) (sym (from_first p (p ∷ qs))) (h.first, h.others) in
          (back_then _ (outline_back file at first closed v p qs h)
          (back_last _ (back_is (ap (anchor file n first place_given w) same) (anchor_back file n first w p vs e h.first near)) refl)
          ).again rest s;
    }

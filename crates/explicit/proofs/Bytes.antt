-- Explicit bytes are below 256.
use Rattle.std.proofs.Common.{◌≡◌, ℕ, zero, suc, ◌+◌, ◌*◌, ◌<◌, ◌≤◌, Bool, true, false, ◌&&◌, leb, List, [], ◌∷◌, ◌++◌, length, replicate, ℤ, nat_abs, arith}
use Rattle.std.specs.List.{AllByRecursion as Every}
use Rattle.std.proofs.ByRecursion.{All-append}
use Rattle.std.proofs.lemmas.Int.{ints}
use Rattle.std.proofs.lemmas.Bool.{and_parts, leb-true}
use Rattle.tokens.specs.declared.text.StringRule.TheVariants.{Name, Ascii}
use Rattle.tokens.specs.Chains.{largest}
use Rattle.tokens.specs.Encodings.{byte_values, shortest, code_of, signed_bytes, g_delta_bytes, text_bytes, FitsText}
use Rattle.tokens.specs.Texts.{space, first_visible, last_printable, printable}
use Rattle.tokens.proofs.Encodings.{shortest-bytes, code_size}
use Rattle.bounds.specs.declared.point.Point.{Point}
use Rattle.bounds.specs.Points.{reach, Near}
use Rattle.point_lists.specs.Laws.{gap, delta_bytes, list_bytes}
use Rattle.fields.specs.declared.number.Layers.{Layers}
use Rattle.fields.specs.declared.number.Sides.{Sides}
use Rattle.fields.specs.declared.stroke.Stroke.{Stroke}
use Rattle.frames.specs.Laws.{four_bytes}
use Rattle.explicit.specs.Bytes.{layers_bytes, sides_bytes, extensions_bytes, stroke_bytes, place_bytes}
use Rattle.explicit.specs.Laws.{AreBytes, RecordsAreBytes}
use Rattle.explicit.specs.Legal.{FitsLayers, FitsSides, FitsStroke, FitsVertices}

-- two parts
both : (a b : List ℕ) → AreBytes a → AreBytes b → AreBytes (a ++ b)
both a b h k = All-append (λ b. b < byte_values) a b h k

-- a number
number : (n : ℕ) → n ≤ largest → AreBytes (shortest n)
number n h = shortest-bytes n (omega arith)

-- a signed number in reach
signed : (z : ℤ) → nat_abs z ≤ reach → AreBytes (signed_bytes z)
signed z h = number (code_of z) (omega (arith, code_size z))

-- both coordinates
place : (p : Point) → Near reach p → AreBytes (place_bytes p)
place p h = both (signed_bytes p.x) (signed_bytes p.y) (signed p.x h.x) (signed p.y h.y)

-- a layer and a datatype
layers : (l : Layers) → FitsLayers l → AreBytes (layers_bytes l)
layers l h = both (shortest l.layer) (shortest l.datatype) (number l.layer h.layer) (number l.datatype h.datatype)

-- a width and a height
sides : (s : Sides) → FitsSides s → AreBytes (sides_bytes s)
sides s h =
    both (shortest s.width) (shortest s.height) (number s.width (omega (arith, h.width))) (number s.height (omega (arith, h.height)))

-- a half-width and both extensions
stroke : (s : Stroke) → FitsStroke s → AreBytes (stroke_bytes s)
stroke s h =
    both (shortest s.half) (extensions_bytes s) (number s.half (omega (arith, h.half)))
    (omega arith, both (signed_bytes s.start) (signed_bytes s.end) (signed s.start h.start) (signed s.end h.end))

-- printable characters
characters : (low : ℕ) (t : List ℕ) → printable low t ≡ true → AreBytes t
characters low [] e = tt
characters low (b ∷ bs) e =
    let h = and_parts (leb low b && leb b last_printable) (printable low bs) e in
    let k = leb-true b last_printable (and_parts (leb low b) (leb b last_printable) h.0).1 in
    (omega (arith, k), characters low bs h.1)

-- a name
name : (t : List ℕ) → FitsText Name t → AreBytes (text_bytes t)
name t h = both (shortest (length t)) t (number (length t) h.0) (characters first_visible t (and_parts (leb 1 (length t)) (printable first_visible t) h.1).1)

-- a text
label : (t : List ℕ) → FitsText Ascii t → AreBytes (text_bytes t)
label t h = both (shortest (length t)) t (number (length t) h.0) (characters space t h.1)

-- a step from vertex to vertex
step : (p q : Point) → Near reach p → Near reach q → AreBytes (g_delta_bytes ((gap p q).x, (gap p q).y))
step p q h k =
    let x : nat_abs (gap p q).x ≤ 2 * reach = omega (arith, ints, h.x, k.x) in
    let y : nat_abs (gap p q).y ≤ 2 * reach = omega (arith, ints, h.y, k.y) in
    both (shortest (2 * code_of (gap p q).x + 1)) (shortest (code_of (gap p q).y))
    (number (2 * code_of (gap p q).x + 1) (omega (arith, code_size (gap p q).x))) (number (code_of (gap p q).y) (omega (arith, code_size (gap p q).y)))

-- all steps
steps : (p : Point) (qs : List Point) → Near reach p → Every (Near reach) qs → AreBytes (delta_bytes p qs)
steps p [] h k = tt
steps p (q ∷ qs) h k = both (g_delta_bytes ((gap p q).x, (gap p q).y)) (delta_bytes q qs) (step p q h k.0) (steps q qs k.0 k.1)

-- a list of vertices, and the place of the first
figure : (closed : Bool) (p : Point) (qs : List Point) → FitsVertices closed p qs → AreBytes (list_bytes p qs ++ place_bytes p)
figure closed p qs h =
    both (list_bytes p qs) (place_bytes p)
    (omega arith, both (shortest (length qs)) (delta_bytes p qs) (number (length qs) h.few) (steps p qs h.first h.others))
    (place p h.first)

-- zeros
zeros : (n : ℕ) → AreBytes (replicate n 0)
zeros zero = tt
zeros (suc n) = (omega arith, zeros n)

-- each record
pub records_are_bytes : RecordsAreBytes
records_are_bytes =
    record {
      start = λ u h. (omega arith, (omega arith, (omega arith, (omega arith, (omega arith, (omega arith, both (shortest u) (replicate 13 0) (number u h.1) (zeros 13)))))));
      end = λ sum. (omega arith, (omega arith, (omega arith, both (replicate 248 0 ++ (2 ∷ [])) (four_bytes sum) (both (replicate 248 0) (2 ∷ []) (zeros 248) (omega arith, tt)) (omega arith, (omega arith, (omega arith, (omega arith, tt)))))));
      cell = λ t h. (omega arith, both (text_bytes t) (0x0f ∷ []) (name t h) (omega arith, tt));
      placement = λ a f t p ha hf ht hp. (omega arith, (omega arith, both (text_bytes t) (place_bytes p) (name t ht) (place p hp)));
      text = λ t l p ht hl hp. (omega arith, (omega arith, both (text_bytes t) (layers_bytes l ++ place_bytes p) (label t ht) (both (layers_bytes l) (place_bytes p) (layers l hl) (place p hp))));
      rectangle = λ l s p hl hs hp. (omega arith, (omega arith, both (layers_bytes l) (sides_bytes s ++ place_bytes p) (layers l hl) (both (sides_bytes s) (place_bytes p) (sides s hs) (place p hp))));
      polygon = λ l p qs hl hv. (omega arith, (omega arith, both (layers_bytes l) (list_bytes p qs ++ place_bytes p) (layers l hl) (figure true p qs hv)));
      path = λ l s p qs hl hs hv. (omega arith, (omega arith, both (layers_bytes l) (stroke_bytes s ++ (list_bytes p qs ++ place_bytes p)) (layers l hl) (both (stroke_bytes s) (list_bytes p qs ++ place_bytes p) (stroke s hs) (figure false p qs hv))));
    }

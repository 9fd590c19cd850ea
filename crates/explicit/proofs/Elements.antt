-- The fields of each element are read again.
use Rattle.std.proofs.Common.{◌≡◌, ℕ, zero, suc, ◌+◌, ◌*◌, ◌/◌, ◌%◌, ◌≤◌, true, false, List, [], ◌∷◌, length, None, sym, refl, ap, ap₂, arith}
use Rattle.std.proofs.lemmas.Bool.{cond-false}
use Rattle.tokens.specs.declared.text.StringRule.TheVariants.{Name, Ascii}
use Rattle.tokens.specs.Answers.{got}
use Rattle.tokens.specs.Bytes.{flag}
use Rattle.tokens.specs.Encodings.{text_bytes}
use Rattle.tokens.specs.Readers.{Back}
use Rattle.tokens.proofs.Backs.{back_then, back_last, back_is}
use Rattle.tokens.proofs.Encodings.{byte_back}
use Rattle.bounds.specs.Points.{origin}
use Rattle.fields.specs.declared.anchor.AnchorVariables.{AnchorVariables}
use Rattle.fields.specs.declared.reference.Form.TheVariants.{ByString}
use Rattle.fields.specs.declared.reference.Reference.{Reference}
use Rattle.fields.specs.Anchors.{anchor}
use Rattle.fields.specs.References.{reference}
use Rattle.elements.specs.declared.element.Element.TheVariants as element
use Rattle.elements.specs.Elements.{placed, closed, drawn}
use Rattle.elements.specs.Infos.{info, form_of, present_of, following}
use Rattle.explicit.specs.Bytes.{place_bytes}
use Rattle.explicit.specs.Contents.{text_given}
use Rattle.explicit.specs.Laws.{PlacementBack, TextBack, RectangleBack, PolygonBack, PathBack}
use Rattle.explicit.proofs.Fields.{layers_back, sides_back, stroke_back, string_back, place_given, anchored_at, point_back, figure_back}

-- a rectangle
pub rectangle_back : RectangleBack
rectangle_back l s p hl hs hp file at first m still =
    record {
      after = _;
      absolute = still;
      back =
          back_then _ (back_last _ (byte_back file at 0x7b) refl)
          (back_then _ (layers_back file _ first m.figure.layers l hl)
          (back_then _ (sides_back file _ first m.sides s hs)
          (back_last _ (point_back file _ first (following m m.figure.at) p still hp) refl)));
    }

-- a text
pub label_back : TextBack
label_back t l p ht hl hp file at first m still =
    record {
      after = _;
      absolute = still;
      back =
          back_then _ (back_last _ (byte_back file at 0x5b) refl)
          (back_then _ (string_back Ascii file _ t ht)
          (back_then _ (layers_back file _ first m.text.layers l hl)
          (back_last _ (point_back file _ first (following m m.text.at) p still hp) refl)));
    }

-- a polygon
pub polygon_back : PolygonBack
polygon_back l p qs hl hv file at first m still =
    record {
      after = _;
      absolute = still;
      back =
          back_then _ (back_last _ (byte_back file at 0x3b) refl)
          (back_then _ (layers_back file _ first m.figure.layers l hl)
          (figure_back file _ first true m.polygon (following m m.figure.at) p qs (closed m l) hv still));
    }

-- a path
pub path_back : PathBack
path_back l s p qs hl hs hv file at first m still =
    record {
      after = _;
      absolute = still;
      back =
          back_then _ (back_last _ (byte_back file at 0xfb) refl)
          (back_then _ (layers_back file _ first m.figure.layers l hl)
          (back_then _ (stroke_back file _ first m.path s hs)
          (figure_back file _ first false m.path.list (following m m.figure.at) p qs (drawn m l s) hv still)));
    }

-- what the info byte of a placement says: nothing reserved, a name by its string, both coordinates and no repetition, an angle and a flip
record Says (i a f : ℕ) : Type 0 where
  plain : flag i 0 ≡ false
  form : form_of i 0x80 0x40 ≡ ByString
  present : present_of i 0x20 0x10 0x08 ≡ place_given
  angle : i / 2 % 4 ≡ a
  flip : i % 2 ≡ f

-- each of the eight does
says : (a f : ℕ) → a ≤ 3 → f ≤ 1 → Says (0xb0 + 2 * a + f) a f
says zero zero h k = record { plain = refl; form = refl; present = refl; angle = refl; flip = refl }
says zero (suc zero) h k = record { plain = refl; form = refl; present = refl; angle = refl; flip = refl }
says zero (suc (suc f)) h k = absurd (omega arith)
says (suc zero) zero h k = record { plain = refl; form = refl; present = refl; angle = refl; flip = refl }
says (suc zero) (suc zero) h k = record { plain = refl; form = refl; present = refl; angle = refl; flip = refl }
says (suc zero) (suc (suc f)) h k = absurd (omega arith)
says (suc (suc zero)) zero h k = record { plain = refl; form = refl; present = refl; angle = refl; flip = refl }
says (suc (suc zero)) (suc zero) h k = record { plain = refl; form = refl; present = refl; angle = refl; flip = refl }
says (suc (suc zero)) (suc (suc f)) h k = absurd (omega arith)
says (suc (suc (suc zero))) zero h k = record { plain = refl; form = refl; present = refl; angle = refl; flip = refl }
says (suc (suc (suc zero))) (suc zero) h k = record { plain = refl; form = refl; present = refl; angle = refl; flip = refl }
says (suc (suc (suc zero))) (suc (suc f)) h k = absurd (omega arith)
says (suc (suc (suc (suc a)))) f h k = absurd (omega arith)

-- an info byte without a reserved flag
unreserved : (file : List ℕ) (at i reserved : ℕ) → flag i reserved ≡ false → Back file at (i ∷ []) (info file at reserved) i
unreserved file at i reserved e = back_last _ (byte_back file at i) (cond-false (flag i reserved) _ _ e)

-- a placement
pub placement_back : PlacementBack
placement_back a f t p ha hf ht hp file at first m still =
    let i : ℕ = 0xb0 + 2 * a + f in
    let s = says a f ha hf in
    let n : ℕ = at + 1 + length (text_bytes t) in
    let v : AnchorVariables = following m m.placement.at in
    let c : Reference = text_given (at + 1) t in
    record {
      after = (placed m i c (anchored_at v p)).modals;
      absolute = still;
      back =
          back_then _ (unreserved file at i 0 s.plain)
          (back_then _ (back_is (ap (λ x. reference Name file (at + 1) first x m.placement.cell) (sym s.form)) (string_back Name file (at + 1) t ht))
          (back_last _ (back_is (ap (λ x. anchor file n first x v (origin ∷ [])) (sym s.present)) (point_back file n first v p still hp))
          (ap₂ (λ x y. got (record { element = element.Placement (record { cell = c; angle = x; flip = y; at = p; repetition = None }); modals = (placed m i c (anchored_at v p)).modals }) (n + length (place_bytes p))) s.angle s.flip)));
    }

-- Elements that are read with legal variables are legal, and so are the variables after them.
use Rattle.std.proofs.Common.{◌≡◌, ℕ, ◌/◌, ◌%◌, ◌≤◌, Bool, true, false, List, [], ◌∷◌, subst, arith}
use Rattle.tokens.specs.declared.text.StringRule.TheVariants.{Name, Ascii}
use Rattle.tokens.specs.Answers.{Answer, got}
use Rattle.bounds.specs.Points.{origin}
use Rattle.point_lists.specs.Lists.{point_list}
use Rattle.fields.specs.declared.anchor.Anchor.{Anchor}
use Rattle.fields.specs.declared.number.Layers.{Layers}
use Rattle.fields.specs.declared.variables.Modals.{Modals}
use Rattle.fields.specs.declared.vertices.Outline.{Outline}
use Rattle.fields.specs.Anchors.{anchor}
use Rattle.fields.specs.Numbers.{layers, sides}
use Rattle.fields.specs.References.{reference}
use Rattle.fields.specs.Shapes.{points_or, vertices_of, outline}
use Rattle.fields.specs.Strokes.{stroke}
use Rattle.fields.specs.Variables.{stored_layers}
use Rattle.fields.proofs.Gives.{Gives, gives_got, gives_then}
use Rattle.elements.specs.declared.element.Drawn.{Drawn}
use Rattle.elements.specs.Elements.{placement, text, rectangle, polygon, path, figure_present, has_list}
use Rattle.elements.specs.Infos.{info, rectangle_info, form_of, present_of, following}
use Rattle.legality.specs.Laws.{ElementsLegal}
use Rattle.legality.specs.Legal.{LegalLayers, LegalElement, KeptLayers, Kept}
use Rattle.legality.proofs.Fields.{layers_legal, sides_legal, reference_legal, stroke_legal, outline_legal, LegalAnchor, anchor_legal}

-- a legal element, and legal variables
abbrev pub Legal : List ℕ → Drawn → Type 0
Legal file d = LegalElement file d.element × Kept file d.modals

-- a layer and a datatype that were legal are kept so
kept-layers : (l : Layers) → LegalLayers l → KeptLayers (stored_layers l)
kept-layers l p = record { layer = p.layer; datatype = p.datatype }

-- an anchor of the vertices of a list, for the list as the element holds it
same_shape : (file : List ℕ) (closed : Bool) (o : Outline) (a : Anchor) → o.closed ≡ closed → LegalAnchor file (vertices_of file o) a → LegalAnchor file (points_or (point_list file o.place closed)) a
same_shape file closed o a e p = subst (λ c. LegalAnchor file (points_or (point_list file o.place c)) a) e p

module _ (file : List ℕ) (at first : ℕ) (m : Modals) (k : Kept file m) where
  pub placement_legal : Gives (placement file at first m) (Legal file)
  placement_legal =
      gives_then (info file at 0) _ (λ i _.
      gives_then (reference Name file i.next first (form_of i.value 0x80 0x40) m.placement.cell) _ (λ c f.
      gives_then (anchor file c.next first (present_of i.value 0x20 0x10 0x08) (following m m.placement.at) (origin ∷ [])) _ (λ a g.
      let p = (reference_legal file Name i.next first (form_of i.value 0x80 0x40) m.placement.cell k.cell).on c f in
      let q = (anchor_legal file c.next first (present_of i.value 0x20 0x10 0x08) (following m m.placement.at) (origin ∷ []) k.repetition).on a g in
      let turns : i.value / 2 % 4 ≤ 3 = omega arith in
      let flips : i.value % 2 ≤ 1 = omega arith in
      gives_got _ _ (
        (p, turns, flips, q.0),
        record {
          repetition = q.1;
          cell = p;
          text = k.text;
          text_layers = k.text_layers;
          layers = k.layers;
          width = k.width;
          height = k.height;
          polygon = k.polygon;
          half = k.half;
          start = k.start;
          end = k.end;
          path = k.path;
        },
      ))))

  pub text_legal : Gives (text file at first m) (Legal file)
  text_legal =
      gives_then (info file at 0x80) _ (λ i _.
      gives_then (reference Ascii file i.next first (form_of i.value 0x40 0x20) m.text.text) _ (λ t f.
      gives_then (layers file t.next first i.value m.text.layers) _ (λ l h.
      gives_then (anchor file l.next first (present_of i.value 0x10 0x08 0x04) (following m m.text.at) (origin ∷ [])) _ (λ a g.
      let p = (reference_legal file Ascii i.next first (form_of i.value 0x40 0x20) m.text.text k.text).on t f in
      let r = (layers_legal file t.next first i.value m.text.layers k.text_layers).on l h in
      let q = (anchor_legal file l.next first (present_of i.value 0x10 0x08 0x04) (following m m.text.at) (origin ∷ []) k.repetition).on a g in
      gives_got _ _ (
        (p, r, q.0),
        record {
          repetition = q.1;
          cell = k.cell;
          text = p;
          text_layers = kept-layers l.value r;
          layers = k.layers;
          width = k.width;
          height = k.height;
          polygon = k.polygon;
          half = k.half;
          start = k.start;
          end = k.end;
          path = k.path;
        },
      )))))

  pub rectangle_legal : Gives (rectangle file at first m) (Legal file)
  rectangle_legal =
      gives_then (rectangle_info file at) _ (λ i _.
      gives_then (layers file i.next first i.value m.figure.layers) _ (λ l h.
      gives_then (sides file l.next first i.value m.sides) _ (λ s f.
      gives_then (anchor file s.next first (figure_present i.value) (following m m.figure.at) (origin ∷ [])) _ (λ a g.
      let r = (layers_legal file i.next first i.value m.figure.layers k.layers).on l h in
      let p = (sides_legal file l.next first i.value m.sides).on s f in
      let q = (anchor_legal file s.next first (figure_present i.value) (following m m.figure.at) (origin ∷ []) k.repetition).on a g in
      gives_got _ _ (
        (r, p, q.0),
        record {
          repetition = q.1;
          cell = k.cell;
          text = k.text;
          text_layers = k.text_layers;
          layers = kept-layers l.value r;
          width = p.width;
          height = p.height;
          polygon = k.polygon;
          half = k.half;
          start = k.start;
          end = k.end;
          path = k.path;
        },
      )))))

  pub polygon_legal : Gives (polygon file at first m) (Legal file)
  polygon_legal =
      gives_then (info file at 0xc0) _ (λ i _.
      gives_then (layers file i.next first i.value m.figure.layers) _ (λ l h.
      gives_then (outline file l.next first true (has_list i.value) m.polygon) _ (λ o f.
      gives_then (anchor file o.next first (figure_present i.value) (following m m.figure.at) (vertices_of file o.value)) _ (λ a g.
      let r = (layers_legal file i.next first i.value m.figure.layers k.layers).on l h in
      let p = (outline_legal file l.next first true (has_list i.value) m.polygon).on o f in
      let q = same_shape file true o.value a.value p.0 ((anchor_legal file o.next first (figure_present i.value) (following m m.figure.at) (vertices_of file o.value) k.repetition).on a g) in
      gives_got _ _ (
        (r, p.1, q.0),
        record {
          repetition = q.1;
          cell = k.cell;
          text = k.text;
          text_layers = k.text_layers;
          layers = kept-layers l.value r;
          width = k.width;
          height = k.height;
          polygon = p.1.list;
          half = k.half;
          start = k.start;
          end = k.end;
          path = k.path;
        },
      )))))

  pub path_legal : Gives (path file at first m) (Legal file)
  path_legal =
      gives_then (info file at 0) _ (λ i _.
      gives_then (layers file i.next first i.value m.figure.layers) _ (λ l h.
      gives_then (stroke file l.next first i.value m.path) _ (λ s d.
      gives_then (outline file s.next first false (has_list i.value) m.path.list) _ (λ o f.
      gives_then (anchor file o.next first (figure_present i.value) (following m m.figure.at) (vertices_of file o.value)) _ (λ a g.
      let r = (layers_legal file i.next first i.value m.figure.layers k.layers).on l h in
      let w = (stroke_legal file l.next first i.value m.path k.start k.end).on s d in
      let p = (outline_legal file s.next first false (has_list i.value) m.path.list).on o f in
      let q = same_shape file false o.value a.value p.0 ((anchor_legal file o.next first (figure_present i.value) (following m m.figure.at) (vertices_of file o.value) k.repetition).on a g) in
      gives_got _ _ (
        (r, w, p.1, q.0),
        record {
          repetition = q.1;
          cell = k.cell;
          text = k.text;
          text_layers = k.text_layers;
          layers = kept-layers l.value r;
          width = k.width;
          height = k.height;
          polygon = k.polygon;
          half = w.half;
          start = w.start;
          end = w.end;
          path = p.1.list;
        },
      ))))))

-- a value of a reader that gives legal ones
legally : {file : List ℕ} {r : Answer Drawn} (n : ℕ) (d : Drawn) → Gives r (Legal file) → got d n ≡ r → Legal file d
legally n d g e = g.on (record { value = d; next = n }) e

-- all of them
pub elements_legal : ElementsLegal
elements_legal = (
  λ file at first n m d k e. legally n d (placement_legal file at first m k) e,
  λ file at first n m d k e. legally n d (text_legal file at first m k) e,
  λ file at first n m d k e. legally n d (rectangle_legal file at first m k) e,
  λ file at first n m d k e. legally n d (polygon_legal file at first m k) e,
  λ file at first n m d k e. legally n d (path_legal file at first m k) e,
)

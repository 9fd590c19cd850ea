-- The records of elements: their fields in order, and the variables after them.
use Rattle.std.specs.Prelude.{ℕ, ◌/◌, ◌%◌, Bool, true, false, List, [], ◌∷◌, Some}
use Rattle.tokens.specs.declared.text.StringRule.TheVariants.{Name, Ascii}
use Rattle.tokens.specs.Answers.{Answer, got, then}
use Rattle.tokens.specs.Bytes.{flag}
use Rattle.bounds.specs.Points.{origin}
use Rattle.fields.specs.declared.anchor.Anchor.{Anchor}
use Rattle.fields.specs.declared.anchor.Present.{Present}
use Rattle.fields.specs.declared.number.Layers.{Layers}
use Rattle.fields.specs.declared.number.Sides.{Sides}
use Rattle.fields.specs.declared.reference.Reference.{Reference}
use Rattle.fields.specs.declared.stroke.Stroke.{Stroke}
use Rattle.fields.specs.declared.variables.FigureVariables.{FigureVariables}
use Rattle.fields.specs.declared.variables.Modals.{Modals}
use Rattle.fields.specs.declared.vertices.Outline.{Outline}
use Rattle.fields.specs.Anchors.{anchor}
use Rattle.fields.specs.Numbers.{layers, sides}
use Rattle.fields.specs.References.{reference}
use Rattle.fields.specs.Shapes.{vertices_of, outline}
use Rattle.fields.specs.Strokes.{stroke}
use Rattle.fields.specs.Variables.{stored_layers, stored_sides}
use Rattle.elements.specs.declared.element.Drawn.{Drawn}
use Rattle.elements.specs.declared.element.Element.TheVariants as element
use Rattle.elements.specs.Infos.{info, rectangle_info, form_of, present_of, following}

-- a placement, and the variables after it: its cell, its place and its repetition
abbrev pub placed : Modals → (info : ℕ) → Reference → Anchor → Drawn
placed m i c a =
    record {
      element = element.Placement (record { cell = c; angle = i / 2 % 4; flip = i % 2; at = a.at; repetition = a.repetition });
      modals = record {
        relative = m.relative;
        repetition = a.stored;
        placement = record { at = a.at; cell = Some c };
        text = m.text;
        figure = m.figure;
        sides = m.sides;
        polygon = m.polygon;
        path = m.path;
      };
    }

-- info byte CNXYRAAF, cell, place
abbrev pub placement : List ℕ → (at first : ℕ) → Modals → Answer Drawn
placement file at first m =
    then (info file at 0) λ i n.
    then (reference Name file n first (form_of i 0x80 0x40) m.placement.cell) λ c n.
    then (anchor file n first (present_of i 0x20 0x10 0x08) (following m m.placement.at) (origin ∷ [])) λ a n.
    got (placed m i c a) n

-- a text, and the variables after it: its text, textlayer, texttype, place and repetition
abbrev pub lettered : Modals → Reference → Layers → Anchor → Drawn
lettered m t l a =
    record {
      element = element.Text (record { text = t; layers = l; at = a.at; repetition = a.repetition });
      modals = record {
        relative = m.relative;
        repetition = a.stored;
        placement = m.placement;
        text = record { at = a.at; text = Some t; layers = stored_layers l };
        figure = m.figure;
        sides = m.sides;
        polygon = m.polygon;
        path = m.path;
      };
    }

-- info byte 0CNXYRTL, text, textlayer and texttype, place
abbrev pub text : List ℕ → (at first : ℕ) → Modals → Answer Drawn
text file at first m =
    then (info file at 0x80) λ i n.
    then (reference Ascii file n first (form_of i 0x40 0x20) m.text.text) λ t n.
    then (layers file n first i m.text.layers) λ l n.
    then (anchor file n first (present_of i 0x10 0x08 0x04) (following m m.text.at) (origin ∷ [])) λ a n.
    got (lettered m t l a) n

-- what figures share is stored: the place, the layer and the datatype
abbrev pub figure_after : Layers → Anchor → FigureVariables
figure_after l a = record { at = a.at; layers = stored_layers l }

-- which of the last fields of a figure are present
abbrev pub figure_present : (info : ℕ) → Present
figure_present i = present_of i 0x10 0x08 0x04

-- the flag of an info byte that announces a point list
abbrev pub has_list : ℕ → Bool
has_list i = flag i 0x20

-- a rectangle, and the variables after it: its sides, and what figures share
abbrev pub sized : Modals → Layers → Sides → Anchor → Drawn
sized m l s a =
    record {
      element = element.Rectangle (record { layers = l; sides = s; at = a.at; repetition = a.repetition });
      modals = record {
        relative = m.relative;
        repetition = a.stored;
        placement = m.placement;
        text = m.text;
        figure = figure_after l a;
        sides = stored_sides s;
        polygon = m.polygon;
        path = m.path;
      };
    }

-- info byte SWHXYRDL, layer and datatype, width and height, place
abbrev pub rectangle : List ℕ → (at first : ℕ) → Modals → Answer Drawn
rectangle file at first m =
    then (rectangle_info file at) λ i n.
    then (layers file n first i m.figure.layers) λ l n.
    then (sides file n first i m.sides) λ s n.
    then (anchor file n first (figure_present i) (following m m.figure.at) (origin ∷ [])) λ a n.
    got (sized m l s a) n

-- a polygon, and the variables after it: its list, and what figures share
abbrev pub closed : Modals → Layers → Outline → Anchor → Drawn
closed m l o a =
    record {
      element = element.Polygon (record { layers = l; list = o.place; vertices = o.vertices; at = a.at; repetition = a.repetition });
      modals = record {
        relative = m.relative;
        repetition = a.stored;
        placement = m.placement;
        text = m.text;
        figure = figure_after l a;
        sides = m.sides;
        polygon = Some o.place;
        path = m.path;
      };
    }

-- info byte 00PXYRDL, layer and datatype, list, place
abbrev pub polygon : List ℕ → (at first : ℕ) → Modals → Answer Drawn
polygon file at first m =
    then (info file at 0xc0) λ i n.
    then (layers file n first i m.figure.layers) λ l n.
    then (outline file n first true (has_list i) m.polygon) λ o n.
    then (anchor file n first (figure_present i) (following m m.figure.at) (vertices_of file o)) λ a n.
    got (closed m l o a) n

-- a path, and the variables after it: its half-width, extensions and list, and what figures share
abbrev pub drawn : Modals → Layers → Stroke → Outline → Anchor → Drawn
drawn m l s o a =
    record {
      element = element.Path (record { layers = l; stroke = s; list = o.place; vertices = o.vertices; at = a.at; repetition = a.repetition });
      modals = record {
        relative = m.relative;
        repetition = a.stored;
        placement = m.placement;
        text = m.text;
        figure = figure_after l a;
        sides = m.sides;
        polygon = m.polygon;
        path = record { half = Some s.half; start = Some s.start; end = Some s.end; list = Some o.place };
      };
    }

-- info byte EWPXYRDL, layer and datatype, half-width and extensions, list, place
abbrev pub path : List ℕ → (at first : ℕ) → Modals → Answer Drawn
path file at first m =
    then (info file at 0) λ i n.
    then (layers file n first i m.figure.layers) λ l n.
    then (stroke file n first i m.path) λ s n.
    then (outline file n first false (has_list i) m.path.list) λ o n.
    then (anchor file n first (figure_present i) (following m m.figure.at) (vertices_of file o)) λ a n.
    got (drawn m l s o a) n

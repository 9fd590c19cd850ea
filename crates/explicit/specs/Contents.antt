-- What explicit bytes are read as, by the place where they stand.
use Rattle.std.specs.Prelude.{ℕ, suc, ◌+◌, Bool, List, [], ◌∷◌, length, None}
use Rattle.tokens.specs.Parts.{text_part}
use Rattle.bounds.specs.declared.point.Point.{Point}
use Rattle.bounds.specs.Points.{origin, places}
use Rattle.point_lists.specs.Lists.{point_list}
use Rattle.fields.specs.declared.number.Layers.{Layers}
use Rattle.fields.specs.declared.number.Sides.{Sides}
use Rattle.fields.specs.declared.reference.Reference.{Reference}
use Rattle.fields.specs.declared.reference.Reference.TheVariants.{Given}
use Rattle.fields.specs.declared.stroke.Stroke.{Stroke}
use Rattle.fields.specs.Shapes.{points_or}
use Rattle.elements.specs.declared.element.Element.{Element}
use Rattle.elements.specs.declared.element.Element.TheVariants as element
use Rattle.explicit.specs.Bytes.{layers_bytes, stroke_bytes}

-- a name or a text by its string, which stands at the place `at`
abbrev pub text_given : (at : ℕ) → List ℕ → Reference
text_given at t = Given (text_part at t)

-- a placement whose info byte stands at the place `at`
abbrev pub placement_of : (angle flip : ℕ) → (name : List ℕ) → Point → (at : ℕ) → Element
placement_of a f t p at = element.Placement (record { cell = text_given (at + 1) t; angle = a; flip = f; at = p; repetition = None })

-- a text whose info byte stands at the place `at`
abbrev pub label_of : (text : List ℕ) → Layers → Point → (at : ℕ) → Element
label_of t l p at = element.Text (record { text = text_given (at + 1) t; layers = l; at = p; repetition = None })

-- a rectangle, wherever it stands
abbrev pub rectangle_of : Layers → Sides → Point → (at : ℕ) → Element
rectangle_of l s p at = element.Rectangle (record { layers = l; sides = s; at = p; repetition = None })

-- a polygon whose info byte stands at the place `at`: its list stands behind its layer and its datatype
abbrev pub polygon_of : Layers → Point → List Point → (at : ℕ) → Element
polygon_of l p qs at =
    element.Polygon (record { layers = l; list = at + 1 + length (layers_bytes l); vertices = suc (length qs); at = p; repetition = None })

-- a path whose info byte stands at the place `at`: its list stands behind its extensions
abbrev pub path_of : Layers → Stroke → Point → List Point → (at : ℕ) → Element
path_of l s p qs at =
    element.Path
    (record {
      layers = l;
      stroke = s;
      list = at + 1 + length (layers_bytes l) + length (stroke_bytes s);
      vertices = suc (length qs);
      at = p;
      repetition = None;
    })

-- the vertices of the list at a place, for an element whose first vertex is p
abbrev pub shown_vertices : List ℕ → (place : ℕ) → (closed : Bool) → Point → List Point
shown_vertices file place closed p = places p (origin ∷ []) (points_or (point_list file place closed))

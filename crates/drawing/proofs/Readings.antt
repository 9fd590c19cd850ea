-- The explicit bytes of a valid item are read as records that draw exactly that item.
use Rattle.std.proofs.Common.{◌≡◌, ℕ, ◌+◌, ◌-◌, ◌≤◌, Bool, true, false, ◌&&◌, leb, List, [], ◌∷◌, length, sym, refl, ap, ◌∙◌, ap₂, arith, length-drop}
use Rattle.std.proofs.lemmas.List.{append-nil, length-append}
use Rattle.std.proofs.lemmas.Bool.{and_parts, leb-true}
use Rattle.tokens.specs.declared.text.StringRule.TheVariants.{Name, Ascii}
use Rattle.tokens.specs.Chains.{largest}
use Rattle.tokens.specs.Encodings.{text_bytes, FitsText}
use Rattle.tokens.specs.Texts.{obeys}
use Rattle.bounds.specs.declared.point.Point.{Point}
use Rattle.bounds.specs.Points.{reach, origin, sum, within}
use Rattle.point_lists.proofs.Fills.{sum-origin}
use Rattle.frames.specs.Laws.{sum_before}
use Rattle.fields.specs.declared.number.Layers.{Layers}
use Rattle.fields.specs.declared.number.Sides.{Sides}
use Rattle.fields.specs.declared.stroke.Stroke.{Stroke}
use Rattle.elements.specs.declared.element.Element.{Element}
use Rattle.steps.specs.declared.state.Position.{Position}
use Rattle.items.specs.Things.{Thing, a_start, a_cell, a_placement, a_text, a_rectangle, a_polygon, a_path, an_end}
use Rattle.items.specs.Validity.{named, worded, turned, in_file, Drawn}
use Rattle.items.proofs.Tests.{decided}
use Rattle.explicit.specs.Bytes.{end_bytes, placement_bytes, label_bytes, rectangle_bytes, polygon_bytes, path_bytes, layers_bytes, stroke_bytes}
use Rattle.explicit.specs.Contents.{placement_of, label_of, rectangle_of, polygon_of, path_of, shown_vertices}
use Rattle.explicit.specs.Laws as laws
use Rattle.explicit.specs.Legal.{FitsVertices}
use Rattle.explicit.proofs.Records.{placement_read, text_read, rectangle_read, polygon_read, path_read, cells_read, start_read, end_read}
use Rattle.explicit.proofs.Shown.{texts_shown, vertices-shown}
use Rattle.drawing.specs.Drawn.{Naming, vertices_from, copies_of, SpelledElement}
use Rattle.drawing.specs.Laws.{Draws, InCell, ElementsRead, CellsRead, StartsRead, EndsRead}

-- a name, and a text, that a string can hold
name_fits : (n : List ℕ) → named n ≡ true → FitsText Name n
name_fits n v = let h = and_parts (obeys Name n) (leb (length n) largest) v in (leb-true (length n) largest h.1, h.0)

text_fits : (t : List ℕ) → worded t ≡ true → FitsText Ascii t
text_fits t v = let h = and_parts (obeys Ascii t) (leb (length t) largest) v in (leb-true (length t) largest h.1, h.0)

-- vertices of a valid polygon or path
vertices_fit : (closed : Bool) (few : ℕ) (p : Point) (ps : List Point) → (closed ≡ true → 3 ≤ few) → Drawn few (p ∷ ps) → FitsVertices closed p ps
vertices_fit closed few p ps e d =
    let c = d.countable in
    let n = d.enough in
    record { first = d.near.0; others = d.near.1; few = omega arith; enough = λ t. let k = e t in omega arith }

-- the vertices of a list, for a first copy that stands at q
shown_from : (file : List ℕ) (list : ℕ) (closed : Bool) (q : Point) (qs : List Point) → shown_vertices file list closed q ≡ qs → vertices_from file list closed (sum q origin) ≡ qs
shown_from file list closed q qs e = sym (append-nil (vertices_from file list closed (sum q origin))) ∙ e

-- an element that is read is one record, and leaves the cell open and coordinates absolute
drawn_by : (file : List ℕ) (p : Position) (id : ℕ) (bs : List ℕ) (e : Element) (t : Thing) → laws.ElementRead file p id bs e → SpelledElement e → ((names : Naming) → copies_of names file e ≡ t ∷ []) → (d : Draws file p (length bs) (t ∷ [])) × InCell d.step.after
drawn_by file p id bs e t r l q =
    (record { step = _; read = r.read; items = q; plain = l; next = refl; late = refl }, record { inside = refl; absolute = r.absolute })

-- the elements
pub elements_read : ElementsRead
elements_read file rest p s (a_start u) k v c e = absurd (cc)
elements_read file rest p s (a_cell n) k v c e = absurd (cc)
elements_read file rest p s (a_placement n q a f) k v c e =
    let h = (decided (a_placement n q a f)).0 v in
    let m = name_fits n (and_parts (named n) (within reach q) (and_parts (named n && within reach q) (turned a f) v).0).0 in
    drawn_by file p 17 (placement_bytes a f n q) (placement_of a f n q (p.at + 1)) (a_placement n q a f)
    (placement_read a f n q h.angle h.flip m h.place file rest p c.inside c.absolute e)
    tt (λ names. ap₂ (λ x y. a_placement x y a f ∷ []) ((texts_shown file rest p.at n).1 a f q e) (sum-origin q))
elements_read file rest p s (a_text l t q x) k v c e =
    let h = (decided (a_text l t q x)).0 v in
    let m = text_fits x (and_parts (in_file l t && within reach q) (worded x) v).1 in
    let ls : Layers = record { layer = l; datatype = t } in
    drawn_by file p 19 (label_bytes x ls q) (label_of x ls q (p.at + 1)) (a_text l t q x)
    (text_read x ls q m (record { layer = h.textlayer; datatype = h.texttype }) h.place file rest p c.inside c.absolute e)
    tt (λ names. ap₂ (λ y z. a_text l t z y ∷ []) ((texts_shown file rest p.at x).2 ls q e) (sum-origin q))
elements_read file rest p s (a_rectangle l d w h q) k v c e =
    let g = (decided (a_rectangle l d w h q)).0 v in
    let ls : Layers = record { layer = l; datatype = d } in
    let ss : Sides = record { width = w; height = h } in
    drawn_by file p 20 (rectangle_bytes ls ss q) (rectangle_of ls ss q (p.at + 1)) (a_rectangle l d w h q)
    (rectangle_read ls ss q (record { layer = g.layer; datatype = g.datatype }) (record { width = g.width; height = g.height }) g.place file rest p c.inside c.absolute e)
    tt (λ names. ap (λ x. a_rectangle l d w h x ∷ []) (sum-origin q))
elements_read file rest p s (a_polygon l d []) k v c e = let z = ((decided (a_polygon l d [])).0 v).vertices.enough in absurd (omega arith)
elements_read file rest p s (a_polygon l d (q ∷ qs)) k v c e =
    let g = (decided (a_polygon l d (q ∷ qs))).0 v in
    let ls : Layers = record { layer = l; datatype = d } in
    let m = vertices_fit true 3 q qs (λ t. omega arith) g.vertices in
    drawn_by file p 21 (polygon_bytes ls q qs) (polygon_of ls q qs (p.at + 1)) (a_polygon l d (q ∷ qs))
    (polygon_read ls q qs (record { layer = g.layer; datatype = g.datatype }) m file rest p c.inside c.absolute e)
    tt (λ names. ap (λ x. a_polygon l d x ∷ []) (shown_from file (p.at + 1 + 1 + length (layers_bytes ls)) true q (q ∷ qs) ((vertices-shown file rest p.at ls q qs).0 m e)))
elements_read file rest p s (a_path l d h b f []) k v c e = let z = ((decided (a_path l d h b f [])).0 v).vertices.enough in absurd (omega arith)
elements_read file rest p s (a_path l d h b f (q ∷ qs)) k v c e =
    let g = (decided (a_path l d h b f (q ∷ qs))).0 v in
    let ls : Layers = record { layer = l; datatype = d } in
    let ss : Stroke = record { half = h; start = b; end = f } in
    let m = vertices_fit false 1 q qs (λ t. absurd (cc)) g.vertices in
    drawn_by file p 22 (path_bytes ls ss q qs) (path_of ls ss q qs (p.at + 1)) (a_path l d h b f (q ∷ qs))
    (path_read ls ss q qs (record { layer = g.layer; datatype = g.datatype }) (record { half = g.half; start = g.start; end = g.end }) m file rest p c.inside c.absolute e)
    tt (λ names. ap (λ x. a_path l d h b f x ∷ []) (shown_from file (p.at + 1 + 1 + length (layers_bytes ls) + length (stroke_bytes ss)) false q (q ∷ qs) ((vertices-shown file rest p.at ls q qs).1 ss m e)))
elements_read file rest p s an_end k v c e = absurd (cc)

-- cells
pub cells_drawn : CellsRead
cells_drawn file rest p s n v b e =
    let r = cells_read file rest p n (name_fits n v) b e in
    let i = r.behind in
    let size : ℕ = 1 + length (text_bytes n) in
    let next : r.mode ≡ p.at + size = omega arith in
    let cut = length-append (0x0e ∷ text_bytes n) (0x0f ∷ []) in (
      size,
      record { step = _; read = r.opened; items = λ names. ap (λ x. a_cell x ∷ []) ((texts_shown file rest p.at n).0 e); plain = tt; next = next; late = refl },
      record { inside = refl; absolute = refl },
      record { step = _; read = r.moded; items = λ names. refl; plain = tt; next = omega (arith, cut); late = refl },
      omega (arith, cut),
      record { inside = refl; absolute = refl },
    )

-- starts
pub starts_read : StartsRead
starts_read file rest p s u v t f e =
    let h = (decided (a_start u)).0 v in
    let r = start_read file rest p u (h.some, h.unit) t e in
    (record { step = _; read = r; items = λ names. refl; plain = tt; next = refl; late = sym f }, refl)

-- ends
pub ends_read : EndsRead
ends_read file p b f e =
    let r = end_read file p b f e in
    (record { step = _; read = r; items = λ names. refl; plain = tt; next = at_end; late = sym f }, refl)
  where
    at_end : length file ≡ p.at + length (end_bytes (sum_before file p.at))
    at_end = let n : length file - p.at ≡ 256 = sym (length-drop p.at file) ∙ ap length e in omega arith

-- Repetitions and point lists in records: present, or used again at the place where they stand.
use Rattle.std.specs.Prelude.{◌≡◌, ℕ, Bool, cond, List, [], ◌∷◌, Some, None, Ok, Err, Option, ◌==◌}
use Rattle.tokens.specs.Answers.{Answer, got, then}
use Rattle.tokens.specs.Chains.{unsigned}
use Rattle.bounds.specs.declared.point.Point.{Point}
use Rattle.bounds.specs.declared.bounds.Bounds.{Bounds}
use Rattle.bounds.specs.Points.{origin, Rooted}
use Rattle.bounds.specs.Boxes.{nothing, bounds_of}
use Rattle.point_lists.specs.Lists.{point_list, summarised as list_in_short}
use Rattle.repetitions.specs.declared.summary.Summary.{Summary}
use Rattle.repetitions.specs.Repetitions.{repetition, summarised as copies_in_short}
use Rattle.fields.specs.declared.copies.Repeated.{Repeated}
use Rattle.fields.specs.declared.copies.Spread.{Spread}
use Rattle.fields.specs.declared.vertices.Outline.{Outline}
use Rattle.fields.specs.Numbers.{inherited}

-- the points that were read, or none
abbrev pub points_or : Answer (List Point) → List Point
points_or (Ok x) = x.value
points_or (Err e) = []

-- the offsets of the copies of an element: those of its repetition, or the origin alone
abbrev pub offsets_of : List ℕ → Option Repeated → List Point
offsets_of file (Some r) = points_or (repetition file r.place)
offsets_of file None = origin ∷ []

-- the vertices of a list as offsets from the first
abbrev pub vertices_of : List ℕ → Outline → List Point
vertices_of file o = points_or (point_list file o.place o.closed)

-- the vertices of an element: those of its list, or the origin alone
abbrev pub shape_of : List ℕ → Option Outline → List Point
shape_of file (Some o) = vertices_of file o
shape_of file None = origin ∷ []

-- a list of offsets that begins at the origin, and the box around it
pub record Boxed (ps : List Point) (b : Bounds) : Type 0 where
  pub rooted : Rooted ps
  pub around : b ≡ bounds_of ps

-- the copies by the repetition at a place, of which this is known in short
abbrev pub spread_by : ℕ → Summary → Spread
spread_by place s = record { repetition = Some (record { place = place; copies = s.copies }); stored = Some place; bounds = s.bounds }

-- the copies by the repetition at a place
abbrev pub spread_at : List ℕ → ℕ → Answer Spread
spread_at file at = then (copies_in_short (repetition file at)) λ s n. got (spread_by at s) n

-- the copies of a record: by a repetition that stands in it, by the one that was used last (type 0), or none but the first
abbrev pub copies : List ℕ → (at first : ℕ) → (present : Bool) → Option ℕ → Answer Spread
copies file at first present v =
    cond present
    (then (unsigned file at) λ kind n.
    cond (kind == 0)
    (then (inherited n first v) λ old i. then (copies_in_short (repetition file old)) λ s _. got (spread_by old s) i)
    (then (copies_in_short (repetition file at)) λ s i. got (spread_by at s) i))
    (got (record { repetition = None; stored = v; bounds = nothing }) at)

-- the list at a place, in short
abbrev pub outline_at : List ℕ → ℕ → (closed : Bool) → Answer Outline
outline_at file at closed =
    then (list_in_short (point_list file at closed)) λ s n. got (record { place = at; closed = closed; vertices = s.vertices; bounds = s.bounds }) n

-- the list of a record: one that stands in it, or the one that was used last, which is read again where it stands
abbrev pub outline : List ℕ → (at first : ℕ) → (closed present : Bool) → Option ℕ → Answer Outline
outline file at first closed present v =
    cond present (outline_at file at closed) (then (inherited at first v) λ old n. then (outline_at file old closed) λ o _. got o n)

-- the box around the vertices of an element
abbrev pub shape_bounds : Option Outline → Bounds
shape_bounds (Some o) = o.bounds
shape_bounds None = nothing

-- a list that was read from this file
abbrev pub Drawn : List ℕ → Option Outline → Type 0
Drawn file (Some o) = Boxed (vertices_of file o) o.bounds
Drawn file None = Unit {0}

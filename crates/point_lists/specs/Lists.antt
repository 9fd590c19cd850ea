-- Point lists.
use Rattle.std.specs.Prelude.{ℕ, ◌+◌, Bool, cond, List, [], ◌∷◌, ◌++◌, map, length, Some, None, fold, Option}
use Rattle.tokens.specs.declared.fault.FaultKind.TheVariants.{BadType, BadList}
use Rattle.tokens.specs.Answers.{Answer, got, fault, then}
use Rattle.tokens.specs.Chains.{unsigned}
use Rattle.bounds.specs.declared.point.Point.{Point}
use Rattle.bounds.specs.Points.{origin, path}
use Rattle.bounds.specs.Boxes.{nothing, grown, bounds_of}
use Rattle.point_lists.specs.declared.kind.ListKind.{ListKind}
use Rattle.point_lists.specs.declared.walk.Walk.{Walk}
use Rattle.point_lists.specs.declared.read.Head.{Head}
use Rattle.point_lists.specs.declared.read.Tour.{Tour}
use Rattle.point_lists.specs.declared.read.ListSummary.{ListSummary}
use Rattle.point_lists.specs.Kinds.{list_kind, good_count, closes, implied}
use Rattle.point_lists.specs.Walks.{advanced, start}
use Rattle.point_lists.specs.Rolls.{unrolled}

-- the last of some points, or p where there is none
abbrev pub last_of : Point → List Point → Point
last_of p [] = p
last_of p (q ∷ qs) = last_of q qs

-- the vertices of a list as offsets from the first, which is the origin: where its displacements lead, and what is implied
abbrev pub vertices : ListKind → (closed : Bool) → (displacements : List Point) → List Point
vertices k closed ds = origin ∷ (path origin ds ++ implied k closed (last_of origin (path origin ds)))

-- the displacements from vertex to vertex
abbrev pub vectors : List Walk → List Point
vectors ws = map (λ w. w.vector) ws

-- the kind of a list, or a fault of its type
abbrev pub kind_or : {A : Type 0} → Option ListKind → ℕ → (ListKind → Answer A) → Answer A
kind_or (Some k) at f = f k
kind_or None at f = fault BadType at

-- a list begins with its type and its count
unfoldable pub list_head : List ℕ → ℕ → (closed : Bool) → Answer Head
list_head file at closed =
    then (unsigned file at) λ code n.
    kind_or (list_kind code) at λ k.
    then (unsigned file n) λ count m. cond (good_count k closed count) (got (record { kind = k; count = count }) m) (fault BadList n)

-- so many displacements from the place `at` on
abbrev pub walked : ListKind → ℕ → List ℕ → ℕ → Answer (List Walk)
walked k n file at = unrolled (advanced file) n at (start k)

-- the list closes from its last given vertex, or is at fault
abbrev pub closing : ListKind → (closed : Bool) → ℕ → List Point → ℕ → Answer (List Point)
closing k closed at ds n = cond (closes k closed (last_of origin (path origin ds))) (got (vertices k closed ds) n) (fault BadList at)

-- the list at the place `at`: its vertices
unfoldable pub point_list : List ℕ → ℕ → (closed : Bool) → Answer (List Point)
point_list file at closed =
    then (list_head file at closed) λ h n.
    then (walked h.kind h.count file n) λ ws m. closing h.kind closed at (vectors ws) m

-- a list in short: how many vertices it has, and the box around them
abbrev pub summary_of : List Point → ListSummary
summary_of ps = record { vertices = length ps; bounds = bounds_of ps }

abbrev pub summarised : Answer (List Point) → Answer ListSummary
summarised r = then r λ ps n. got (summary_of ps) n

-- a walk in short: the last vertex, and the box around all
abbrev pub noted : Tour → Walk → Tour
noted t w = record { last = w.at; bounds = grown t.bounds w.at }

abbrev pub untoured : Tour
untoured = record { last = origin; bounds = nothing }

-- a list in short, from a walk in short
abbrev pub short_of : ListKind → (closed : Bool) → ℕ → Tour → ListSummary
short_of k closed n t =
    record { vertices = n + length (implied k closed t.last) + 1; bounds = fold grown t.bounds (implied k closed t.last) }

-- The six types of lists, and what each asks of a polygon.
use Rattle.std.specs.Prelude.{ℕ, ◌%◌, Bool, true, false, cond, not, ◌&&◌, ◌||◌, List, [], ◌∷◌, ℤ, pos, Some, None, Option, Result, ok_or, ◌==◌, nat_le, unsigned_abs}
use Rattle.bounds.specs.declared.point.Point.{Point}
use Rattle.bounds.specs.Points.{point}
use Rattle.point_lists.specs.declared.kind.ListKind.{ListKind}
use Rattle.point_lists.specs.declared.kind.ListKind.TheVariants.{AcrossFirst, UpFirst, Manhattan, Octangular, General, Changing}
use Rattle.point_lists.specs.declared.kind.UnknownListType.{UnknownListType}

-- the kind of a list by its type
abbrev pub list_kind : ℕ → Option ListKind
list_kind n =
    cond (n == 0) (Some AcrossFirst)
    (cond (n == 1) (Some UpFirst)
    (cond (n == 2) (Some Manhattan)
    (cond (n == 3) (Some Octangular) (cond (n == 4) (Some General) (cond (n == 5) (Some Changing) None)))))

-- the same, with the type in the error where no list has it
abbrev pub decoded : ℕ → Result ListKind UnknownListType
decoded n = ok_or (list_kind n) (record { 0 = n })

-- how many displacements a list may have: a polygon two at least, and an even number where they go across and up in turn
abbrev pub good_count : ListKind → (closed : Bool) → ℕ → Bool
good_count k false n = true
good_count AcrossFirst true n = nat_le 2 n && n % 2 == 0
good_count UpFirst true n = nat_le 2 n && n % 2 == 0
good_count Manhattan true n = nat_le 2 n
good_count Octangular true n = nat_le 2 n
good_count General true n = nat_le 2 n
good_count Changing true n = nat_le 2 n

abbrev pub is_zero : ℤ → Bool
is_zero z = unsigned_abs z == 0

-- whether a polygon may close from its last given vertex, as an offset from the first: by two displacements that are not
-- zero, through the implied vertex; by one along an axis; by one along an axis or a diagonal; or by any
abbrev pub closes : ListKind → (closed : Bool) → Point → Bool
closes k false p = true
closes AcrossFirst true p = not (is_zero p.x || is_zero p.y)
closes UpFirst true p = not (is_zero p.x || is_zero p.y)
closes Manhattan true p = is_zero p.x || is_zero p.y
closes Octangular true p = is_zero p.x || is_zero p.y || unsigned_abs p.x == unsigned_abs p.y
closes General true p = true
closes Changing true p = true

-- the vertex that the list of a polygon leaves out
abbrev pub implied : ListKind → (closed : Bool) → Point → List Point
implied k false p = []
implied AcrossFirst true p = point (pos 0) p.y ∷ []
implied UpFirst true p = point p.x (pos 0) ∷ []
implied Manhattan true p = []
implied Octangular true p = []
implied General true p = []
implied Changing true p = []

-- no element, or one
abbrev pub listed : Option Point → List Point
listed (Some p) = p ∷ []
listed None = []

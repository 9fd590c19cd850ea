-- Fields, one by one.
use Rattle.std.proofs.Common.{◌≡◌, ℕ, ◌+◌, ◌<◌, ◌≤◌, List, [], ◌∷◌, ◌++◌, length, min, ℤ, SFits, w64, to_z, of_z, Option, get_or, take, drop, sym, refl, ap, ◌∙◌, arith, length-append, take-append-drop}
use Rattle.std.specs.List.{flat_map, sum_by}
use Rattle.std.specs.Fmt.{signed_decimal}
use Rattle.std.proofs.lemmas.Int.{to_z-of_z}
use Rattle.std.proofs.lemmas.List.{append-nil, append_assoc, take_more, flat_map_more}
use Rattle.std.proofs.lemmas.List.Concat.{flat_map-append}
use Rattle.std.proofs.lemmas.List.Sums.{sum_by-le-sum_by}
use Rattle.std.proofs.lemmas.List.Recursion.{is_sum_by, same_from_clauses}
use Rattle.bounds.specs.declared.point.Point.{Point}
use Rattle.items.specs.Things.{Thing}
use Rattle.listing.specs.declared.field.Field.{Field}
use Rattle.listing.specs.Lines.{space, line_feed, letter_of, spaced, coordinates, fields_of, line_of}
use Rattle.listing.specs.Parts.{written, most}

-- fields behind other fields
pub spaced-append : (a b : List (List ℕ)) → spaced (a ++ b) ≡ spaced a ++ spaced b
spaced-append [] b = refl
spaced-append (f ∷ a) b = ap (λ z. space ∷ (f ++ z)) (spaced-append a b) ∙ ap (λ z. space ∷ z) (sym (append_assoc f (spaced a) (spaced b)))

-- one field
pub one_field : (f : List ℕ) → space ∷ f ≡ spaced (f ∷ [])
one_field f = ap (λ b. space ∷ b) (sym (append-nil f))

-- one coordinate
pub one_coordinate : (z : ℤ) → SFits w64 z → space ∷ signed_decimal (to_z w64 (of_z w64 z)) ≡ spaced (signed_decimal z ∷ [])
one_coordinate z h = ap (λ k. space ∷ signed_decimal k) (to_z-of_z w64 z h) ∙ one_field (signed_decimal z)

-- the two coordinates of a point
pub one_point : (p : Point) → SFits w64 p.x → SFits w64 p.y
    → spaced (signed_decimal (to_z w64 (of_z w64 p.x)) ∷ []) ++ spaced (signed_decimal (to_z w64 (of_z w64 p.y)) ∷ []) ≡ spaced (coordinates (p ∷ []))
one_point p x y =
    ap (λ z. spaced (signed_decimal z ∷ []) ++ spaced (signed_decimal (to_z w64 (of_z w64 p.y)) ∷ [])) (to_z-of_z w64 p.x x)
    ∙ ap (λ z. spaced (signed_decimal p.x ∷ []) ++ spaced (signed_decimal z ∷ [])) (to_z-of_z w64 p.y y)
    ∙ sym (spaced-append (signed_decimal p.x ∷ []) (signed_decimal p.y ∷ []))

-- fields that come one by one
module _ {X : Type 0} (w : X → List (List ℕ)) (xs : List X) (i : ℕ) (d : X) (h : i < length xs) where
  pub fields_more : spaced (flat_map w (take (i + 1) xs)) ≡ spaced (flat_map w (take i xs)) ++ spaced (w (get_or xs i d))
  fields_more =
      ap (λ ys. spaced (flat_map w ys)) (take_more xs i d h)
      ∙ ap spaced (sym (flat_map_more w [] (take i xs) (get_or xs i d)))
      ∙ spaced-append (flat_map w (take i xs)) (w (get_or xs i d))

  pub fields_room : length (spaced (flat_map w (take i xs))) + length (spaced (w (get_or xs i d))) ≤ length (spaced (flat_map w xs))
  fields_room =
      let e : spaced (flat_map w xs) ≡ spaced (flat_map w (take (i + 1) xs)) ++ spaced (flat_map w (drop (i + 1) xs)) =
      ap (λ ys. spaced (flat_map w ys)) (sym (take-append-drop (i + 1) xs))
      ∙ ap spaced (flat_map-append w (take (i + 1) xs) (drop (i + 1) xs))
      ∙ spaced-append (flat_map w (take (i + 1) xs)) (flat_map w (drop (i + 1) xs)) in
      omega (arith, simp length-append at (ap length e), simp length-append at (ap length fields_more))

-- a point is two fields
abbrev pub point_fields : Point → List (List ℕ)
point_fields p = coordinates (p ∷ [])

pub points_are : (ps : List Point) → flat_map point_fields ps ≡ coordinates ps
points_are ps =
    same_from_clauses (flat_map point_fields) coordinates (λ p l. point_fields p ++ l) refl (λ _ _. refl) (λ _ _. refl) ps

-- how many bytes a point takes
abbrev pub point_size : Point → ℕ
point_size p = length (signed_decimal p.x) + length (signed_decimal p.y) + 2

pub points_length : (ps : List Point) → length (spaced (coordinates ps)) ≡ sum_by point_size ps
points_length ps = is_sum_by (λ qs. length (spaced (coordinates qs))) point_size refl (λ q qs. simp length-append (omega arith)) ps

-- how many bytes a field takes
abbrev pub size_of : Option Field → ℕ
size_of f = length (spaced (written f))

pub fields_length : (fs : List (Option Field)) → length (spaced (flat_map written fs)) ≡ sum_by size_of fs
fields_length fs =
    is_sum_by (λ gs. length (spaced (flat_map written gs))) size_of refl
    (λ g gs. ap length (spaced-append (written g) (flat_map written gs)) ∙ length-append (spaced (written g)) (spaced (flat_map written gs))) fs

-- and at most
abbrev pub size_within : Option Field → ℕ
size_within f = min (size_of f) (most f)

pub fields_most : (fs : List (Option Field)) → sum_by size_within fs ≤ sum_by most fs
fields_most fs = sum_by-le-sum_by size_within most fs (λ f. omega arith)

-- a line is its letter, its fields and a line feed
pub line-length : (t : Thing) → length (line_of t) ≡ length (spaced (fields_of t)) + 2
unfolding line_of
line-length t = simp length-append (omega arith)

-- the line, with its parts one behind the other
pub line_parts : (t : Thing) → ((letter_of t ∷ []) ++ spaced (fields_of t)) ++ (line_feed ∷ []) ≡ line_of t
unfolding line_of
line_parts t = refl

-- Every vertex of every copy is in reach just where the sums of the two boxes are.
use Rattle.std.proofs.Common.{◌≡◌, ℕ, true, leb, List, [], ◌∷◌, ◌++◌, map, pos, ◌+ℤ◌, ◌-ℤ◌, neg_ℤ, nat_abs, Decides, refl, arith}
use Rattle.std.specs.List.{AllByRecursion as Every}
use Rattle.std.proofs.ByRecursion.{All-append, All-map, All-weaker, Decides-by_and}
use Rattle.std.proofs.lemmas.Int.{ints}
use Rattle.std.proofs.lemmas.Bool.{and_parts, and_from, leb-true, le-leb}
use Rattle.std.proofs.lemmas.Bool.Decides.{same_from_decides}
use Rattle.bounds.specs.declared.point.Point.{Point}
use Rattle.bounds.specs.declared.bounds.Bounds.{Bounds}
use Rattle.bounds.specs.Points.{reach, sum, Near, within, all_within, Rooted, places}
use Rattle.bounds.specs.Boxes.{nothing, bounds_of, low_of, high_of, boxes_fit}
use Rattle.bounds.proofs.Frames.{Inside, Holds, folded_out, bounds_out, bounds_in}

-- the test of a point tells whether it is near
pub within_near : (n : ℕ) (p : Point) → within n p ≡ true → Near n p
within_near n p e = let h = and_parts (leb (nat_abs p.x) n) (leb (nat_abs p.y) n) e in record { x = leb-true _ _ h.0; y = leb-true _ _ h.1 }

pub near_within : (n : ℕ) (p : Point) → Near n p → within n p ≡ true
near_within n p h = and_from (leb (nat_abs p.x) n) (leb (nat_abs p.y) n) (le-leb _ _ h.x) (le-leb _ _ h.y)

-- and the test of a list whether all are
pub all_within_lem : (n : ℕ) (ps : List Point) → Decides (all_within n ps) (Every (Near n) ps)
all_within_lem n ps = Decides-by_and (within n) (Near n) (all_within n) (λ p. (within_near n p, near_within n p)) refl (λ _ _. refl) ps

-- the points within n of the origin on each axis
abbrev pub square : ℕ → Bounds
square n = record { left = neg_ℤ (pos n); right = pos n; bottom = neg_ℤ (pos n); top = pos n }

pub near_inside : (n : ℕ) (p : Point) → Near n p → Inside (square n) p
near_inside n p h =
    record {
      left = omega (arith, ints, h.x);
      right = omega (arith, ints, h.x);
      bottom = omega (arith, ints, h.y);
      top = omega (arith, ints, h.y);
    }

pub inside_near : (n : ℕ) (p : Point) → Inside (square n) p → Near n p
inside_near n p h = record { x = omega (arith, ints, h.left, h.right); y = omega (arith, ints, h.bottom, h.top) }

-- two boxes added up at a point
abbrev together : Point → Bounds → Bounds → Bounds
together p b c =
    record {
      left = p.x +ℤ b.left +ℤ c.left;
      right = p.x +ℤ b.right +ℤ c.right;
      bottom = p.y +ℤ b.bottom +ℤ c.bottom;
      top = p.y +ℤ b.top +ℤ c.top;
    }

-- the frame of the points which, moved by p, are in f
abbrev back : Bounds → Point → Bounds
back f p = record { left = f.left -ℤ p.x; right = f.right -ℤ p.x; bottom = f.bottom -ℤ p.y; top = f.top -ℤ p.y }

-- the frame of the points at which the box b is in f
abbrev less : Bounds → Bounds → Bounds
less f b = record { left = f.left -ℤ b.left; right = f.right -ℤ b.right; bottom = f.bottom -ℤ b.bottom; top = f.top -ℤ b.top }

module _ (f : Bounds) (p : Point) where
  one_out : (o v : Point) → Inside (back f (sum p o)) v → Inside f (sum (sum p o) v)
  one_out o v h = record { left = omega (arith, ints, h.left); right = omega (arith, ints, h.right); bottom = omega (arith, ints, h.bottom); top = omega (arith, ints, h.top) }

  one_in : (o v : Point) → Inside f (sum (sum p o) v) → Inside (back f (sum p o)) v
  one_in o v h = record { left = omega (arith, ints, h.left); right = omega (arith, ints, h.right); bottom = omega (arith, ints, h.bottom); top = omega (arith, ints, h.top) }

  turn : (b : Bounds) (o : Point) → Inside (less (back f p) b) o → Holds (back f (sum p o)) b
  turn b o h = record { left = omega (arith, ints, h.left); right = omega (arith, ints, h.right); bottom = omega (arith, ints, h.bottom); top = omega (arith, ints, h.top) }

  turned : (b : Bounds) (o : Point) → Holds (back f (sum p o)) b → Inside (less (back f p) b) o
  turned b o h = record { left = omega (arith, ints, h.left); right = omega (arith, ints, h.right); bottom = omega (arith, ints, h.bottom); top = omega (arith, ints, h.top) }

  join : (d b : Bounds) → Holds (less (back f p) b) d → Holds f (together p d b)
  join d b h = record { left = omega (arith, ints, h.left); right = omega (arith, ints, h.right); bottom = omega (arith, ints, h.bottom); top = omega (arith, ints, h.top) }

  part : (d b : Bounds) → Holds f (together p d b) → Holds (less (back f p) b) d
  part d b h = record { left = omega (arith, ints, h.left); right = omega (arith, ints, h.right); bottom = omega (arith, ints, h.bottom); top = omega (arith, ints, h.top) }

-- each vertex of each copy
abbrev Each : (Point → Type 0) → Point → List Point → List Point → Type 0
Each P p os vs = Every (λ o. Every (λ v. P (sum (sum p o) v)) vs) os

each_out : (P : Point → Type 0) (p : Point) (os vs : List Point) → Each P p os vs → Every P (places p os vs)
each_out P p [] vs a = tt
each_out P p (o ∷ os) vs a =
    All-append P (map (λ v. sum (sum p o) v) vs) (places p os vs) (All-map P (λ v. sum (sum p o) v) vs a.0) (each_out P p os vs a.1)

-- the two parts of a list
pub all_parts : (P : Point → Type 0) (xs ys : List Point) → Every P (xs ++ ys) → Every P xs × Every P ys
all_parts P [] ys a = (tt, a)
all_parts P (x ∷ xs) ys a = let r = all_parts P xs ys a.1 in ((a.0, r.0), r.1)

mapped : (P : Point → Type 0) (g : Point → Point) (vs : List Point) → Every P (map g vs) → Every (λ v. P (g v)) vs
mapped P g [] a = tt
mapped P g (v ∷ vs) a = (a.0, mapped P g vs a.1)

each_in : (P : Point → Type 0) (p : Point) (os vs : List Point) → Every P (places p os vs) → Each P p os vs
each_in P p [] vs a = tt
each_in P p (o ∷ os) vs a =
    let r = all_parts P (map (λ v. sum (sum p o) v) vs) (places p os vs) a in
    (mapped P (λ v. sum (sum p o) v) vs r.0, each_in P p os vs r.1)

-- boxes in a frame, and all vertices of all copies in it
boxes_out : (f : Bounds) (p : Point) (os vs : List Point) → Holds f (together p (bounds_of os) (bounds_of vs)) → Each (Inside f) p os vs
boxes_out f p os vs h =
    All-weaker (Inside (less (back f p) (bounds_of vs))) (λ o. Every (λ v. Inside f (sum (sum p o) v)) vs)
    (λ o i. All-weaker (Inside (back f (sum p o))) (λ v. Inside f (sum (sum p o) v)) (one_out f p o) vs (bounds_out (back f (sum p o)) vs (turn f p (bounds_of vs) o i)))
    os (bounds_out (less (back f p) (bounds_of vs)) os (part f p (bounds_of os) (bounds_of vs) h))

boxes_in : (f : Bounds) (p : Point) (os vs : List Point) → Rooted os → Rooted vs → Each (Inside f) p os vs → Holds f (together p (bounds_of os) (bounds_of vs))
boxes_in f p os vs ro rv a =
    join f p (bounds_of os) (bounds_of vs)
    (bounds_in (less (back f p) (bounds_of vs)) os ro
    (All-weaker (λ o. Every (λ v. Inside f (sum (sum p o) v)) vs) (Inside (less (back f p) (bounds_of vs)))
    (λ o i. turned f p (bounds_of vs) o (bounds_in (back f (sum p o)) vs rv (All-weaker (λ v. Inside f (sum (sum p o) v)) (Inside (back f (sum p o))) (one_in f p o) vs i)))
    os a))

-- a box around the origin has it inside
pub bounds_origin : (ps : List Point) → Holds (bounds_of ps) nothing
bounds_origin ps =
    (folded_out (bounds_of ps) nothing ps
    (record { left = omega (arith, ints); right = omega (arith, ints); bottom = omega (arith, ints); top = omega (arith, ints) })
    ).0

-- the test of two boxes tells whether their sum is in reach
boxes_hold : (p : Point) (c s : Bounds) → boxes_fit p c s ≡ true → Holds (square reach) (together p c s)
boxes_hold p c s e =
    let h = (and_parts (within reach p) _ e).1 in
    let q = and_parts (within reach (sum (sum p (low_of c)) (low_of s))) (within reach (sum (sum p (high_of c)) (high_of s))) h in
    let l = within_near reach (sum (sum p (low_of c)) (low_of s)) q.0 in
    let u = within_near reach (sum (sum p (high_of c)) (high_of s)) q.1 in
    record {
      left = omega (arith, ints, l.x);
      right = omega (arith, ints, u.x);
      bottom = omega (arith, ints, l.y);
      top = omega (arith, ints, u.y);
    }

hold_boxes : (p : Point) (c s : Bounds) → Holds c nothing → Holds s nothing → Holds (square reach) (together p c s) → boxes_fit p c s ≡ true
hold_boxes p c s a b h =
    and_from (within reach p) _
    (near_within reach p (record { x = omega (arith, ints, a.left, a.right, b.left, b.right, h.left, h.right); y = omega (arith, ints, a.bottom, a.top, b.bottom, b.top, h.bottom, h.top) }))
    (and_from (within reach (sum (sum p (low_of c)) (low_of s))) (within reach (sum (sum p (high_of c)) (high_of s)))
    (near_within reach (sum (sum p (low_of c)) (low_of s)) (record { x = omega (arith, ints, a.left, a.right, b.left, b.right, h.left, h.right); y = omega (arith, ints, a.bottom, a.top, b.bottom, b.top, h.bottom, h.top) }))
    (near_within reach (sum (sum p (high_of c)) (high_of s)) (record { x = omega (arith, ints, a.left, a.right, b.left, b.right, h.left, h.right); y = omega (arith, ints, a.bottom, a.top, b.bottom, b.top, h.bottom, h.top) })))

-- the reach law: the boxes tell of all vertices of all copies
pub boxes_tell : (p : Point) (os vs : List Point) → Rooted os → Rooted vs → boxes_fit p (bounds_of os) (bounds_of vs) ≡ all_within reach (places p os vs)
boxes_tell p os vs ro rv =
    let near = all_within_lem reach (places p os vs) in
    same_from_decides {P = Every (Near reach) (places p os vs)} (boxes_fit p (bounds_of os) (bounds_of vs)) (all_within reach (places p os vs)) (
      (λ e. All-weaker (Inside (square reach)) (Near reach) (inside_near reach) (places p os vs) (each_out (Inside (square reach)) p os vs (boxes_out (square reach) p os vs (boxes_hold p (bounds_of os) (bounds_of vs) e)))),
      (λ a. hold_boxes p (bounds_of os) (bounds_of vs) (bounds_origin os) (bounds_origin vs)
          (boxes_in (square reach) p os vs ro rv (each_in (Inside (square reach)) p os vs (All-weaker (Near reach) (Inside (square reach)) (near_inside reach) (places p os vs) a)))),
    )
    near

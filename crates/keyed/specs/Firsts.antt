-- The elements of a list that come first of their like, in order.
use Rattle.std.specs.Prelude.{Bool, not, List, [], ◌∷◌, filter}
use Rattle.std.specs.List.{AllByRecursion as Every}

module _ {X : Type 0} where
  -- each element that no earlier one is like
  abbrev pub firsts : (X → X → Bool) → List X → List X
  firsts like [] = []
  firsts like (x ∷ xs) = x ∷ filter (λ y. not (like x y)) (firsts like xs)

  -- each two elements, the earlier first
  abbrev pub EachTwo : (X → X → Type 0) → List X → Type 0
  EachTwo R [] = Unit {0}
  EachTwo R (x ∷ xs) = Every (R x) xs × EachTwo R xs

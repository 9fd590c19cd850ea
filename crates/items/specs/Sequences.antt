-- In which order items come.
use Rattle.std.specs.Prelude.{◌≡◌, List, [], ◌∷◌, ◌++◌, is_some, Some, None, Decides, fold, Option}
use Rattle.tokens.specs.Laws.{Exactly}
use Rattle.items.specs.declared.stage.Stage.{Stage}
use Rattle.items.specs.declared.stage.Stage.TheVariants.{Before, Top, Cell, Ended}
use Rattle.items.specs.Lists.{Any}
use Rattle.items.specs.Things.{Thing, a_start, a_cell, a_placement, a_text, a_rectangle, a_polygon, a_path, an_end}

-- the kinds of items that the order tells apart
pub data Kind : Type 0 where
  starting : Kind
  naming : Kind
  element : Kind
  ending : Kind

abbrev pub kind_of : Thing → Kind
kind_of (a_start u) = starting
kind_of (a_cell n) = naming
kind_of (a_placement n p a f) = element
kind_of (a_text l t p s) = element
kind_of (a_rectangle l d w h p) = element
kind_of (a_polygon l d vs) = element
kind_of (a_path l d h s e vs) = element
kind_of an_end = ending

-- an item of the kind is among these
abbrev pub Seen : Kind → List Thing → Type 0
Seen k ts = Any (λ t. kind_of t ≡ k) ts

-- an item may come after those before it
pub record InPlace (before : List Thing) (t : Thing) : Type 0 where
  -- the first is a start
  pub first : before ≡ [] → kind_of t ≡ starting
  -- and no other is
  pub once : kind_of t ≡ starting → before ≡ []
  -- an element comes after a cell
  pub inside : kind_of t ≡ element → Seen naming before
  -- nothing comes after an end
  pub unended : Seen ending before → ⊥

-- each item of a sequence may come after those before it
abbrev pub InSequence : List Thing → Type 0
InSequence ts = (before : List Thing) (t : Thing) (after : List Thing) → ts ≡ before ++ (t ∷ after) → InPlace before t

-- the last item is an end
abbrev pub Ends : List Thing → Type 0
Ends ts = (before : List Thing) × (ts ≡ before ++ (an_end ∷ []))

-- a sequence with its end
pub record Whole (ts : List Thing) : Type 0 where
  pub order : InSequence ts
  pub ended : Ends ts

-- items that others can follow so that all are a whole sequence
abbrev pub Beginning : List Thing → Type 0
Beginning ts = (rest : List Thing) × Whole (ts ++ rest)

-- the stage after an item of the kind, or none where it may not come
abbrev pub next : Stage → Kind → Option Stage
next Before starting = Some Top
next Before naming = None
next Before element = None
next Before ending = None
next Top starting = None
next Top naming = Some Cell
next Top element = None
next Top ending = Some Ended
next Cell starting = None
next Cell naming = Some Cell
next Cell element = Some Cell
next Cell ending = Some Ended
next Ended starting = None
next Ended naming = None
next Ended element = None
next Ended ending = None

abbrev pub following : Stage → Thing → Option Stage
following s t = next s (kind_of t)

-- the same, where an earlier item may have been refused
abbrev pub onward : Option Stage → Thing → Option Stage
onward None t = None
onward (Some s) t = following s t

-- the stage after these items from the very beginning, or none where one of them may not come
abbrev pub stage_at : List Thing → Option Stage
stage_at ts = fold onward (Some Before) ts

-- no stage refuses an item exactly where the items are in sequence
abbrev pub StagesTell : Type 0
StagesTell = (ts : List Thing) → Decides (is_some (stage_at ts)) (InSequence ts)

-- and that is exactly where they are the beginning of a whole sequence
abbrev pub StagesBegin : Type 0
StagesBegin = (ts : List Thing) → Decides (is_some (stage_at ts)) (Beginning ts)

-- the stage is the last one exactly where the sequence is whole
abbrev pub StagesEnd : Type 0
StagesEnd = (ts : List Thing) → Exactly (stage_at ts ≡ Some Ended) (Whole ts)

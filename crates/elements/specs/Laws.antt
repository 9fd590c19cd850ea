-- What is proved of the records of elements.
use Rattle.std.specs.Prelude.{ℕ, suc, List}
use Rattle.tokens.specs.Answers.{Answer}
use Rattle.fields.specs.declared.variables.Modals.{Modals}
use Rattle.fields.specs.Laws.{Onward}
use Rattle.elements.specs.declared.element.Drawn.{Drawn}
use Rattle.elements.specs.Elements.{placement, text, rectangle, polygon, path}

-- a reader of an element takes at least one byte, and stays in the file
abbrev pub GoesOn : (List ℕ → (at first : ℕ) → Modals → Answer Drawn) → Type 0
GoesOn reader = (file : List ℕ) (at first : ℕ) (m : Modals) → Onward file (suc at) (reader file at first m)

-- so do all of them
abbrev pub ElementsGoOn : Type 0
ElementsGoOn = GoesOn placement × GoesOn text × GoesOn rectangle × GoesOn polygon × GoesOn path

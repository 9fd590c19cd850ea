-- What is proved of the records of a run.
use Rattle.std.specs.Prelude.{◌≡◌, ℕ, List}
use Rattle.std.specs.List.{AllByRecursion as Every}
use Rattle.tokens.specs.Answers.{Answer, got}
use Rattle.fields.specs.declared.variables.Modals.{Modals}
use Rattle.elements.specs.declared.element.Drawn.{Drawn}
use Rattle.elements.specs.Elements.{placement, text, rectangle, polygon, path}
use Rattle.runs.specs.Laws.{records_of}
use Rattle.runs.specs.Runs.{run}
use Rattle.legality.specs.Legal.{LegalElement, Kept, LegalRecord}

-- a reader of an element gives a legal one from legal variables, and leaves legal variables
abbrev pub DrawsLegally : (List ℕ → (at first : ℕ) → Modals → Answer Drawn) → Type 0
DrawsLegally reader =
    (file : List ℕ) (at first n : ℕ) (m : Modals) (d : Drawn) → Kept file m → got d n ≡ reader file at first m → LegalElement file d.element × Kept file d.modals

-- so do all of them
abbrev pub ElementsLegal : Type 0
ElementsLegal = DrawsLegally placement × DrawsLegally text × DrawsLegally rectangle × DrawsLegally polygon × DrawsLegally path

-- each record of the run of a file is legal
abbrev pub RunLegal : Type 0
RunLegal = (file : List ℕ) → Every (λ r. LegalRecord file r.content) (records_of (run file))

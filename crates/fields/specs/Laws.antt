-- What is proved of fields.
use Rattle.std.specs.Prelude.{ℕ, List}
use Rattle.tokens.specs.Answers.{Answer}
use Rattle.tokens.specs.Readers.{Made}

-- a value comes with a place in the file, at `least` or after it
abbrev pub Onward : {A : Type 0} → List ℕ → (least : ℕ) → Answer A → Type 0
Onward file least r = Made file least r (λ v n. Unit {0})

-- Parts of a file: where they stand, their bytes, and the one that holds the text of a string.
use Rattle.std.specs.Prelude.{◌≡◌, ℕ, ◌+◌, ◌-◌, ◌<◌, ◌≤◌, true, List, length}
use Rattle.std.specs.List.{between}
use Rattle.tokens.specs.declared.part.Part.{Part}
use Rattle.tokens.specs.declared.text.StringRule.{StringRule}
use Rattle.tokens.specs.Answers.{Answer, got, then}
use Rattle.tokens.specs.Chains.{largest}
use Rattle.tokens.specs.Encodings.{shortest}
use Rattle.tokens.specs.Texts.{obeys, text}

-- the bytes of a part of the file, as far as they stand in it
abbrev pub bytes_in : List ℕ → Part → List ℕ
bytes_in file p = between p.place (p.place + p.size) file

-- the text of the string at the place `at`, as a part of the file
abbrev pub part : StringRule → List ℕ → ℕ → Answer Part
part rule file at = then (text rule file at) λ t n. got (record { place = n - length t; size = length t }) n

-- the part of the file where the text of a string stands, behind its length, which stands at the place `at`
abbrev pub text_part : (at : ℕ) → List ℕ → Part
text_part at t = record { place = at + length (shortest (length t)); size = length t }

-- what holds of a part that was read at the place `at`, where n is the place after it
pub record Placed (rule : StringRule) (file : List ℕ) (at : ℕ) (p : Part) (n : ℕ) : Type 0 where
  pub after : at < p.place
  pub ends : p.place + p.size ≡ n
  pub short : p.size ≤ largest
  pub legal : obeys rule (bytes_in file p) ≡ true

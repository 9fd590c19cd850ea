-- What is proved of name records, in the subject's words.
use Rattle.std.specs.Prelude.{◌≡◌, ℕ, suc, ◌+◌, ◌≤◌, Bool, true, false, List, [], ◌++◌, Some, None, Option}
use Rattle.tokens.specs.declared.text.StringRule.{StringRule}
use Rattle.tokens.specs.Chains.{largest}
use Rattle.tokens.specs.Encodings.{shortest, text_bytes, FitsText}
use Rattle.tokens.specs.Parts.{bytes_in, text_part}
use Rattle.tokens.specs.Readers.{Made, Back, Local}
use Rattle.tokens.specs.Texts.{obeys}
use Rattle.names.specs.declared.read.NameFields.{NameFields}
use Rattle.names.specs.Fields.{name_fields}

-- the name that these fields mean: a part of the file
abbrev pub name_of : List ℕ → NameFields → List ℕ
name_of file f = bytes_in file f.part

-- a number that a record has exactly where it gives one, and that a file can hold
abbrev pub Numbered : (given : Bool) → Option ℕ → Type 0
Numbered true (Some k) = k ≤ largest
Numbered true None = ⊥
Numbered false (Some k) = ⊥
Numbered false None = Unit {0}

-- what holds of fields that were read at the place `at`, where n is the place after them
pub record Sound (rule : StringRule) (given : Bool) (file : List ℕ) (at : ℕ) (f : NameFields) (n : ℕ) : Type 0 where
  pub after : suc at ≤ f.part.place
  pub inside : f.part.place + f.part.size ≤ n
  pub legal : obeys rule (name_of file f) ≡ true
  pub short : f.part.size ≤ largest
  pub number : Numbered given f.number

-- a name record's fields take at least one byte; the name is a part of what they take, and obeys the rule
abbrev pub NameMade : Type 0
NameMade = (rule : StringRule) (given : Bool) (file : List ℕ) (at : ℕ) → Made file (suc at) (name_fields rule given file at) (Sound rule given file at)

-- they are read from no other bytes
abbrev pub NameLocal : Type 0
NameLocal = (rule : StringRule) (given : Bool) → Local (name_fields rule given)

-- the bytes of a number, where one is given
abbrev pub number_bytes : Option ℕ → List ℕ
number_bytes (Some k) = shortest k
number_bytes None = []

-- the fields of a record for the name t, at the place `at`
abbrev pub fields_of : ℕ → List ℕ → Option ℕ → NameFields
fields_of at t number = record { part = text_part at t; number = number }

-- the bytes of a name and of its number are read again
abbrev pub NameBack : Type 0
NameBack =
    (rule : StringRule) (given : Bool) (file : List ℕ) (at : ℕ) (t : List ℕ) (number : Option ℕ) →
    FitsText rule t → Numbered given number → Back file at (text_bytes t ++ number_bytes number) (name_fields rule given file at) (fields_of at t number)

-- Names and texts in records: strings, or reference numbers.
use Rattle.std.specs.Prelude.{ℕ, List, Option}
use Rattle.tokens.specs.declared.text.StringRule.{StringRule}
use Rattle.tokens.specs.Answers.{Answer, got, then}
use Rattle.tokens.specs.Chains.{unsigned}
use Rattle.tokens.specs.Parts.{part}
use Rattle.fields.specs.declared.reference.Form.{Form}
use Rattle.fields.specs.declared.reference.Form.TheVariants.{Absent, ByString, ByNumber}
use Rattle.fields.specs.declared.reference.Reference.{Reference}
use Rattle.fields.specs.declared.reference.Reference.TheVariants.{Given, Number}
use Rattle.fields.specs.Numbers.{inherited}

-- a string
abbrev pub string_at : StringRule → List ℕ → ℕ → Answer Reference
string_at rule file at = then (part rule file at) λ p n. got (Given p) n

-- a reference number
abbrev pub number_at : List ℕ → ℕ → Answer Reference
number_at file at = then (unsigned file at) λ k n. got (Number (record { number = k; place = at })) n

-- a name or a text in one of its forms
abbrev pub reference : StringRule → List ℕ → (at first : ℕ) → Form → Option Reference → Answer Reference
reference rule file at first Absent v = inherited at first v
reference rule file at first ByString v = string_at rule file at
reference rule file at first ByNumber v = number_at file at

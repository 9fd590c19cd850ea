-- The fields of a name record.
use Rattle.std.specs.Prelude.{ℕ, Bool, cond, List, Some, None, Option}
use Rattle.tokens.specs.declared.text.StringRule.{StringRule}
use Rattle.tokens.specs.Answers.{Answer, got, then}
use Rattle.tokens.specs.Chains.{unsigned}
use Rattle.tokens.specs.Parts.{part}
use Rattle.names.specs.declared.read.NameFields.{NameFields}

-- a number, where one is given
abbrev pub number_at : (given : Bool) → List ℕ → ℕ → Answer (Option ℕ)
number_at given file at = cond given (then (unsigned file at) λ k n. got (Some k) n) (got None at)

-- a string with its rule, and then a number where one is given; of the name the part of the file where it stands
abbrev pub name_fields : StringRule → (given : Bool) → List ℕ → ℕ → Answer NameFields
name_fields rule given file at =
    then (part rule file at) λ p n.
    then (number_at given file n) λ k m. got (record { part = p; number = k }) m

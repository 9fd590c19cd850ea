-- A line in fields.
use Rattle.std.specs.Prelude.{ℕ, ◌+◌, ◌*◌, List, [], ◌∷◌, length, decimal, Some, None, Option}
use Rattle.std.specs.Fmt.{signed_decimal}
use Rattle.listing.specs.declared.field.Field.{Field}
use Rattle.listing.specs.declared.field.Field.TheVariants.{Unsigned, Signed, Text, Points}
use Rattle.listing.specs.Lines.{coordinates}

-- what stands at one place of a line, if anything does
abbrev pub written : Option Field → List (List ℕ)
written None = []
written (Some (Unsigned n)) = decimal n ∷ []
written (Some (Signed z)) = signed_decimal z ∷ []
written (Some (Text s)) = s.now ∷ []
written (Some (Points ps)) = coordinates ps.now

-- how many bytes that is at most, with spaces
abbrev pub most : Option Field → ℕ
most None = 0
most (Some (Unsigned n)) = 21
most (Some (Signed z)) = 22
most (Some (Text s)) = length s.now + 1
most (Some (Points ps)) = 44 * length ps.now

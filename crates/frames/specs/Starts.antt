-- START: the version, the unit, a switch, and the table offsets where the switch is off.
use Rattle.std.specs.Prelude.{ℕ, cond, not, List, [], ◌∷◌}
use Rattle.std.specs.Str.{bytes_eq}
use Rattle.tokens.specs.declared.fault.FaultKind.TheVariants.{Version}
use Rattle.tokens.specs.declared.text.StringRule.TheVariants.{Binary}
use Rattle.tokens.specs.Answers.{Answer, got, fault, then}
use Rattle.tokens.specs.Texts.{text}
use Rattle.tokens.specs.Units.{unit}
use Rattle.frames.specs.declared.start.Start.{Start}
use Rattle.frames.specs.Tables.{switch, tables_where}

-- the version that is read, "1.0"
abbrev pub version : List ℕ
version = 0x31 ∷ 0x2e ∷ 0x30 ∷ []

-- the version at the place `at`
unfoldable pub version_at : List ℕ → ℕ → Answer (Unit {0})
version_at file at = then (text Binary file at) λ t n. cond (bytes_eq t version) (got tt n) (fault Version at)

-- the fields of START from the place `at`
unfoldable pub start : List ℕ → ℕ → Answer Start
start file at =
    then (version_at file at) λ _ n.
    then (unit file n) λ u n.
    then (switch file n) λ late n.
    then (tables_where (not late) file n) λ _ n.
    got (record { unit = u; late = late }) n

-- The info byte of an element.
use Rattle.std.specs.Prelude.{ℕ, cond, ◌&&◌, List}
use Rattle.tokens.specs.declared.fault.FaultKind.TheVariants.{Reserved}
use Rattle.tokens.specs.Answers.{Answer, got, fault, then}
use Rattle.tokens.specs.Bytes.{byte_at, flag}
use Rattle.bounds.specs.declared.point.Point.{Point}
use Rattle.fields.specs.declared.anchor.AnchorVariables.{AnchorVariables}
use Rattle.fields.specs.declared.anchor.Present.{Present}
use Rattle.fields.specs.declared.reference.Form.{Form}
use Rattle.fields.specs.declared.reference.Form.TheVariants.{Absent, ByString, ByNumber}
use Rattle.fields.specs.declared.variables.Modals.{Modals}
use Rattle.fields.specs.Numbers.{has_height, is_square}

-- an info byte with no flag of the mask, which are reserved
abbrev pub info : List ℕ → (at reserved : ℕ) → Answer ℕ
info file at reserved = then (byte_at file at) λ i n. cond (flag i reserved) (fault Reserved at) (got i n)

-- that of a rectangle, which may not be a square with a height
abbrev pub rectangle_info : List ℕ → ℕ → Answer ℕ
rectangle_info file at = then (byte_at file at) λ i n. cond (is_square i && has_height i) (fault Reserved at) (got i n)

-- a name or a text is absent without the flag that announces it; else it is a number or a string
abbrev pub form_of : (info given numbered : ℕ) → Form
form_of i given numbered = cond (flag i given) (cond (flag i numbered) ByNumber ByString) Absent

-- which of the last fields are present
abbrev pub present_of : (info x y repetition : ℕ) → Present
present_of i x y repetition = record { x = flag i x; y = flag i y; repetition = flag i repetition }

-- what they inherit, where the element before of that kind stood at p
abbrev pub following : Modals → Point → AnchorVariables
following m p = record { relative = m.relative; at = p; repetition = m.repetition }

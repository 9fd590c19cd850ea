-- Numbers in records: given, or inherited.
use Rattle.std.specs.Prelude.{ℕ, Bool, cond, List, Some, None, Option, nat_le}
use Rattle.tokens.specs.declared.fault.FaultKind.TheVariants.{Undefined, Reach}
use Rattle.tokens.specs.Answers.{Answer, got, fault, then}
use Rattle.tokens.specs.Bytes.{flag}
use Rattle.tokens.specs.Chains.{unsigned}
use Rattle.bounds.specs.Points.{reach}
use Rattle.fields.specs.declared.number.Layers.{Layers}
use Rattle.fields.specs.declared.number.Sides.{Sides}
use Rattle.fields.specs.declared.variables.LayerVariables.{LayerVariables}
use Rattle.fields.specs.declared.variables.SideVariables.{SideVariables}

-- the value of a variable, for which no byte is read, or a fault of the record whose first byte is at `first`
abbrev pub inherited : {A : Type 0} → (at first : ℕ) → Option A → Answer A
inherited at first (Some v) = got v at
inherited at first None = fault Undefined first

-- a number that is present, or inherited
abbrev pub field : List ℕ → (at first : ℕ) → (present : Bool) → Option ℕ → Answer ℕ
field file at first present v = cond present (unsigned file at) (inherited at first v)

-- a width, a height or a half-width, which is in reach
abbrev pub measure : List ℕ → (at first : ℕ) → (present : Bool) → Option ℕ → Answer ℕ
measure file at first present v = then (field file at first present v) λ w n. cond (nat_le w reach) (got w n) (fault Reach at)

-- the flags of an info byte that announce a layer, a datatype, a height, a width, and that say that a rectangle is a square
abbrev pub has_layer : ℕ → Bool
has_layer info = flag info 0x01

abbrev pub has_datatype : ℕ → Bool
has_datatype info = flag info 0x02

abbrev pub has_height : ℕ → Bool
has_height info = flag info 0x20

abbrev pub has_width : ℕ → Bool
has_width info = flag info 0x40

abbrev pub is_square : ℕ → Bool
is_square info = flag info 0x80

-- the layer, then the datatype
abbrev pub layers : List ℕ → (at first info : ℕ) → LayerVariables → Answer Layers
layers file at first info v =
    then (field file at first (has_layer info) v.layer) λ l n.
    then (field file n first (has_datatype info) v.datatype) λ d m. got (record { layer = l; datatype = d }) m

-- the width, then the height, which of a square is the width
abbrev pub sides : List ℕ → (at first info : ℕ) → SideVariables → Answer Sides
sides file at first info v =
    then (measure file at first (has_width info) v.width) λ w n.
    then (cond (is_square info) (got w n) (measure file n first (has_height info) v.height)) λ h m. got (record { width = w; height = h }) m

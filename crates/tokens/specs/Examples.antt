-- Worked examples, each read from the first byte of a file.
use Rattle.std.specs.Prelude.{◌≡◌, ℕ, List, [], ◌∷◌, ℤ, pos, negsuc}
use Rattle.std.specs.List.{AllByRecursion as Every}
use Rattle.tokens.specs.declared.fault.FaultKind.TheVariants.{Cut, Wide, BadString, BadUnit}
use Rattle.tokens.specs.declared.part.Part.{Part}
use Rattle.tokens.specs.declared.text.StringRule.TheVariants.{Name, Ascii}
use Rattle.tokens.specs.declared.text.StringRule.{StringRule}
use Rattle.tokens.specs.Answers.{Answer, got, fault}
use Rattle.tokens.specs.Chains.{largest, unsigned}
use Rattle.tokens.specs.Deltas.{signed, two_delta, three_delta, g_delta}
use Rattle.tokens.specs.Parts.{part}
use Rattle.tokens.specs.Texts.{text}
use Rattle.tokens.specs.Units.{unit}

-- these bytes, read so, answer this
pub data Case : Type 0 where
  integer : List ℕ → Answer ℕ → Case
  signed_integer : List ℕ → Answer ℤ → Case
  a_two_delta : List ℕ → Answer (ℤ × ℤ) → Case
  a_three_delta : List ℕ → Answer (ℤ × ℤ) → Case
  a_g_delta : List ℕ → Answer (ℤ × ℤ) → Case
  string : StringRule → List ℕ → Answer (List ℕ) → Case
  a_part : StringRule → List ℕ → Answer Part → Case
  a_unit : List ℕ → Answer ℕ → Case

-- it does
abbrev pub Holds : Case → Type 0
Holds (integer file r) = unsigned file 0 ≡ r
Holds (signed_integer file r) = signed file 0 ≡ r
Holds (a_two_delta file r) = two_delta file 0 ≡ r
Holds (a_three_delta file r) = three_delta file 0 ≡ r
Holds (a_g_delta file r) = g_delta file 0 ≡ r
Holds (string rule file r) = text rule file 0 ≡ r
Holds (a_part rule file r) = part rule file 0 ≡ r
Holds (a_unit file r) = unit file 0 ≡ r

-- the examples
abbrev pub table : List Case
table =
    integer (0x80 ∷ 0x80 ∷ 0x01 ∷ []) (got 16384 3)
    ∷ integer (0x80 ∷ 0x00 ∷ []) (got 0 2)
    ∷ integer (0xff ∷ 0xff ∷ 0xff ∷ 0xff ∷ 0xff ∷ 0xff ∷ 0x03 ∷ []) (got largest 7)
    ∷ integer (0x80 ∷ 0x80 ∷ 0x80 ∷ 0x80 ∷ 0x80 ∷ 0x80 ∷ 0x04 ∷ []) (fault Wide 0)
    ∷ integer (0x80 ∷ 0x80 ∷ []) (fault Cut 0)
    ∷ signed_integer (0x81 ∷ 0x80 ∷ 0x01 ∷ []) (got (negsuc 8191) 3)
    ∷ a_g_delta (0xec ∷ 0x05 ∷ []) (got (negsuc 45, negsuc 45) 2)
    ∷ a_g_delta (0xbb ∷ 0x01 ∷ 0xb7 ∷ 0x0f ∷ []) (got (negsuc 45, negsuc 986) 4)
    ∷ a_g_delta (0xbb ∷ 0x01 ∷ 0xb7 ∷ []) (fault Cut 2)
    ∷ a_two_delta (0x9b ∷ 0x2a ∷ []) (got (pos 0, negsuc 1349) 2)
    ∷ a_three_delta (0xd7 ∷ 0x07 ∷ []) (got (pos 122, negsuc 121) 2)
    ∷ string Name (0x03 ∷ 0x41 ∷ 0x42 ∷ 0x43 ∷ []) (got (0x41 ∷ 0x42 ∷ 0x43 ∷ []) 4)
    ∷ string Name (0x03 ∷ 0x41 ∷ 0x42 ∷ []) (fault Cut 0)
    ∷ string Name (0x00 ∷ []) (fault BadString 0)
    ∷ string Ascii (0x00 ∷ []) (got [] 1)
    ∷ a_part Name (0x03 ∷ 0x41 ∷ 0x42 ∷ 0x43 ∷ []) (got (record { place = 1; size = 3 }) 4)
    ∷ a_part Name (0x03 ∷ 0x41 ∷ 0x42 ∷ []) (fault Cut 0)
    ∷ a_unit (0x00 ∷ 0xe8 ∷ 0x07 ∷ []) (got 1000 3)
    ∷ a_unit (0x04 ∷ 0xd0 ∷ 0x0f ∷ 0x02 ∷ []) (got 1000 4)
    ∷ a_unit (0x02 ∷ 0x02 ∷ []) (fault BadUnit 0)
    ∷ []

-- every one of them holds
abbrev pub ExamplesHold : Type 0
ExamplesHold = Every Holds table

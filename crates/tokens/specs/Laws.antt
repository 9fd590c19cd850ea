-- What is proved of the definitions, in the subject's words.
use Rattle.std.specs.Prelude.{◌≡◌, ℕ, suc, ◌+◌, ◌-◌, ◌^◌, ◌<◌, ◌≤◌, ◌⊎◌, List, [], ◌∷◌, length, take, drop, ℤ, unsigned_abs}
use Rattle.std.specs.List.{between, AllByRecursion as Every}
use Rattle.tokens.specs.declared.fault.FaultKind.TheVariants.{Cut, Wide}
use Rattle.tokens.specs.declared.fault.FaultKind.{FaultKind}
use Rattle.tokens.specs.declared.text.StringRule.{StringRule}
use Rattle.tokens.specs.Answers.{Answer, got, fault, then}
use Rattle.tokens.specs.Bytes.{byte_at}
use Rattle.tokens.specs.Chains.{largest, chain_bytes, radix, Chain, unsigned}
use Rattle.tokens.specs.Deltas.{largest_size, Sizes, signed, two_delta, three_delta, g_delta}
use Rattle.tokens.specs.Encodings.{short_bytes, byte_values, shortest, signed_bytes, FitsSigned, g_delta_bytes, FitsDelta, text_bytes, FitsText, unit_bytes, FitsUnit}
use Rattle.tokens.specs.Faults.{number_of}
use Rattle.tokens.specs.Parts.{bytes_in, part, text_part, Placed}
use Rattle.tokens.specs.Readers.{Made, Back, Local}
use Rattle.tokens.specs.Texts.{text, Stands}
use Rattle.tokens.specs.Units.{unit}

-- each of two follows from the other
abbrev pub Exactly : Type 0 → Type 0 → Type 0
Exactly P Q = (P → Q) × (Q → P)

-- no two faults have one number
abbrev pub NumbersAreDistinct : Type 0
NumbersAreDistinct = (j k : FaultKind) → number_of j ≡ number_of k → j ≡ k

-- from the place `at` to the place n of the file stands a chain for v, of at most ten bytes
pub record ChainAt (file : List ℕ) (at v n : ℕ) : Type 0 where
  pub onward : at ≤ n
  pub inside : n ≤ length file
  pub few : n - at ≤ chain_bytes
  pub bytes : Chain (between at n file) v

-- each of the bytes says that another one follows
abbrev pub Open : List ℕ → Type 0
Open bs = Every (λ b. radix ≤ b) bs

-- an integer is read only where a chain for it stands and it is not too large
abbrev pub ReadsChains : Type 0
ReadsChains = (file : List ℕ) (at v n : ℕ) → unsigned file at ≡ got v n → ChainAt file at v n × (v ≤ largest)

-- and it is read wherever one stands
abbrev pub ChainsAreRead : Type 0
ChainsAreRead = (file : List ℕ) (at v n : ℕ) → ChainAt file at v n → v ≤ largest → unsigned file at ≡ got v n

-- an integer is cut exactly where fewer than ten bytes are left, or none, and each says that another follows
abbrev pub CutsExactly : Type 0
CutsExactly = (file : List ℕ) (at : ℕ) → Exactly (unsigned file at ≡ fault Cut at) ((length file - at < chain_bytes) × Open (drop at file))

-- an integer is too wide exactly where ten bytes each say that another follows, or a chain for a greater integer stands
abbrev pub WideExactly : Type 0
WideExactly =
    (file : List ℕ) (at : ℕ) →
    Exactly (unsigned file at ≡ fault Wide at)
    (((chain_bytes ≤ length file - at) × Open (take chain_bytes (drop at file))) ⊎ ((v : ℕ) × (n : ℕ) × ChainAt file at v n × (largest < v)))

-- there is no other answer
abbrev pub NoOtherAnswer : Type 0
NoOtherAnswer =
    (file : List ℕ) (at : ℕ) →
    ((v : ℕ) × (n : ℕ) × (unsigned file at ≡ got v n)) ⊎ ((unsigned file at ≡ fault Cut at) ⊎ (unsigned file at ≡ fault Wide at))

-- what is read depends on no byte before the place or after where the reader stopped
abbrev pub ReadsNothingElse : Type 0
ReadsNothingElse =
    Local unsigned × Local signed × Local two_delta × Local three_delta × Local g_delta × Local byte_at × ((rule : StringRule) → Local (text rule)) × ((rule : StringRule) → Local (part rule)) × Local unit

-- an unsigned integer takes at least one byte of the file, and is at most the greatest
abbrev pub UnsignedMade : Type 0
UnsignedMade = (file : List ℕ) (at : ℕ) → Made file (suc at) (unsigned file at) (λ v n. v ≤ largest)

-- a signed integer takes at least one byte, and its size is at most half of that
abbrev pub SignedMade : Type 0
SignedMade = (file : List ℕ) (at : ℕ) → Made file (suc at) (signed file at) (λ z n. unsigned_abs z ≤ largest_size)

-- a displacement takes at least one byte, and so are its components
abbrev pub DeltaMade : (List ℕ → ℕ → Answer (ℤ × ℤ)) → Type 0
DeltaMade reader = (file : List ℕ) (at : ℕ) → Made file (suc at) (reader file at) (λ z n. Sizes largest_size z)

-- a byte takes one byte
abbrev pub ByteMade : Type 0
ByteMade = (file : List ℕ) (at : ℕ) → Made file (suc at) (byte_at file at) (λ b n. n ≡ at + 1)

-- a string takes at least one byte, and its text obeys the rule and stands at its end
abbrev pub TextMade : Type 0
TextMade = (rule : StringRule) (file : List ℕ) (at : ℕ) → Made file (suc at) (text rule file at) (Stands rule file at)

-- so does a part, which stands behind the string's first byte and ends where the string does, and whose bytes obey the rule
abbrev pub PartMade : Type 0
PartMade = (rule : StringRule) (file : List ℕ) (at : ℕ) → Made file (suc at) (part rule file at) (Placed rule file at)

-- the bytes of the part that is read are the text that is read
abbrev pub PartShows : Type 0
PartShows = (rule : StringRule) (file : List ℕ) (at : ℕ) → then (part rule file at) (λ p n. got (bytes_in file p) n) ≡ text rule file at

-- a unit takes at least one byte, and is one that a file can hold
abbrev pub UnitMade : Type 0
UnitMade = (file : List ℕ) (at : ℕ) → Made file (suc at) (unit file at) (λ v n. FitsUnit v)

-- the shortest chain of an integer is read again
abbrev pub UnsignedBack : Type 0
UnsignedBack = (file : List ℕ) (at n : ℕ) → n ≤ largest → Back file at (shortest n) (unsigned file at) n

-- so are the bytes of a signed integer
abbrev pub SignedBack : Type 0
SignedBack = (file : List ℕ) (at : ℕ) (z : ℤ) → FitsSigned z → Back file at (signed_bytes z) (signed file at) z

-- and those of a g-delta of two integers
abbrev pub GDeltaBack : Type 0
GDeltaBack = (file : List ℕ) (at : ℕ) (z : ℤ × ℤ) → FitsDelta z → Back file at (g_delta_bytes z) (g_delta file at) z

-- and a byte
abbrev pub ByteBack : Type 0
ByteBack = (file : List ℕ) (at b : ℕ) → Back file at (b ∷ []) (byte_at file at) b

-- and the bytes of a string
abbrev pub TextBack : Type 0
TextBack = (rule : StringRule) (file : List ℕ) (at : ℕ) (t : List ℕ) → FitsText rule t → Back file at (text_bytes t) (text rule file at) t

-- and where its text stands
abbrev pub PartBack : Type 0
PartBack = (rule : StringRule) (file : List ℕ) (at : ℕ) (t : List ℕ) → FitsText rule t → Back file at (text_bytes t) (part rule file at) (text_part at t)

-- and those of a unit
abbrev pub UnitBack : Type 0
UnitBack = (file : List ℕ) (at n : ℕ) → FitsUnit n → Back file at (unit_bytes n) (unit file at) n

-- values with the same bytes are the same
abbrev pub Distinct : {A : Type 0} → (A → Type 0) → (A → List ℕ) → Type 0
Distinct {A = A} P bytes = (v w : A) → P v → P w → bytes v ≡ bytes w → v ≡ w

-- this holds of all that is written
abbrev pub BytesAreDistinct : Type 0
BytesAreDistinct =
    Distinct (λ n. n ≤ largest) shortest × Distinct FitsSigned signed_bytes × Distinct FitsDelta g_delta_bytes × ((rule : StringRule) → Distinct (FitsText rule) text_bytes) × Distinct FitsUnit unit_bytes

-- what is written for an integer is a chain for it, and none is shorter
abbrev pub ShortestIsChain : Type 0
ShortestIsChain = (n : ℕ) → n < 2 ^ 64 → Chain (shortest n) n × ((bs : List ℕ) → Chain bs n → length (shortest n) ≤ length bs)

-- it has at least one byte and at most ten, and at most seven for an integer of a file
abbrev pub ShortestSizes : Type 0
ShortestSizes = (n : ℕ) → (1 ≤ length (shortest n)) × (length (shortest n) ≤ chain_bytes) × (n ≤ largest → length (shortest n) ≤ short_bytes)

-- and each of them is a byte
abbrev pub ShortestBytes : Type 0
ShortestBytes = (n : ℕ) → n < 2 ^ 64 → Every (λ b. b < byte_values) (shortest n)

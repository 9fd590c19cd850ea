-- Worked examples.
use Rattle.std.specs.Prelude.{◌≡◌, ℕ, suc, Bool, true, false, List, [], ◌∷◌, ◌++◌, replicate}
use Rattle.std.specs.List.{AllByRecursion as Every}
use Rattle.tokens.specs.declared.fault.FaultKind.TheVariants.{Cut, Version, Reserved, BadType, BadEnd, Checksum}
use Rattle.tokens.specs.Answers.{Answer, got, fault}
use Rattle.frames.specs.declared.end.End.{End}
use Rattle.frames.specs.declared.end.End.TheVariants.{Unsigned, Crc32, Checksum32}
use Rattle.frames.specs.declared.start.Start.{Start}
use Rattle.frames.specs.Ends.{first_record, end}
use Rattle.frames.specs.Laws.{end_bytes}
use Rattle.frames.specs.Starts.{start}

-- these bytes answer this: as START's fields in a file of their own, or as an END behind 13 bytes
pub data Case : Type 0 where
  a_start : List ℕ → Answer Start → Case
  an_end : (late : Bool) → List ℕ → Answer End → Case

-- they do
abbrev pub Holds : Case → Type 0
Holds (a_start file r) = start file 0 ≡ r
Holds (an_end late bytes r) = end (replicate first_record 0x25 ++ bytes) (suc first_record) first_record late ≡ r

-- the version 1.0 and the unit 1000, before what is given
abbrev pub opening : List ℕ → List ℕ
opening rest = 0x03 ∷ 0x31 ∷ 0x2e ∷ 0x30 ∷ 0x00 ∷ 0xe8 ∷ 0x07 ∷ rest

-- an END with a padding of 248 bytes and scheme 2, before what is given
abbrev pub closing : List ℕ → List ℕ
closing rest = 0x02 ∷ (end_bytes ++ rest)

-- an END with a padding of 248 bytes, before what is given
abbrev pub filled : List ℕ → List ℕ
filled rest = 0x02 ∷ 0xf8 ∷ 0x01 ∷ (replicate 248 0x00 ++ rest)

-- the examples
abbrev pub table : List Case
table =
    a_start (opening (0x01 ∷ [])) (got (record { unit = 1000; late = true }) 8)
    ∷ a_start (opening (0x00 ∷ replicate 12 0x00)) (got (record { unit = 1000; late = false }) 20)
    ∷ a_start (opening (0x00 ∷ replicate 11 0x00)) (fault Cut 19)
    ∷ a_start (opening (0x02 ∷ [])) (fault Reserved 7)
    ∷ a_start (opening (0x00 ∷ 0x01 ∷ 0x05 ∷ 0x02 ∷ [])) (fault Reserved 10)
    ∷ a_start (0x03 ∷ 0x31 ∷ 0x2e ∷ 0x31 ∷ []) (fault Version 0)
    ∷ a_start (0x04 ∷ 0x31 ∷ 0x2e ∷ 0x30 ∷ 0x30 ∷ []) (fault Version 0)
    ∷ a_start (0x03 ∷ 0x31 ∷ 0x2e ∷ []) (fault Cut 0)
    ∷ an_end false (closing (0xfd ∷ 0x00 ∷ 0x00 ∷ 0x00 ∷ [])) (got (Checksum32 253) 269)
    ∷ an_end false (closing (0xfe ∷ 0x00 ∷ 0x00 ∷ 0x00 ∷ [])) (fault Checksum 265)
    ∷ an_end false (closing (0x00 ∷ 0x00 ∷ 0x00 ∷ 0xfd ∷ [])) (fault Checksum 265)
    ∷ an_end false (closing (0xfd ∷ 0x00 ∷ 0x00 ∷ 0x00 ∷ 0x00 ∷ [])) (fault BadEnd 13)
    ∷ an_end false (closing (0xfe ∷ 0x00 ∷ 0x00 ∷ 0x00 ∷ 0x00 ∷ [])) (fault BadEnd 13)
    ∷ an_end false (closing (0xfd ∷ 0x00 ∷ 0x00 ∷ [])) (fault Cut 265)
    ∷ an_end false (filled (0x01 ∷ 0x01 ∷ 0x02 ∷ 0x03 ∷ 0x04 ∷ [])) (got (Crc32 0x04030201) 269)
    ∷ an_end false (filled (0x03 ∷ 0x00 ∷ 0x00 ∷ 0x00 ∷ 0x00 ∷ [])) (fault BadType 264)
    ∷ an_end false (filled (0x00 ∷ [])) (fault BadEnd 13)
    ∷ an_end false (0x02 ∷ 0xfc ∷ 0x01 ∷ (replicate 252 0x00 ++ (0x00 ∷ []))) (got Unsigned 269)
    ∷ an_end true (0x02 ∷ (replicate 12 0x00 ++ (0xec ∷ 0x01 ∷ (replicate 236 0x00 ++ (0x02 ∷ 0xf1 ∷ 0x00 ∷ 0x00 ∷ 0x00 ∷ []))))) (got (Checksum32 241) 269)
    ∷ []

-- every one of them holds
abbrev pub ExamplesHold : Type 0
ExamplesHold = Every Holds table

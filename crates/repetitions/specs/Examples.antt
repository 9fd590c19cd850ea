-- Worked examples, each read from the first byte of a file.
use Rattle.std.specs.Prelude.{◌≡◌, ℕ, List, [], ◌∷◌, pos, negsuc}
use Rattle.std.specs.List.{AllByRecursion as Every}
use Rattle.tokens.specs.declared.fault.FaultKind.TheVariants.{Cut, BadType, Reach, Copies}
use Rattle.tokens.specs.Answers.{Answer, got, fault}
use Rattle.bounds.specs.declared.point.Point.{Point}
use Rattle.bounds.specs.Points.{point, origin}
use Rattle.repetitions.specs.Repetitions.{repetition}

-- these bytes are read as this
pub record Case : Type 0 where
  pub bytes : List ℕ
  pub answer : Answer (List Point)

abbrev east : ℕ → Point
east x = point (pos x) (pos 0)

abbrev north : ℕ → Point
north y = point (pos 0) (pos y)

abbrev pub table : List Case
table =
    record { bytes = 0x01 ∷ 0x00 ∷ 0x01 ∷ 0x0a ∷ 0x14 ∷ []; answer = got (origin ∷ east 10 ∷ north 20 ∷ point (pos 10) (pos 20) ∷ north 40 ∷ point (pos 10) (pos 40) ∷ []) 5 }
    ∷ record { bytes = 0x02 ∷ 0x01 ∷ 0x0a ∷ []; answer = got (origin ∷ east 10 ∷ east 20 ∷ []) 3 }
    ∷ record { bytes = 0x03 ∷ 0x00 ∷ 0x14 ∷ []; answer = got (origin ∷ north 20 ∷ []) 3 }
    ∷ record { bytes = 0x04 ∷ 0x01 ∷ 0x03 ∷ 0x04 ∷ []; answer = got (origin ∷ east 3 ∷ east 7 ∷ []) 4 }
    ∷ record { bytes = 0x05 ∷ 0x01 ∷ 0x0a ∷ 0x03 ∷ 0x04 ∷ []; answer = got (origin ∷ east 30 ∷ east 70 ∷ []) 5 }
    ∷ record { bytes = 0x06 ∷ 0x01 ∷ 0x03 ∷ 0x04 ∷ []; answer = got (origin ∷ north 3 ∷ north 7 ∷ []) 4 }
    ∷ record { bytes = 0x07 ∷ 0x01 ∷ 0x0a ∷ 0x03 ∷ 0x04 ∷ []; answer = got (origin ∷ north 30 ∷ north 70 ∷ []) 5 }
    ∷ record { bytes = 0x08 ∷ 0x00 ∷ 0x00 ∷ 0x15 ∷ 0x06 ∷ 0x35 ∷ 0x08 ∷ []; answer = got (origin ∷ point (pos 5) (pos 3) ∷ point (pos 13) (pos 4) ∷ point (pos 18) (pos 7) ∷ []) 7 }
    ∷ record { bytes = 0x09 ∷ 0x01 ∷ 0xec ∷ 0x05 ∷ []; answer = got (origin ∷ point (negsuc 45) (negsuc 45) ∷ point (negsuc 91) (negsuc 91) ∷ []) 4 }
    ∷ record { bytes = 0x0a ∷ 0x01 ∷ 0x10 ∷ 0x22 ∷ []; answer = got (origin ∷ east 1 ∷ point (pos 1) (pos 2) ∷ []) 4 }
    ∷ record { bytes = 0x0b ∷ 0x01 ∷ 0x0a ∷ 0x10 ∷ 0x22 ∷ []; answer = got (origin ∷ east 10 ∷ point (pos 10) (pos 20) ∷ []) 5 }
    ∷ record { bytes = 0x00 ∷ []; answer = fault BadType 0 }
    ∷ record { bytes = 0x0c ∷ 0x01 ∷ []; answer = fault BadType 0 }
    ∷ record { bytes = 0x02 ∷ 0xff ∷ 0xff ∷ 0x03 ∷ []; answer = fault Copies 1 }
    ∷ record { bytes = 0x01 ∷ 0xfe ∷ 0x01 ∷ 0xff ∷ 0x01 ∷ []; answer = fault Copies 3 }
    ∷ record { bytes = 0x04 ∷ 0x01 ∷ 0x03 ∷ []; answer = fault Cut 3 }
    ∷ record { bytes = 0x02 ∷ 0x00 ∷ 0xff ∷ 0xff ∷ 0xff ∷ 0xff ∷ 0xff ∷ 0x3f ∷ []; answer = fault Reach 0 }
    ∷ []

-- every one of them holds
abbrev pub ExamplesHold : Type 0
ExamplesHold = Every (λ c. repetition c.bytes 0 ≡ c.answer) table

-- Worked examples, each read from the first byte of a file.
use Rattle.std.specs.Prelude.{◌≡◌, ℕ, true, false, List, [], ◌∷◌, pos, negsuc}
use Rattle.std.specs.List.{AllByRecursion as Every}
use Rattle.tokens.specs.declared.fault.FaultKind.TheVariants.{Cut, BadType, BadList}
use Rattle.tokens.specs.Answers.{Answer, got, fault}
use Rattle.bounds.specs.declared.point.Point.{Point}
use Rattle.bounds.specs.Points.{point}
use Rattle.point_lists.specs.Lists.{point_list}

-- these bytes, read as the list of a polygon or of a path, answer this
pub data Case : Type 0 where
  polygon : List ℕ → Answer (List Point) → Case
  open_path : List ℕ → Answer (List Point) → Case

abbrev pub Holds : Case → Type 0
Holds (polygon file r) = point_list file 0 true ≡ r
Holds (open_path file r) = point_list file 0 false ≡ r

abbrev pub table : List Case
table =
    polygon (0x00 ∷ 0x04 ∷ 0x0c ∷ 0x08 ∷ 0x11 ∷ 0x05 ∷ [])
    (got (point (pos 0) (pos 0) ∷ point (pos 6) (pos 0) ∷ point (pos 6) (pos 4) ∷ point (negsuc 1) (pos 4) ∷ point (negsuc 1) (pos 2) ∷ point (pos 0) (pos 2) ∷ []) 6)
    ∷ polygon (0x01 ∷ 0x02 ∷ 0x08 ∷ 0x0c ∷ []) (got (point (pos 0) (pos 0) ∷ point (pos 0) (pos 4) ∷ point (pos 6) (pos 4) ∷ point (pos 6) (pos 0) ∷ []) 4)
    ∷ polygon (0x04 ∷ 0x02 ∷ 0x44 ∷ 0x09 ∷ 0x0d ∷ []) (got (point (pos 0) (pos 0) ∷ point (negsuc 3) (pos 0) ∷ point (negsuc 1) (negsuc 5) ∷ []) 5)
    ∷ open_path (0x00 ∷ 0x00 ∷ []) (got (point (pos 0) (pos 0) ∷ []) 2)
    ∷ open_path (0x02 ∷ 0x01 ∷ 0x05 ∷ []) (got (point (pos 0) (pos 0) ∷ point (pos 0) (pos 1) ∷ []) 3)
    ∷ polygon (0x06 ∷ 0x02 ∷ []) (fault BadType 0)
    ∷ polygon (0x04 ∷ 0x01 ∷ 0x44 ∷ []) (fault BadList 1)
    ∷ polygon (0x00 ∷ 0x03 ∷ 0x0c ∷ []) (fault BadList 1)
    ∷ polygon (0x00 ∷ 0x02 ∷ 0x0c ∷ 0x00 ∷ []) (fault BadList 3)
    ∷ polygon (0x02 ∷ 0x02 ∷ 0x08 ∷ 0x09 ∷ []) (fault BadList 0)
    ∷ polygon (0x04 ∷ 0x02 ∷ 0x44 ∷ 0x09 ∷ []) (fault Cut 4)
    ∷ []

-- every one of them holds
abbrev pub ExamplesHold : Type 0
ExamplesHold = Every Holds table

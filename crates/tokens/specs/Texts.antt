-- Strings: a length, and then that many bytes.
use Rattle.std.specs.Prelude.{◌≡◌, ℕ, ◌+◌, ◌-◌, ◌<◌, ◌≤◌, Bool, true, cond, ◌&&◌, List, length, take, drop, nat_le}
use Rattle.std.specs.List.{between, list_all}
use Rattle.tokens.specs.declared.fault.FaultKind.TheVariants.{Cut, BadString}
use Rattle.tokens.specs.declared.text.StringRule.TheVariants.{Name, Ascii, Binary}
use Rattle.tokens.specs.declared.text.StringRule.{StringRule}
use Rattle.tokens.specs.Answers.{Answer, got, fault, then}
use Rattle.tokens.specs.Chains.{largest, unsigned}

-- a space, the first printable character
abbrev pub space : ℕ
space = 0x20

-- the first character that is seen, `!`
abbrev pub first_visible : ℕ
first_visible = 0x21

-- the last one, `~`
abbrev pub last_printable : ℕ
last_printable = 0x7e

-- each byte is a character from `low` to `~`
abbrev pub printable : ℕ → List ℕ → Bool
printable low bs = list_all (λ b. nat_le low b && nat_le b last_printable) bs

-- a name is visible and not empty, an ASCII text is printable, and a binary one is any bytes
abbrev pub obeys : StringRule → List ℕ → Bool
obeys Name bs = nat_le 1 (length bs) && printable first_visible bs
obeys Ascii bs = printable space bs
obeys Binary bs = true

-- the text of `size` bytes from the place n, in a string whose first byte stands at the place `at`
abbrev pub text_from : StringRule → List ℕ → (at size n : ℕ) → Answer (List ℕ)
text_from rule file at size n =
    cond (nat_le size (length file - n))
    (cond (obeys rule (take size (drop n file))) (got (take size (drop n file)) (n + size)) (fault BadString at))
    (fault Cut at)

-- the string at the place `at`
unfoldable pub text : StringRule → List ℕ → ℕ → Answer (List ℕ)
text rule file at = then (unsigned file at) λ size n. text_from rule file at size n

-- what holds of a text that was read at the place `at`, where n is the place after it
pub record Stands (rule : StringRule) (file : List ℕ) (at : ℕ) (t : List ℕ) (n : ℕ) : Type 0 where
  pub legal : obeys rule t ≡ true
  pub here : t ≡ between (n - length t) n file
  pub short : length t ≤ largest
  pub after : at + length t < n

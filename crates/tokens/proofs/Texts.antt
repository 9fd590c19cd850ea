-- Lemmas on strings.
use Rattle.std.proofs.Common.{◌≡◌, ℕ, ◌+◌, ◌-◌, ◌<◌, ◌≤◌, true, false, leb, List, length, take, drop, Ok, sym, refl, ap, arith, length-drop}
use Rattle.std.proofs.lemmas.List.{length-take-le}
use Rattle.std.proofs.lemmas.Bool.{le-leb, lt-leb, leb-true}
use Rattle.tokens.specs.declared.fault.FaultKind.TheVariants.{Cut, BadString}
use Rattle.tokens.specs.declared.fault.Read.{Read}
use Rattle.tokens.specs.declared.text.StringRule.{StringRule}
use Rattle.tokens.specs.Answers.{got, fault}
use Rattle.tokens.specs.Chains.{largest, unsigned}
use Rattle.tokens.specs.Laws.{TextMade}
use Rattle.tokens.specs.Texts.{obeys, text, Stands}
use Rattle.tokens.proofs.ChainLaws.{unsigned_made}
use Rattle.tokens.proofs.Chaining.{going, first_way, other_way}
use Rattle.tokens.proofs.Mades.{made_got, made_fault, made_then, made_cond}

-- a length x was read; the part of the file from a to b shows as `take (b - a) (drop a file)`
module _ (rule : StringRule) (file : List ℕ) (at : ℕ) (x : Read ℕ) (read : Ok x ≡ unsigned file at) where
  -- the file ends in the text
  pub text_cut : length file - x.next < x.value → fault Cut at ≡ text rule file at
  unfolding text
  text_cut h = going _ read (other_way _ (sym (lt-leb _ _ h)) refl)

  -- the text breaks the rule
  pub text_bad : (k : ℕ) → k ≡ x.value → x.value ≤ length file - x.next → false ≡ obeys rule (take k (drop x.next file)) → fault BadString at ≡ text rule file at
  unfolding text
  text_bad k q h a = going _ read (first_way _ (sym (le-leb _ _ h)) (other_way _ (rw q at a) refl))

  -- the text is read
  pub text_got : (k : ℕ) → k ≡ x.value → x.value ≤ length file - x.next → true ≡ obeys rule (take k (drop x.next file)) → got (take k (drop x.next file)) (x.next + x.value) ≡ text rule file at
  unfolding text
  text_got k q h a =
      going _ read (first_way _ (sym (le-leb _ _ h)) (first_way _ (rw q at a) (ap (λ m. got (take m (drop x.next file)) (x.next + x.value)) q)))

-- a text that was read obeys its rule, and stands before the place after it
stands : (rule : StringRule) (file : List ℕ) (at size n : ℕ) → at < n → size ≤ largest → size ≤ length file - n → obeys rule (take size (drop n file)) ≡ true → Stands rule file at (take size (drop n file)) (n + size)
stands rule file at size n l s h o =
    let e : length (take size (drop n file)) ≡ size = length-take-le size (drop n file) (omega (arith, length-drop n file)) in
    let a : n + size - size ≡ n = omega arith in
    let b : n + size - n ≡ size = omega arith in
    record {
      legal = o;
      here = rw (e, a, b);
      short = omega arith;
      after = omega arith;
    }

-- what is made of strings
pub text_made : TextMade
unfolding text
text_made rule file at =
    made_then _ (unsigned_made file at) (λ size n l h p.
    made_cond (leb size (length file - n))
    (λ e.
    let r : size ≤ length file - n = leb-true _ _ e in
    made_cond (obeys rule (take size (drop n file)))
    (λ o. made_got (take size (drop n file)) (n + size) (omega arith) (omega arith) (stands rule file at size n l p r o))
    (λ o. made_fault _))
    (λ e. made_fault _))

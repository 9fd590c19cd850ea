-- No reader looks at bytes before its place or after where it stopped.
use Rattle.std.proofs.Common.{◌≡◌, ℕ, ◌+◌, ◌-◌, ◌/◌, ◌≤◌, Bool, true, false, cond, eqb, ltb, leb, List, length, get_or, take, drop, Ok, Err, sym, refl, ap, ◌∙◌, add-zero, arith}
use Rattle.std.specs.List.{between}
use Rattle.std.proofs.lemmas.List.{take-take, drop-drop, drop-take, get_or-take, get_or-drop}
use Rattle.std.proofs.lemmas.Bool.{lt-ltb, le-leb}
use Rattle.tokens.specs.declared.fault.FaultKind.TheVariants.{BadUnit}
use Rattle.tokens.specs.declared.fault.Read.{Read}
use Rattle.tokens.specs.declared.fault.TokenFault.{TokenFault}
use Rattle.tokens.specs.declared.text.StringRule.{StringRule}
use Rattle.tokens.specs.Answers.{Answer, got, fault, then}
use Rattle.tokens.specs.Bytes.{byte_at}
use Rattle.tokens.specs.Chains.{unsigned}
use Rattle.tokens.specs.Deltas.{even, signed_of, signed, straight, octangular, two_delta, three_delta, g_delta}
use Rattle.tokens.specs.Laws.{ReadsNothingElse}
use Rattle.tokens.specs.Parts.{part}
use Rattle.tokens.specs.Readers.{Local}
use Rattle.tokens.specs.Texts.{obeys, text_from, text}
use Rattle.tokens.specs.Units.{whole_type, reciprocal_type, ratio_type, is_whole, quotient, unit_from, unit}
use Rattle.tokens.proofs.ChainLaws.{reads_chains, chains_are_read}
use Rattle.tokens.proofs.Chaining.{going, first_way, same_got, not_fault, passed}

-- two files that agree from `at` to n agree from there to an earlier place
front : (file other : List ℕ) (at m n : ℕ) → m ≤ n → between at n file ≡ between at n other → between at m file ≡ between at m other
front file other at m n h s =
    let l : m - at ≤ n - at = omega arith in
    sym (take-take (m - at) (n - at) (drop at file) l) ∙ ap (take (m - at)) s ∙ take-take (m - at) (n - at) (drop at other) l

-- what stands from m to n is the end of what stands from `at` to n
end_is : (file : List ℕ) (at m n : ℕ) → at ≤ m → m ≤ n → drop (m - at) (between at n file) ≡ between m n file
end_is file at m n h k =
    let e : n - at ≡ (m - at) + (n - m) = omega arith in
    let a : at + (m - at) ≡ m = omega arith in
    ap (λ i. drop (m - at) (take i (drop at file))) e ∙ drop-take (m - at) (n - m) (drop at file) ∙ ap (take (n - m)) (drop-drop (m - at) at file ∙ ap (λ i. drop i file) a)

-- and they agree from a later place
back : (file other : List ℕ) (at m n : ℕ) → at ≤ m → m ≤ n → between at n file ≡ between at n other → between m n file ≡ between m n other
back file other at m n h k s = sym (end_is file at m n h k) ∙ ap (drop (m - at)) s ∙ end_is other at m n h k

-- one reader after another
pub local_then : {A B : Type 0} (r : List ℕ → ℕ → Answer A) (f : List ℕ → ℕ → A → ℕ → Answer B) → Local r → ((at : ℕ) (v : A) → Local (λ file n. f file at v n)) → Local (λ file at. then (r file at) (λ v n. f file at v n))
local_then {A = A} {B = B} r f p k = record { onward = λ file at x e. ahead file at x (r file at) refl e; same = λ file other at x e l s. alike file other at x (r file at) refl e l s }
  where
    ahead : (file : List ℕ) (at : ℕ) (x : Read B) (a : Answer A) → a ≡ r file at → Ok x ≡ then a (λ v n. f file at v n) → at ≤ x.next
    ahead file at x (Ok y) q e = let i = p.onward file at y q in let j = (k at y.value).onward file y.next x e in omega arith
    ahead file at x (Err d) q e = not_fault e

    alike : (file other : List ℕ) (at : ℕ) (x : Read B) (a : Answer A) → a ≡ r file at → Ok x ≡ then a (λ v n. f file at v n) → x.next ≤ length other → between at x.next file ≡ between at x.next other → Ok x ≡ then (r other at) (λ v n. f other at v n)
    alike file other at x (Ok y) q e l s =
        let i = p.onward file at y q in
        let j = (k at y.value).onward file y.next x e in
        going _ (p.same file other at y q (omega arith) (front file other at y.next x.next j s))
        ((k at y.value).same file other y.next x e l (back file other at y.next x.next i j s))
    alike file other at x (Err d) q e l s = not_fault e

-- a value that is at hand, or made of the place
local_made : {A : Type 0} (v : ℕ → A) → Local (λ file n. got (v n) n)
local_made v = record { onward = λ file at x e. let p = same_got e in omega (arith, p.1); same = λ file other at x e l s. e }

pub local_got : {A : Type 0} (v : A) → Local (λ file n. got v n)
local_got v = local_made (λ n. v)

-- a fault is no value
pub local_fault : {A : Type 0} (d : TokenFault) → Local {A = A} (λ file n. Err d)
local_fault d = record { onward = λ file at x e. not_fault e; same = λ file other at x e l s. not_fault e }

-- one of two readers
pub local_cond : {A : Type 0} (b : Bool) (r s : List ℕ → ℕ → Answer A) → Local r → Local s → Local (λ file n. cond b (r file n) (s file n))
local_cond true r s p q = p
local_cond false r s p q = q

-- an unsigned integer is a chain that stands there, in the one file or the other
pub unsigned_local : Local unsigned
unsigned_local =
    record {
      onward = λ file at x e. (reads_chains file at x.value x.next (sym e)).0.onward;
      same = λ file other at x e l s.
          let c = reads_chains file at x.value x.next (sym e) in
          sym (chains_are_read other at x.value x.next (record { onward = c.0.onward; inside = l; few = c.0.few; bytes = rw s at c.0.bytes }) c.1);
    }

-- what is made of one unsigned integer
from_one : {A : Type 0} (f : ℕ → A) → Local (λ file at. then (unsigned file at) (λ v n. got (f v) n))
from_one f = local_then unsigned (λ file at v n. got (f v) n) unsigned_local (λ at v. local_got (f v))

-- signed integers
pub signed_local : Local signed
unfolding signed
signed_local = from_one signed_of

-- 2-deltas
pub two_delta_local : Local two_delta
unfolding two_delta
two_delta_local = from_one straight

-- 3-deltas
pub three_delta_local : Local three_delta
unfolding three_delta
three_delta_local = from_one octangular

-- g-deltas, of one integer or two
pub g_delta_local : Local g_delta
unfolding g_delta
g_delta_local =
    local_then unsigned _ unsigned_local (λ at v.
    local_cond (even v) _ _ (local_got (octangular (v / 2)))
    (local_then signed (λ file n y m. got (signed_of (v / 2), y) m) signed_local (λ n y. local_got (signed_of (v / 2), y))))

-- files that agree on one byte
byte_same : (file other : List ℕ) (at : ℕ) → between at (at + 1) file ≡ between at (at + 1) other → get_or file at 0 ≡ get_or other at 0
byte_same file other at s =
    let one : at + 1 - at ≡ 1 = omega arith in
    let at-is = λ (l : List ℕ). get_or-take 1 (drop at l) 0 0 (omega arith) ∙ get_or-drop at l 0 0 ∙ ap (λ i. get_or l i 0) (add-zero at) in
    sym (at-is file) ∙ ap (λ l. get_or l 0 0) (rw one at s) ∙ at-is other

-- a byte
pub byte_local : Local byte_at
unfolding byte_at
byte_local =
    record {
      onward = λ file at x e. let p = same_got (passed (ltb at (length file)) _ _ e).1 in omega (arith, p.1);
      same = λ file other at x e l s.
          let r = (passed (ltb at (length file)) _ _ e).1 in
          let n : x.next ≡ at + 1 = (same_got r).1 in
          first_way _ (sym (lt-ltb at (length other) (omega arith))) (r ∙ ap (λ b. got b (at + 1)) (byte_same file other at (rw n at s)));
    }

-- the text of a string
from_length : (rule : StringRule) (at size : ℕ) → Local (λ file n. text_from rule file at size n)
from_length rule at size =
    record {
      onward = λ file n x e.
          let r = passed (leb size (length file - n)) _ _ e in
          let q = passed (obeys rule (take size (drop n file))) _ _ r.1 in
          let m = (same_got q.1).1 in
          omega arith;
      same = λ file other n x e l s.
          let r = passed (leb size (length file - n)) _ _ e in
          let q = passed (obeys rule (take size (drop n file))) _ _ r.1 in
          let m : x.next ≡ n + size = (same_got q.1).1 in
          let k : n + size - n ≡ size = omega arith in
          let t : take size (drop n file) ≡ take size (drop n other) = rw (m, k) at s in
          first_way _ (sym (le-leb size (length other - n) (omega arith)))
          (first_way _ (sym q.0 ∙ ap (obeys rule) t) (q.1 ∙ ap (λ u. got u (n + size)) t));
    }

-- a string
pub text_local : (rule : StringRule) → Local (text rule)
unfolding text
text_local rule = local_then unsigned (λ file at size n. text_from rule file at size n) unsigned_local (λ at size. from_length rule at size)

-- the text of a string as a part of the file
pub part_local : (rule : StringRule) → Local (part rule)
part_local rule = local_then (text rule) (λ file at t n. got (record { place = n - length t; size = length t }) n) (text_local rule) (λ at t. local_made (λ n. record { place = n - length t; size = length t }))

-- the quotient of a unit reads nothing
quotient_local : (at p q : ℕ) → Local (λ file n. quotient at p q n)
quotient_local at p q = local_cond (is_whole p q) (λ file n. got (p / q) n) (λ file n. fault BadUnit at) (local_got (p / q)) (local_fault _)

-- an integer inside the unit
inner : (f : ℕ → ℕ → Answer ℕ) → ((v : ℕ) → Local (λ file n. f v n)) → Local (λ file n. then (unsigned file n) (λ v m. f v m))
inner f k = local_then unsigned (λ file at v n. f v n) unsigned_local (λ at v. k v)

-- a unit
pub unit_local : Local unit
unfolding unit
unit_local =
    local_then unsigned (λ file at shape n. unit_from file at shape n) unsigned_local (λ at shape.
    local_cond (eqb shape whole_type) _ _ (inner _ (λ p. quotient_local at p 1))
    (local_cond (eqb shape reciprocal_type) _ _ (inner _ (λ q. quotient_local at 1 q))
    (local_cond (eqb shape ratio_type) _ _
    (local_then unsigned (λ file i p n. then (unsigned file n) (λ q m. quotient at p q m)) unsigned_local (λ i p. inner _ (λ q. quotient_local at p q)))
    (local_fault _))))

-- all of them
pub reads_nothing_else : ReadsNothingElse
reads_nothing_else = (unsigned_local, signed_local, two_delta_local, three_delta_local, g_delta_local, byte_local, text_local, part_local, unit_local)

-- What is written is read again, and is as short as can be.
use Rattle.std.proofs.Common.{◌≡◌, ℕ, zero, suc, ◌+◌, ◌-◌, ◌*◌, ◌/◌, ◌%◌, ◌^◌, ◌<◌, ◌≤◌, true, false, ltb, leb, List, [], ◌∷◌, length, get_or, take, drop, ℤ, pos, negsuc, nat_abs, Ok, sym, refl, ap, ◌∙◌, add-zero, pow-suc, div-one, arith}
use native.Mathlib.Nat.{mod-one}
use Rattle.std.specs.List.{AllByRecursion as Every}
use Rattle.std.proofs.lemmas.Nat.{div_below}
use Rattle.std.proofs.lemmas.List.{take_at, get_or-drop}
use Rattle.std.proofs.lemmas.Bool.{cond-true, cond-false, cond_both, lt-ltb, le-leb, ltb-true, ltb-false, and_from, eq-eqb}
use Rattle.tokens.specs.declared.text.StringRule.{StringRule}
use Rattle.tokens.specs.Answers.{got}
use Rattle.tokens.specs.Bytes.{byte_at}
use Rattle.tokens.specs.Chains.{largest, chain_bytes, radix, Chain, last, more, chain, placed, unsigned}
use Rattle.tokens.specs.Deltas.{even, signed_of, signed, g_delta}
use Rattle.tokens.specs.Encodings.{byte_values, shortest_in, shortest, code_of, signed_bytes, FitsSigned, g_delta_bytes, FitsDelta, text_bytes, FitsText, unit_bytes, FitsUnit}
use Rattle.tokens.specs.Laws.{UnsignedBack, SignedBack, GDeltaBack, ByteBack, TextBack, UnitBack, BytesAreDistinct, ShortestIsChain, ShortestSizes, ShortestBytes}
use Rattle.tokens.specs.Readers.{Back}
use Rattle.tokens.specs.Texts.{obeys, text_from, text}
use Rattle.tokens.specs.Units.{whole_type, is_whole, unit}
use Rattle.tokens.proofs.Backs.{left, back_then, back_last, back_is, back_distinct}
use Rattle.tokens.proofs.ChainLaws.{chain_read}
use Rattle.tokens.proofs.Chaining.{first_way}

-- what holds of both ways to write n holds of the shortest chain
by_shortest : (P : List ℕ → Type 0) (k n : ℕ) → (n < radix → P (n ∷ [])) → (radix ≤ n → P ((n % radix + radix) ∷ shortest_in k (n / radix))) → P (shortest_in (suc k) n)
by_shortest P k n a b = cond_both (ltb n radix) (n ∷ []) ((n % radix + radix) ∷ shortest_in k (n / radix)) P (λ e. a (ltb-true _ _ e)) (λ e. b (ltb-false _ _ e))

-- one byte less is needed for what is left
less : (k n : ℕ) → n < radix ^ suc (suc k) → n / radix < radix ^ suc k
less k n h = div_below n radix (radix ^ suc k) (omega arith) (rw pow-suc at h)

-- it is a chain
writes : (k n : ℕ) → n < radix ^ suc k → Chain (shortest_in k n) n
writes zero n h = last (omega arith)
writes (suc k) n h =
    by_shortest (λ bs. Chain bs n) k n last
    (λ e.
    let q : (n % radix + radix) % radix + radix * (n / radix) ≡ n = omega arith in
    rw q at (more {b = n % radix + radix} (omega arith) (writes k (n / radix) (less k n h))))

-- none is shorter
shorter : (k : ℕ) {bs : List ℕ} {n : ℕ} → Chain bs n → length (shortest_in k n) ≤ length bs
shorter zero (last h) = omega arith
shorter zero (more h r) = omega arith
shorter (suc k) (last h) = rw (lt-ltb _ _ h) (omega arith)
shorter (suc k) (more {b = b} {v = v} {bs = bs} h r) =
    let n : ℕ = b % radix + radix * v in
    by_shortest (λ l. length l ≤ suc (length bs)) k n (λ e. omega arith)
    (λ e.
    let q : n / radix ≡ v = omega arith in
    let p : length (shortest_in k (n / radix)) ≤ length bs = rw q (shorter k r) in
    omega arith)

-- it has at least one byte
some : (k n : ℕ) → 1 ≤ length (shortest_in k n)
some zero n = omega arith
some (suc k) n = by_shortest (λ l. 1 ≤ length l) k n (λ e. omega arith) (λ e. omega arith)

-- it has at most as many as are allowed
few : (k n : ℕ) → length (shortest_in k n) ≤ suc k
few zero n = omega arith
few (suc k) n = by_shortest (λ l. length l ≤ suc (suc k)) k n (λ e. omega arith) (λ e. omega (arith, few k (n / radix)))

-- it has at most as many as hold n
holding : (k j n : ℕ) → n < radix ^ suc j → length (shortest_in k n) ≤ suc j
holding zero j n h = omega arith
holding (suc k) zero n h = by_shortest (λ l. length l ≤ 1) k n (λ e. omega arith) (λ e. absurd (omega arith))
holding (suc k) (suc j) n h = by_shortest (λ l. length l ≤ suc (suc j)) k n (λ e. omega arith) (λ e. omega (arith, holding k j (n / radix) (less j n h)))

-- each is a byte
bytes_in : (k n : ℕ) → n < radix ^ suc k → Every (λ b. b < byte_values) (shortest_in k n)
bytes_in zero n h = (omega arith, tt)
bytes_in (suc k) n h = by_shortest (Every (λ b. b < byte_values)) k n (λ e. (omega arith, tt)) (λ e. (omega arith, bytes_in k (n / radix) (less k n h)))

-- a chain, and the shortest
pub shortest_is_chain : ShortestIsChain
unfolding shortest
shortest_is_chain n h = (writes 9 n (omega arith), λ bs r. shorter 9 r)

-- how many bytes it has
pub shortest_sizes : ShortestSizes
unfolding shortest
shortest_sizes n = (some 9 n, few 9 n, λ h. holding 9 6 n (omega arith))

-- and that they are bytes
pub shortest-bytes : ShortestBytes
unfolding shortest
shortest-bytes n h = bytes_in 9 n (omega arith)

-- a number of one byte
pub shortest_small : (n : ℕ) → n < radix → shortest n ≡ n ∷ []
unfolding shortest
shortest_small n h = cond-true _ _ _ (lt-ltb n radix h)

-- an integer is read again
pub unsigned_back : UnsignedBack
unfolding unsigned
unsigned_back file at n h =
    record {
      again = λ rest e.
          let c : chain chain_bytes (drop at file) ≡ Ok (n, length (shortest n)) = ap (chain chain_bytes) e ∙ chain_read chain_bytes rest (shortest_is_chain n (omega arith)).0 (shortest_sizes n).1 in
          sym (ap (placed at) c ∙ cond-true (leb n largest) _ _ (le-leb _ _ h));
    }

-- a number of one byte is read again
pub small_back : (file : List ℕ) (at n : ℕ) → n < radix → Back file at (n ∷ []) (unsigned file at) n
small_back file at n h = rw (shortest_small n h) at (unsigned_back file at n (omega arith))

-- a signed integer is what its code says
pub signed_code : (z : ℤ) → signed_of (code_of z) ≡ z
signed_code (pos m) = let e : 2 * m % 2 ≡ 0 = omega arith in let d : 2 * m / 2 ≡ m = omega arith in rw (e, d)
signed_code (negsuc m) =
    let e : (2 * (m + 1) + 1) % 2 ≡ 1 = omega arith in let d : (2 * (m + 1) + 1) / 2 ≡ suc m = omega arith in rw (e, d)

-- a code is small where the integer is
pub code_size : (z : ℤ) → code_of z ≤ 2 * nat_abs z + 1
code_size (pos m) = omega arith
code_size (negsuc m) = omega arith

-- a signed integer is read again
pub signed_back : SignedBack
unfolding signed
signed_back file at z h = back_last _ (unsigned_back file at (code_of z) h) (ap (λ y. got y (at + length (shortest (code_of z)))) (signed_code z))

-- a code with bit 0 set before it
odd : (c : ℕ) → even (2 * c + 1) ≡ false
odd c = let e : (2 * c + 1) % 2 ≡ 1 = omega arith in rw e

-- and without it again
half : (c : ℕ) → (2 * c + 1) / 2 ≡ c
half c = omega arith

-- a g-delta of two integers is read again
pub g_delta_back : GDeltaBack
unfolding g_delta
g_delta_back file at z h =
    let c : ℕ = code_of z.0 in
    let x : signed_of ((2 * c + 1) / 2) ≡ z.0 = ap signed_of (half c) ∙ signed_code z.0 in
    back_then _ (unsigned_back file at (2 * c + 1) h.0)
    (back_is (sym (cond-false (even (2 * c + 1)) _ _ (odd c)))
    (back_last _ (signed_back file _ z.1 h.1) (ap (λ y. got (y, z.1) (at + length (shortest (2 * c + 1)) + length (signed_bytes z.1))) x)))

-- a byte is read again
pub byte_back : ByteBack
unfolding byte_at
byte_back file at b =
    record {
      again = λ rest e.
          let v : get_or file at 0 ≡ b = ap (λ i. get_or file i 0) (sym (add-zero at)) ∙ sym (get_or-drop at file 0 0) ∙ ap (λ l. get_or l 0 0) e in
          first_way _ (sym (lt-ltb at (length file) (omega (arith, left file at (b ∷ []) rest e)))) (ap (λ x. got x (at + 1)) (sym v));
    }

-- the text of a string
text_back_from : (rule : StringRule) (file : List ℕ) (at n : ℕ) (t : List ℕ) → obeys rule t ≡ true → Back file n t (text_from rule file at (length t) n) t
text_back_from rule file at n t o =
    record {
      again = λ rest e.
          let u : take (length t) (drop n file) ≡ t = ap (take (length t)) e ∙ take_at t rest (length t) refl in
          first_way _ (sym (le-leb (length t) (length file - n) (omega (arith, left file n t rest e))))
          (first_way _ (sym (ap (obeys rule) u ∙ o)) (ap (λ x. got x (n + length t)) (sym u)));
    }

-- a string is read again
pub text_back : TextBack
unfolding text
text_back rule file at t h = back_then _ (unsigned_back file at (length t) h.0) (text_back_from rule file at _ t h.1)

-- a whole number over 1 is whole
whole_one : (n : ℕ) → 1 ≤ n → is_whole n 1 ≡ true
whole_one n h = and_from _ _ (and_from _ _ refl (le-leb 1 n h)) (eq-eqb (n % 1) 0 (mod-one n))

-- a unit is read again
pub unit_back : UnitBack
unfolding unit
unit_back file at n h =
    back_then _ (small_back file at whole_type (omega arith))
    (back_last _ (unsigned_back file _ n h.1)
    (cond-true (is_whole n 1) _ _ (whole_one n h.0) ∙ ap (λ v. got v (at + 1 + length (shortest n))) (div-one n)))

-- so each has bytes of its own
pub bytes_are_distinct : BytesAreDistinct
bytes_are_distinct = (
  back_distinct unsigned (λ n. n ≤ largest) shortest unsigned_back,
  back_distinct signed FitsSigned signed_bytes signed_back,
  back_distinct g_delta FitsDelta g_delta_bytes g_delta_back,
  λ rule. back_distinct (text rule) (FitsText rule) text_bytes (text_back rule),
  back_distinct unit FitsUnit unit_bytes unit_back,
)

-- Bytes that are put into memory one behind the other come together.
use Rattle.std.proofs.Common.{◌≡◌, ℕ, ◌+◌, ◌<◌, ◌≤◌, List, [], ◌∷◌, ◌++◌, length, take, drop, set, sym, refl, ap, ◌∙◌, append_assoc, add-zero, add-one, arith, length-append, length-drop, take-append-drop, length-take}
use Rattle.std.proofs.lemmas.List.{set_split, take_at, drop_at, drop-drop}
use Rattle.std.proofs.lemmas.Slice.{take-put_mid, drop-put_mid}
use borrow.Rule.Slice.PartMut.{put_mid}
use Rattle.tokens.specs.Answers.{Answer, got}
use Rattle.tokens.specs.Readers.{Back}
use Rattle.encoding.specs.declared.put.Buffer.{Buffer}
use Rattle.encoding.specs.Laid.{laid, Room, Put}

-- one byte laid is one byte set
pub laid_one : (d : List ℕ) (n b : ℕ) → n < length d → set d n b ≡ laid d n (b ∷ [])
unfolding laid
laid_one d n b h = rw add-one (set_split d n b h)

-- no byte laid
laid_none : (d : List ℕ) (n : ℕ) → d ≡ laid d n []
unfolding laid
laid_none d n = rw add-zero (sym (take-append-drop n d))

-- laying keeps the length
laid-length : (d : List ℕ) (n : ℕ) (s : List ℕ) → n + length s ≤ length d → length (laid d n s) ≡ length d
unfolding laid
laid-length d n s h = simp (length-append, length-take, length-drop) (omega arith)

module _ (d : List ℕ) (n : ℕ) (s : List ℕ) (h : n + length s ≤ length d) where
  head_length : length (take n d ++ s) ≡ n + length s
  head_length = simp (length-append, length-take) (omega arith)

  -- what stands before the place behind the bytes
  laid_front : take (n + length s) (laid d n s) ≡ take n d ++ s
  unfolding laid
  laid_front =
      ap (take (n + length s)) (sym (append_assoc (take n d) s (drop (n + length s) d)))
      ∙ take_at (take n d ++ s) (drop (n + length s) d) (n + length s) head_length

  -- what stands behind it
  laid_back : drop (n + length s) (laid d n s) ≡ drop (n + length s) d
  unfolding laid
  laid_back =
      ap (drop (n + length s)) (sym (append_assoc (take n d) s (drop (n + length s) d)))
      ∙ drop_at (take n d ++ s) (drop (n + length s) d) (n + length s) head_length

  -- what stands from the place of the bytes on
  laid_here : drop n (laid d n s) ≡ s ++ drop (n + length s) d
  unfolding laid
  laid_here = drop_at (take n d) (s ++ drop (n + length s) d) n (length-take n d ∙ omega arith)

  -- bytes laid behind them
  laid-laid : (t : List ℕ) → laid (laid d n s) (n + length s) t ≡ laid d n (s ++ t)
  unfolding laid
  laid-laid t =
      let back : drop (n + length s + length t) (laid d n s) ≡ drop (n + length (s ++ t)) d =
      sym (drop-drop (length t) (n + length s) (laid d n s))
      ∙ ap (drop (length t)) laid_back
      ∙ drop-drop (length t) (n + length s) d
      ∙ ap (λ k. drop k d) (simp (length-append) (omega arith)) in
      ap (λ a. a ++ (t ++ drop (n + length s + length t) (laid d n s))) laid_front
      ∙ ap (λ a. (take n d ++ s) ++ (t ++ a)) back
      ∙ append_assoc (take n d) s (t ++ drop (n + length (s ++ t)) d)
      ∙ ap (λ a. take n d ++ a) (sym (append_assoc s t (drop (n + length (s ++ t)) d)))

-- nothing put
pub put_none : (b : Buffer) → b.at ≤ length b.bytes.now → Put b [] b
put_none b h = record { fits = omega arith; memory = laid_none b.bytes.now b.at; next = omega arith; lender = refl }

-- a part of the memory replaced by bytes of its length
pub part_set : (d : List ℕ) (n k : ℕ) (s : List ℕ) → n + length s ≤ length d → k ≡ length s → put_mid n k d s ≡ laid d n s
unfolding laid
part_set d n k s h q =
    let m = n + length s in
    sym (take-append-drop m (put_mid n k d s))
    ∙ ap (λ f. f ++ drop m (put_mid n k d s)) (take-put_mid n k d s m refl (omega arith))
    ∙ ap (λ b. (take n d ++ s) ++ b) (drop-put_mid n k d s m (omega (arith, q)) (omega arith) (sym q))
    ∙ append_assoc (take n d) s (drop m d)

-- memory keeps its length
pub put-length : {b c : Buffer} {s : List ℕ} → Put b s c → length c.bytes.now ≡ length b.bytes.now
put-length {b} {c} {s} p = ap length p.memory ∙ laid-length b.bytes.now b.at s p.fits

-- what stands before the place behind the bytes
pub put_front : {b c : Buffer} {s : List ℕ} → Put b s c → take c.at c.bytes.now ≡ take b.at b.bytes.now ++ s
put_front {b} {c} {s} p =
    ap (λ k. take k c.bytes.now) p.next
    ∙ ap (take (b.at + length s)) p.memory
    ∙ laid_front b.bytes.now b.at s p.fits

-- what stands behind it
pub put_back : {b c : Buffer} {s : List ℕ} → Put b s c → drop c.at c.bytes.now ≡ drop c.at b.bytes.now
put_back {b} {c} {s} p =
    ap (λ k. drop k c.bytes.now) p.next
    ∙ ap (drop (b.at + length s)) p.memory
    ∙ laid_back b.bytes.now b.at s p.fits
    ∙ ap (λ k. drop k b.bytes.now) (sym p.next)

-- some bytes put, and others behind them
pub put_then : {b c d : Buffer} {s t : List ℕ} → Put b s c → Put c t d → Put b (s ++ t) d
put_then {b} {c} {d} {s} {t} p q =
    let size : length (s ++ t) ≡ length s + length t = length-append s t in
    let same : length c.bytes.now ≡ length b.bytes.now = put-length p in
    record {
      fits = omega (arith, p.next, q.fits, p.fits);
      memory = q.memory
          ∙ ap (λ a. laid a c.at t) p.memory
          ∙ ap (λ a. laid (laid b.bytes.now b.at s) a t) p.next
          ∙ laid-laid b.bytes.now b.at s p.fits t;
      next = omega (arith, p.next, q.next);
      lender = q.lender ∙ p.lender;
    }

-- equal bytes put
pub put_is : {b c : Buffer} {s t : List ℕ} → s ≡ t → Put b s c → Put b t c
put_is {b} {c} {s} {t} q p = rw q at p

-- what was put is read again, and the reader stops behind it
pub put_again : {A : Type 0} {b c : Buffer} {s : List ℕ} {r : Answer A} {v : A} → Put b s c → Back c.bytes.now b.at s r v → r ≡ got v c.at
put_again {b = b} {c = c} {s = s} {v = v} p back =
    sym (ap (λ i. got v i) p.next ∙ back.again (drop (b.at + length s) b.bytes.now) (ap (drop b.at) p.memory ∙ laid_here b.bytes.now b.at s p.fits))

-- room for bytes and others behind them is room for the others once the first are put
pub room_then : {b c : Buffer} {s u : List ℕ} (t : List ℕ) → s ++ t ≡ u → Put b s c → Room b u → Room c t
room_then {s = s} t e p h = omega (arith, h, p.next, put-length p, ap length e, length-append s t)

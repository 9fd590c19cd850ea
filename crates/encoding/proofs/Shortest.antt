-- The shortest chain, byte by byte.
use Rattle.std.proofs.Common.{◌≡◌, ℕ, zero, suc, ◌+◌, ◌*◌, ◌/◌, ◌%◌, ◌^◌, ◌<◌, ◌≤◌, ltb, List, [], ◌∷◌, ◌++◌, length, sym, refl, ap, ◌∙◌, append_assoc, pow-suc, arith, length-append}
use Rattle.std.proofs.Math.Nat.{one-le-pow}
use Rattle.std.proofs.lemmas.Nat.{div_below}
use Rattle.std.proofs.lemmas.Bool.{cond-true, cond-false, cond_both, lt-ltb, le-ltb}
use Rattle.tokens.specs.Chains.{radix}
use Rattle.tokens.specs.Encodings.{shortest_in, shortest}
use Rattle.encoding.specs.declared.put.Buffer.{Buffer}
use Rattle.encoding.specs.Laid.{Room, Put}
use Rattle.encoding.proofs.Laying.{put_none, put_then, put_is, put-length}

-- the last byte
last_byte : (k n : ℕ) → n < radix → shortest_in k n ≡ n ∷ []
last_byte zero n h = refl
last_byte (suc k) n h = cond-true _ _ _ (lt-ltb n radix h)

-- a byte that another one follows
next_byte : (k n : ℕ) → radix ≤ n → shortest_in (suc k) n ≡ (n % radix + radix) ∷ shortest_in k (n / radix)
next_byte k n h = cond-false _ _ _ (le-ltb n radix h)

-- there is a byte at least
some_byte : (k n : ℕ) → 0 < length (shortest_in k n)
some_byte zero n = omega arith
some_byte (suc k) n = cond_both (ltb n radix) _ _ (λ l. 0 < length l) (λ e. omega arith) (λ e. omega arith)

-- the bytes `front` of the chain for n were written, and the chain for `left` is yet to come, of at most `more` bytes and one
pub record Left (n : ℕ) (front : List ℕ) (left : ℕ) : Type 0 where
  pub more : ℕ
  pub small : left < radix ^ suc more
  pub rest : front ++ shortest_in more left ≡ shortest n

-- nothing was written
pub left_all : (n : ℕ) → n < 2 ^ 64 → Left n [] n
unfolding shortest
left_all n h = record { more = 9; small = omega arith; rest = refl }

module _ (n : ℕ) (front : List ℕ) (left : ℕ) (l : Left n front left) where
  -- there is room for a byte in the chain
  pub left_room : length front < length (shortest n)
  left_room = omega (arith, some_byte l.more left, length-append front (shortest_in l.more left), ap length l.rest)

  -- a byte that another one follows
  pub left_more : radix ≤ left → Left n (front ++ (left % radix + radix) ∷ []) (left / radix)
  left_more h = go l.more l.small l.rest
    where
      go : (m : ℕ) → left < radix ^ suc m → front ++ shortest_in m left ≡ shortest n → Left n (front ++ (left % radix + radix) ∷ []) (left / radix)
      go zero small rest = absurd (omega arith)
      go (suc m) small rest =
          record {
            more = m;
            small = div_below left radix (radix ^ suc m) (omega arith) (rw pow-suc at small);
            rest = append_assoc front ((left % radix + radix) ∷ []) (shortest_in m (left / radix)) ∙ ap (λ b. front ++ b) (sym (next_byte m left h)) ∙ rest;
          }

  -- the last byte
  pub left_last : left < radix → front ++ left ∷ [] ≡ shortest n
  left_last h = ap (λ b. front ++ b) (sym (last_byte l.more left h)) ∙ l.rest

-- the chain for n is being put into the buffer b: it is c now, and `left` is yet to come
pub record Putting (b : Buffer) (n : ℕ) (c : Buffer) (left : ℕ) : Type 0 where
  pub front : List ℕ
  pub rest : Left n front left
  pub put : Put b front c
  pub room : Room b (shortest n)

pub putting_all : (b : Buffer) (n : ℕ) → n < 2 ^ 64 → Room b (shortest n) → Putting b n b n
putting_all b n h room = record { front = []; rest = left_all n h; put = put_none b (omega arith); room = room }

module _ (b : Buffer) (n : ℕ) (c : Buffer) (left : ℕ) (p : Putting b n c left) where
  -- the next place is in the buffer
  pub putting_inside : c.at < length c.bytes.now
  putting_inside = omega (arith, left_room n p.front left p.rest, p.put.next, put-length p.put, p.room)

  pub putting_more : (d : Buffer) → radix ≤ left → Put c ((left % radix + radix) ∷ []) d → Putting b n d (left / radix)
  putting_more d h q =
      record {
        front = p.front ++ (left % radix + radix) ∷ [];
        rest = left_more n p.front left p.rest h;
        put = put_then p.put q;
        room = p.room;
      }

  pub putting_last : (d : Buffer) → left < radix → Put c (left ∷ []) d → Put b (shortest n) d
  putting_last d h q = put_is (left_last n p.front left p.rest h) (put_then p.put q)

-- a logarithm tells how many bytes there are
step_length : (m k n : ℕ) → n < radix ^ suc m → radix ^ k ≤ n → n < radix * radix ^ k → length (shortest_in m n) ≡ k + 1
step_length m zero n small low high = ap length (last_byte m n (omega arith))
step_length zero (suc k) n small low high =
    let e : radix ^ suc k ≡ radix ^ k * radix = pow-suc radix k in
    let some : 0 < radix ^ k = one-le-pow k radix (omega arith) in
    absurd (omega arith)
step_length (suc m) (suc k) n small low high =
    let e : radix ^ suc k ≡ radix ^ k * radix = pow-suc radix k in
    let some : 0 < radix ^ k = one-le-pow k radix (omega arith) in
    let r = step_length m k (n / radix) (div_below n radix (radix ^ suc m) (omega arith) (rw pow-suc at small)) (omega arith) (omega arith) in
    omega (arith, ap length (next_byte m n (omega arith)), r)

pub log_length : (k n : ℕ) → radix ^ k ≤ n → n < radix * radix ^ k → n < 2 ^ 64 → length (shortest n) ≡ k + 1
unfolding shortest
log_length k n low high h = step_length 9 k n (omega arith) low high

pub zero_length : (n : ℕ) → n ≡ 0 → length (shortest n) ≡ 1
unfolding shortest
zero_length n h = ap length (last_byte 9 n (omega arith))

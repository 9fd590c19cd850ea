-- Lemmas on chains: a loop that has read some bytes of one, and what is left.
use Rattle.std.proofs.Common.{◌≡◌, ℕ, zero, suc, ◌+◌, ◌-◌, ◌*◌, ◌%◌, ◌^◌, ◌<◌, ◌≤◌, List, length, get_or, drop, Ok, Err, Result, sym, refl, mod-eq_of_lt, mul_assoc, mul_comm, mul-add, arith}
use native.Mathlib.Nat.{pow-le-pow_right}
use Rattle.std.proofs.lemmas.List.{drop_more, drop_all}
use Rattle.std.proofs.lemmas.Bool.{le-ltb, lt-ltb}
use Rattle.tokens.specs.declared.fault.FaultKind.TheVariants.{Cut, Wide}
use Rattle.tokens.specs.declared.fault.FaultKind.{FaultKind}
use Rattle.tokens.specs.Answers.{fault}
use Rattle.tokens.specs.Chains.{chain_bytes, radix, before, chain, unsigned}

-- n bytes were read, of the value v, and the next byte counts s times its bits
abbrev pub along : ℕ → ℕ → ℕ → Result (ℕ × ℕ) FaultKind → Result (ℕ × ℕ) FaultKind
along v s n (Ok p) = Ok (v + s * p.0, n + p.1)
along v s n (Err k) = Err k

-- one byte more was read
along_before : (v s n b : ℕ) (t : Result (ℕ × ℕ) FaultKind) → along v s n (before b t) ≡ along (v + b % radix * s) (s * radix) (n + 1) t
along_before v s n b (Ok p) =
    let w = p.0 in
    let e : v + s * (b % 128 + 128 * w) ≡ v + b % 128 * s + s * 128 * w = rw (mul-add, ← mul_assoc, mul_comm s (b % 128)) (omega arith) in
    let f : n + suc p.1 ≡ n + 1 + p.1 = omega arith in
    cc
along_before v s n b (Err k) = refl

-- the bytes end
chain-end : (k room : ℕ) (bs : List ℕ) → 0 < room → length bs ≤ k → chain room (drop k bs) ≡ Err Cut
chain-end k (suc room) bs h e = rw drop_all
chain-end k zero bs h e = absurd (omega arith)

-- a last byte
chain_last : (k room : ℕ) (bs : List ℕ) → 0 < room → k < length bs → get_or bs k 0 < radix → chain room (drop k bs) ≡ Ok (get_or bs k 0, 1)
chain_last k (suc room) bs h e l = rw (drop_more bs k 0 e, lt-ltb _ _ l)
chain_last k zero bs h e l = absurd (omega arith)

-- a byte that others follow
chain_more : (k room : ℕ) (bs : List ℕ) → k < length bs → radix ≤ get_or bs k 0 → chain (suc room) (drop k bs) ≡ before (get_or bs k 0) (chain room (drop (k + 1) bs))
chain_more k room bs e l = rw (drop_more bs k 0 e, le-ltb _ _ l)

-- what a loop keeps that has read k bytes: those and the chain that is left are the whole chain
abbrev pub Reading : ℕ → ℕ → ℕ → List ℕ → Type 0
Reading v s k bs = along v s k (chain (chain_bytes - k) (drop k bs)) ≡ chain chain_bytes bs

module _ (v s k : ℕ) (bs : List ℕ) (h : k < chain_bytes) (inv : Reading v s k bs) where
  -- the bytes end here
  pub cut_here : length bs ≤ k → chain chain_bytes bs ≡ Err Cut
  cut_here e = let p : 0 < chain_bytes - k = omega arith in rw (← inv, chain-end k (chain_bytes - k) bs p e)

  -- the byte here is the chain's last
  pub last_here : k < length bs → get_or bs k 0 < radix → chain chain_bytes bs ≡ Ok (v + get_or bs k 0 % radix * s, k + 1)
  last_here e l =
      let p : 0 < chain_bytes - k = omega arith in
      let q : get_or bs k 0 % radix ≡ get_or bs k 0 = mod-eq_of_lt l in
      rw (← inv, chain_last k (chain_bytes - k) bs p e l, q, mul_comm (get_or bs k 0) s)

  -- another byte follows
  pub more_here : k < length bs → radix ≤ get_or bs k 0 → Reading (v + get_or bs k 0 % radix * s) (s * radix) (k + 1) bs
  more_here e l =
      let p : chain_bytes - k ≡ suc (chain_bytes - (k + 1)) = omega arith in
      let r : along v s k (chain (suc (chain_bytes - (k + 1))) (drop k bs)) ≡ chain chain_bytes bs = rw p at inv in
      rw (← along_before) (rw (chain_more k (chain_bytes - (k + 1)) bs e l) at r)

-- all the bytes that a chain may have were read, and another follows
pub wide_here : (v s k : ℕ) (bs : List ℕ) → k ≡ chain_bytes → Reading v s k bs → chain chain_bytes bs ≡ Err Wide
wide_here v s k bs h inv = let i : along v s chain_bytes (chain 0 (drop chain_bytes bs)) ≡ chain chain_bytes bs = rw h at inv in sym i

-- what the byte at k counts, within a chain
pub scale_small : (k : ℕ) → k < chain_bytes → radix ^ k ≤ 2 ^ 63
scale_small k h = pow-le-pow_right {n = radix} (omega arith) {i = k} {j = 9} (omega arith)

-- past the end of the file nothing can be read
pub past_end : (at : ℕ) (file : List ℕ) → length file ≤ at → unsigned file at ≡ fault Cut at
unfolding unsigned
past_end at file h = rw drop_all

-- Where a chain is read, where it is cut and where it is too wide.
use Rattle.std.proofs.Common.{◌≡◌, ℕ, zero, suc, ◌+◌, ◌-◌, ◌<◌, ◌≤◌, ltb, leb, ◌⊎◌, List, [], ◌∷◌, ◌++◌, length, take, drop, IfOk, Ok, Err, Result, sym, refl, ap, ◌∙◌, inl, inr, ⊎_elim, arith, length-drop}
use Rattle.std.proofs.lemmas.List.{length-take-le, take-append-drop}
use Rattle.std.proofs.lemmas.Bool.{le-ltb, lt-ltb, le-leb, lt-leb, cond_both, ltb-true, ltb-false, leb-true, leb-false, cond-true, cond-false}
use Rattle.tokens.specs.declared.fault.FaultKind.TheVariants.{Cut, Wide}
use Rattle.tokens.specs.declared.fault.FaultKind.{FaultKind}
use Rattle.tokens.specs.Answers.{Answer, got, fault}
use Rattle.tokens.specs.Chains.{largest, chain_bytes, radix, Chain, last, more, before, chain, placed, unsigned}
use Rattle.tokens.specs.Faults.{number_of}
use Rattle.tokens.specs.Laws.{ChainAt, Open, ReadsChains, ChainsAreRead, CutsExactly, WideExactly, NoOtherAnswer, UnsignedMade}
use Rattle.tokens.specs.Readers.{Made, GoesOn}
use Rattle.tokens.proofs.Chaining.{same_got, same_fault, not_fault}
use Rattle.tokens.proofs.Mades.{made_got, made_fault, made_by}

-- what each outcome of a chain says of the bytes
abbrev Judged : ℕ → List ℕ → Result (ℕ × ℕ) FaultKind → Type 0
Judged room bs (Ok p) = Chain (take p.1 bs) p.0 × (0 < p.1) × (p.1 ≤ length bs) × (p.1 ≤ room)
Judged room bs (Err k) = ((k ≡ Cut) × (length bs < room) × Open bs) ⊎ ((k ≡ Wide) × (room ≤ length bs) × Open (take room bs))

-- one byte more in front
judged_before : (room b : ℕ) (bs : List ℕ) (t : Result (ℕ × ℕ) FaultKind) → radix ≤ b → Judged room bs t → Judged (suc room) (b ∷ bs) (before b t)
judged_before room b bs (Ok p) h j = (more h j.0, omega arith, omega arith, omega arith)
judged_before room b bs (Err k) h j =
    ⊎_elim (λ (c : (k ≡ Cut) × (length bs < room) × Open bs). inl (c.0, omega arith, (h, c.2)))
    (λ (w : (k ≡ Wide) × (room ≤ length bs) × Open (take room bs)). inr (w.0, omega arith, (h, w.2)))
    j

-- and it says so
judged : (room : ℕ) (bs : List ℕ) → Judged room bs (chain room bs)
judged zero bs = inr (refl, omega arith, tt)
judged (suc room) [] = inl (refl, omega arith, tt)
judged (suc room) (b ∷ bs) =
    cond_both (ltb b radix) (Ok (b, 1)) (before b (chain room bs)) (Judged (suc room) (b ∷ bs))
    (λ e. (last (ltb-true _ _ e), omega arith, omega arith, omega arith))
    (λ e. judged_before room b bs (chain room bs) (ltb-false _ _ e) (judged room bs))

-- a chain is read, whatever follows it
pub chain_read : (room : ℕ) (rest : List ℕ) {bs : List ℕ} {v : ℕ} → Chain bs v → length bs ≤ room → chain room (bs ++ rest) ≡ Ok (v, length bs)
chain_read zero rest (last h) l = absurd (omega arith)
chain_read zero rest (more h r) l = absurd (omega arith)
chain_read (suc room) rest (last h) l = rw (lt-ltb _ _ h)
chain_read (suc room) rest (more h r) l = rw (le-ltb _ _ h, chain_read room rest r (omega arith))

-- bytes that each say that another follows, and too few
chain_cut : (room : ℕ) (bs : List ℕ) → length bs < room → Open bs → chain room bs ≡ Err Cut
chain_cut zero bs l h = absurd (omega arith)
chain_cut (suc room) [] l h = refl
chain_cut (suc room) (b ∷ bs) l h = rw (le-ltb _ _ h.0, chain_cut room bs (omega arith) h.1)

-- bytes that each say that another follows, and too many
chain_wide : (room : ℕ) (bs : List ℕ) → room ≤ length bs → Open (take room bs) → chain room bs ≡ Err Wide
chain_wide zero bs l h = refl
chain_wide (suc room) [] l h = absurd (omega arith)
chain_wide (suc room) (b ∷ bs) l h = rw (le-ltb _ _ h.0, chain_wide room bs (omega arith) h.1)

-- the two faults differ
not_wide_cut : {P : Type 0} {at : ℕ} → ◌≡◌ {A = Answer ℕ} (fault Wide at) (fault Cut at) → P
not_wide_cut e = absurd (omega (arith, ap number_of (same_fault e)))

-- what is answered of a chain is one of these
data Outcome (file : List ℕ) (at : ℕ) : Answer ℕ → Type 0 where
  read : (v n : ℕ) → at < n → ChainAt file at v n → v ≤ largest → Outcome file at (got v n)
  great : (v n : ℕ) → ChainAt file at v n → largest < v → Outcome file at (fault Wide at)
  ends : length file - at < chain_bytes → Open (drop at file) → Outcome file at (fault Cut at)
  never : chain_bytes ≤ length file - at → Open (take chain_bytes (drop at file)) → Outcome file at (fault Wide at)

-- a chain of n bytes at the front of what is left of the file
chain_at : (file : List ℕ) (at v n : ℕ) → Chain (take n (drop at file)) v → 0 < n → n ≤ length (drop at file) → n ≤ chain_bytes → ChainAt file at v (at + n)
chain_at file at v n c p l m =
    let e : at + n - at ≡ n = omega arith in
    record { onward = omega arith; inside = omega (arith, length-drop at file); few = omega arith; bytes = rw e c }

-- what is answered of a judged chain
outcome_of : (file : List ℕ) (at : ℕ) (t : Result (ℕ × ℕ) FaultKind) → Judged chain_bytes (drop at file) t → Outcome file at (placed at t)
outcome_of file at (Ok p) j =
    let c = chain_at file at p.0 p.1 j.0 j.1 j.2 j.3 in
    cond_both (leb p.0 largest) (got p.0 (at + p.1)) (fault Wide at) (Outcome file at)
    (λ e. read p.0 (at + p.1) (omega (arith, j.1)) c (leb-true _ _ e))
    (λ e. great p.0 (at + p.1) c (leb-false _ _ e))
outcome_of file at (Err k) j =
    let d = length-drop at file in
    ⊎_elim (λ (c : (k ≡ Cut) × (length (drop at file) < chain_bytes) × Open (drop at file)). rw c.0 (ends (omega arith) c.2))
    (λ (w : (k ≡ Wide) × (chain_bytes ≤ length (drop at file)) × Open (take chain_bytes (drop at file))). rw w.0 (never (omega arith) w.2))
    j

-- what is answered of the bytes at a place
outcome : (file : List ℕ) (at : ℕ) → Outcome file at (unsigned file at)
unfolding unsigned
outcome file at = outcome_of file at (chain chain_bytes (drop at file)) (judged chain_bytes (drop at file))

-- what is read is a chain
read_from : (file : List ℕ) (at v n : ℕ) {r : Answer ℕ} → Outcome file at r → r ≡ got v n → ChainAt file at v n × (v ≤ largest)
read_from file at v n (read w m p c l) e = let s = same_got e in rw (← s.0, ← s.1) (c, l)
read_from file at v n (great w m c l) e = not_fault (sym e)
read_from file at v n (ends l o) e = not_fault (sym e)
read_from file at v n (never l o) e = not_fault (sym e)

-- an integer is read only where a chain stands
pub reads_chains : ReadsChains
reads_chains file at v n e = read_from file at v n (outcome file at) e

-- a chain that stands in the file is the one at the front of what is left
chain_of : (file : List ℕ) (at v n : ℕ) → ChainAt file at v n → chain chain_bytes (drop at file) ≡ Ok (v, n - at)
chain_of file at v n c =
    let m : ℕ = n - at in
    let l : length (take m (drop at file)) ≡ m = length-take-le m (drop at file) (omega (arith, c.inside, length-drop at file)) in
    let p : chain chain_bytes (take m (drop at file) ++ drop m (drop at file)) ≡ Ok (v, length (take m (drop at file))) = chain_read chain_bytes (drop m (drop at file)) c.bytes (omega (arith, c.few)) in
    rw (take-append-drop m (drop at file), l) at p

-- each chain is read
pub chains_are_read : ChainsAreRead
unfolding unsigned
chains_are_read file at v n c h =
    let a : at + (n - at) ≡ n = omega (arith, c.onward) in
    ap (placed at) (chain_of file at v n c) ∙ cond-true (leb v largest) _ _ (le-leb _ _ h) ∙ ap (λ k. got v k) a

-- where an integer is cut
cut_from : (file : List ℕ) (at : ℕ) {r : Answer ℕ} → Outcome file at r → r ≡ fault Cut at → (length file - at < chain_bytes) × Open (drop at file)
cut_from file at (read w m p c l) e = not_fault e
cut_from file at (great w m c l) e = not_wide_cut e
cut_from file at (ends l o) e = (l, o)
cut_from file at (never l o) e = not_wide_cut e

-- both ways
pub cuts_exactly : CutsExactly
unfolding unsigned
cuts_exactly file at =
    (cut_from file at (outcome file at), λ h. ap (placed at) (chain_cut chain_bytes (drop at file) (omega (arith, length-drop at file, h.0)) h.1))

-- where an integer is too wide
wide_from : (file : List ℕ) (at : ℕ) {r : Answer ℕ} → Outcome file at r → r ≡ fault Wide at → ((chain_bytes ≤ length file - at) × Open (take chain_bytes (drop at file))) ⊎ ((v : ℕ) × (n : ℕ) × ChainAt file at v n × (largest < v))
wide_from file at (read w m p c l) e = not_fault e
wide_from file at (great w m c l) e = inr (w, m, c, l)
wide_from file at (ends l o) e = not_wide_cut (sym e)
wide_from file at (never l o) e = inl (l, o)

-- both ways
pub wide_exactly : WideExactly
unfolding unsigned
wide_exactly file at = (
  wide_from file at (outcome file at),
  ⊎_elim
      (λ (h : (chain_bytes ≤ length file - at) × Open (take chain_bytes (drop at file))). ap (placed at) (chain_wide chain_bytes (drop at file) (omega (arith, length-drop at file, h.0)) h.1))
      (λ (h : (v : ℕ) × (n : ℕ) × ChainAt file at v n × (largest < v)). ap (placed at) (chain_of file at h.0 h.1 h.2) ∙ cond-false (leb h.0 largest) _ _ (lt-leb _ _ h.3)),
)

-- no other answer
answer_from : (file : List ℕ) (at : ℕ) {r : Answer ℕ} → Outcome file at r → ((v : ℕ) × (n : ℕ) × (r ≡ got v n)) ⊎ ((r ≡ fault Cut at) ⊎ (r ≡ fault Wide at))
answer_from file at (read w m p c l) = inl (w, m, refl)
answer_from file at (great w m c l) = inr (inr refl)
answer_from file at (ends l o) = inr (inl refl)
answer_from file at (never l o) = inr (inr refl)

-- of any bytes
pub no_other_answer : NoOtherAnswer
no_other_answer file at = answer_from file at (outcome file at)

-- what is made of an unsigned integer
made_from : (file : List ℕ) (at : ℕ) {r : Answer ℕ} → Outcome file at r → Made file (suc at) r (λ v n. v ≤ largest)
made_from file at (read w m p c l) = made_got w m p c.inside l
made_from file at (great w m c l) = made_fault _
made_from file at (ends l o) = made_fault _
made_from file at (never l o) = made_fault _

-- of any bytes
pub unsigned_made : UnsignedMade
unsigned_made file at = made_from file at (outcome file at)

-- what the reader of one promises
pub unsigned_within : (file : List ℕ) (at : ℕ) (r : Answer ℕ) → r ≡ unsigned file at → IfOk r (λ x. (x.value ≤ largest) × GoesOn file at x)
unsigned_within file at r e = made_by _ e (unsigned_made file at) (λ x l h p. (p, (l, h)))

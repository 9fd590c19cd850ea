-- Loops that read one thing after the other.
use Rattle.std.proofs.Common.{◌≡◌, ℕ, zero, suc, ◌+◌, ◌-◌, ◌<◌, ◌≤◌, List, [], ◌∷◌, length, Ok, Err, sym, refl, ap, arith}
use Rattle.std.specs.List.{AllByRecursion as Every}
use Rattle.tokens.specs.declared.fault.Read.{Read}
use Rattle.tokens.specs.declared.fault.TokenFault.{TokenFault}
use Rattle.tokens.specs.Answers.{Answer, got, then}
use Rattle.tokens.specs.Readers.{Made}
use Rattle.tokens.proofs.Mades.{made_then, made_got, made_weaken}
use Rattle.point_lists.specs.Rolls.{unrolled, tally}

module _ {S T : Type 0} (f : ℕ → S → Answer S) (g : T → S → T) where
  join : (t : T) (s : S) (r : Answer (List S)) → tally g t (then r λ ss n. got (s ∷ ss) n) ≡ tally g (g t s) r
  join t s (Ok ss) = refl
  join t s (Err e) = refl

  -- one step more
  pub tally_more : (t : T) (n i at : ℕ) (s : S) (x : Read S) → i < n → Ok x ≡ f at s → tally g t (unrolled f (n - i) at s) ≡ tally g (g t x.value) (unrolled f (n - (i + 1)) x.next x.value)
  unfolding unrolled
  tally_more t n i at s x h e =
      let k : n - i ≡ suc (n - (i + 1)) = omega arith in
      rw (k, sym e) (join t x.value (unrolled f (n - (i + 1)) x.next x.value))

  -- a fault in the next step
  pub tally_stop : (t : T) (n i at : ℕ) (s : S) (d : TokenFault) → i < n → Err d ≡ f at s → tally g t (unrolled f (n - i) at s) ≡ Err d
  unfolding unrolled
  tally_stop t n i at s d h e = let k : n - i ≡ suc (n - (i + 1)) = omega arith in rw (k, sym e)

  -- no step is left
  pub tally_none : (t : T) (n i at : ℕ) (s : S) → n ≤ i → tally g t (unrolled f (n - i) at s) ≡ got t at
  unfolding unrolled
  tally_none t n i at s h = let k : n - i ≡ 0 = omega arith in rw k

-- each state follows from the one before
abbrev pub Follow : {S : Type 0} → (S → S → Type 0) → S → List S → Type 0
Follow P s [] = Unit {0}
Follow P s (t ∷ ts) = P s t × Follow P t ts

-- what so many steps make, where each goes on, keeps I and does P
pub record Rolled {S : Type 0} (I : S → Type 0) (P : S → S → Type 0) (n : ℕ) (s : S) (ts : List S) : Type 0 where
  pub many : length ts ≡ n
  pub kept : Every I ts
  pub each : Follow P s ts

module _ {S : Type 0} (file : List ℕ) (f : ℕ → S → Answer S) (I : S → Type 0) (P : S → S → Type 0) (step : (at : ℕ) (s : S) → I s → Made file (suc at) (f at s) (λ t n. I t × P s t)) where
  pub unrolled_made : (n at : ℕ) (s : S) → at ≤ length file → I s → Made file at (unrolled f n at s) (λ ts m. Rolled I P n s ts)
  unfolding unrolled
  unrolled_made zero at s inside i = made_got [] at (omega arith) inside (record { many = refl; kept = tt; each = tt })
  unrolled_made (suc n) at s inside i =
      made_weaken {least = suc at} (omega arith) (λ v m h p. p)
      (made_then _ (step at s i)
      (λ t m l h p. made_then _ (unrolled_made n m t h p.0)
      (λ ts k q j r. made_got (t ∷ ts) k (omega arith) j (record { many = ap suc r.many; kept = (p.0, r.kept); each = (p.1, r.each) }))))

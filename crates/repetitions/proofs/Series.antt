-- Things that are read one after the other.
use Rattle.std.proofs.Common.{◌≡◌, ℕ, zero, suc, ◌+◌, ◌-◌, ◌<◌, ◌≤◌, List, [], ◌∷◌, length, Ok, Err, sym, refl, ap, ◌∙◌, arith}
use Rattle.tokens.specs.declared.fault.Read.{Read}
use Rattle.tokens.specs.declared.fault.TokenFault.{TokenFault}
use Rattle.tokens.specs.Answers.{Answer, got, then}
use Rattle.tokens.proofs.Chaining.{same_got, not_fault}
use Rattle.repetitions.specs.Spaces.{series}

-- what follows a reader may be another that answers the same there
pub then_same : {A B : Type 0} (m : Answer A) (f g : A → ℕ → Answer B) → ((v : A) (n : ℕ) → got v n ≡ m → f v n ≡ g v n) → then m f ≡ then m g
then_same (Ok x) f g h = h x.value x.next refl
then_same (Err e) f g h = refl

module _ {A B : Type 0} (r : List ℕ → ℕ → Answer A) (f : List A → ℕ → Answer B) (file : List ℕ) (n i at : ℕ) where
  join : (v : A) (m : Answer (List A)) → then (then m (λ vs k. got (v ∷ vs) k)) f ≡ then m (λ vs k. f (v ∷ vs) k)
  join v (Ok x) = refl
  join v (Err e) = refl

  -- the first of those that are left was read
  pub series_more : (x : Read A) → i < n → Ok x ≡ r file at → then (series r (n - i) file at) f ≡ then (series r (n - (i + 1)) file x.next) (λ vs k. f (x.value ∷ vs) k)
  unfolding series
  series_more x h e =
      let k : n - i ≡ suc (n - (i + 1)) = omega arith in
      rw (k, sym e) (join x.value (series r (n - (i + 1)) file x.next))

  -- the first of those that are left is at fault
  pub series_stop : (x : TokenFault) → i < n → Err x ≡ r file at → then (series r (n - i) file at) f ≡ Err x
  unfolding series
  series_stop x h e =
      let k : n - i ≡ suc (n - (i + 1)) = omega arith in
      rw (k, sym e)

  -- none is left
  pub series_none : n ≤ i → then (series r (n - i) file at) f ≡ f [] at
  unfolding series
  series_none h =
      let k : n - i ≡ 0 = omega arith in
      rw k

-- as many things as were asked for
pub series-length : {A : Type 0} (r : List ℕ → ℕ → Answer A) (file : List ℕ) (k at : ℕ) (vs : List A) (n : ℕ) → got vs n ≡ series r k file at → length vs ≡ k
unfolding series
series-length r file zero at vs n e = ap length (same_got e).0
series-length {A = A} r file (suc k) at vs n e = first (r file at) (λ j ws i p. series-length r file k j ws i p) e
  where
    second : (v : A) (m : Answer (List A)) → ((ws : List A) (i : ℕ) → got ws i ≡ m → length ws ≡ k) → got vs n ≡ then m (λ ws i. got (v ∷ ws) i) → length vs ≡ suc k
    second v (Ok x) h q = ap length (same_got q).0 ∙ ap suc (h x.value x.next refl)
    second v (Err d) h q = not_fault q

    first : (a : Answer A) → ((j : ℕ) (ws : List A) (i : ℕ) → got ws i ≡ series r k file j → length ws ≡ k) → got vs n ≡ then a (λ v i. then (series r k file i) (λ ws j. got (v ∷ ws) j)) → length vs ≡ suc k
    first (Ok x) h q = second x.value (series r k file x.next) (h x.next) q
    first (Err d) h q = not_fault q

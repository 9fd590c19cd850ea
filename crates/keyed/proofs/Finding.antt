-- Finding by a test that decides equality of keys.
use Rattle.std.proofs.Common.{◌≡◌, ℕ, Bool, false, List, [], ◌∷◌, length, get_or, take, Some, None, Decides, Option, cond, nat_lt, ◌≤◌, sym, refl, ap, ◌∙◌, arith, length-take}
use Rattle.std.specs.List.{position_or_len}
use Rattle.std.proofs.ByRecursion.{All-from_get_or}
use Rattle.std.proofs.lemmas.List.{get_or-take}
use Rattle.std.proofs.lemmas.List.Quantifiers.{position-Some}
use Rattle.std.proofs.lemmas.List.Sums.{fails_before_first}
use Rattle.std.proofs.lemmas.Bool.Decides.{not_from_Decides, nat_tests}
use Rattle.keyed.specs.declared.table.Entry.{Entry}
use Rattle.keyed.specs.Rows.{has_key, find_key}
use Rattle.keyed.specs.Found.{Found}

module _ {K V : Type 0} (same : K → K → Bool) (decides : (a b : K) → Decides (same a b) (a ≡ b)) (key : K) where
  other : (row d : Entry K V) → row ≡ d → same d.key key ≡ false → row.key ≡ key → ⊥
  other row d e n = not_from_Decides _ (decides row.key key) (ap (λ r. same r.key key) e ∙ n)

  pub found_is : (rows : List (Entry K V)) (o : Option ℕ) → o ≡ find_key same key rows → Found key rows o
  found_is [] (Some i) e = cc
  found_is (row ∷ rows) (Some i) e =
      let at = position-Some (has_key same key) (row ∷ rows) i in
      record {
        within = (at row (sym e)).0;
        here = λ d. (decides _ key).0 (at d (sym e)).1;
        earlier = All-from_get_or _ (take i (row ∷ rows)) row (λ k h. other _ _ (get_or-take i (row ∷ rows) k row (omega (arith, length-take i (row ∷ rows)))) ((at row (sym e)).2 k (omega (arith, length-take i (row ∷ rows)))));
      }
  found_is [] None e = tt
  found_is (row ∷ rows) None e =
      All-from_get_or _ (row ∷ rows) row (λ k h. let x = get_or (row ∷ rows) k row in other x x refl (fails_before_first (has_key same key) (row ∷ rows) k row (omega (arith, none_before (position_or_len (has_key same key) (row ∷ rows)) (length (row ∷ rows)) e))))
    where
      none_before : (i n : ℕ) → None ≡ cond (nat_lt i n) (Some i) None → n ≤ i
      none_before i n e = grind (arith, nat_tests)

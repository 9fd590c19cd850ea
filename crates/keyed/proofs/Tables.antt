-- Laws of the table's definitions.
use Rattle.std.proofs.Common.{◌≡◌, ℕ, zero, suc, ◌+◌, ◌<◌, ◌≤◌, List, [], ◌∷◌, ◌++◌, length, get_or, take, drop, set, replicate, sym, refl, ap, ◌∙◌, arith}
use Rattle.std.proofs.lemmas.List.{set-append_right, length-replicate, drop_more, drop_all, append_assoc, append-nil, replicate_more}
use Rattle.keyed.specs.declared.table.Entry.{Entry}
use Rattle.keyed.specs.Rows.{updated}

module _ {K V : Type 0} where
  pub take-updated : (u i : ℕ) (xs : List (Entry K V)) (x : Entry K V) (v : V) → i < u → take u (set xs i (record { key = (get_or xs i x).key; value = v })) ≡ updated (take u xs) i v
  take-updated zero i xs x v h = absurd (omega arith)
  take-updated (suc u) i [] x v h = refl
  take-updated (suc u) zero (r ∷ xs) x v h = refl
  take-updated (suc u) (suc i) (r ∷ xs) x v h = ap (λ l. r ∷ l) (take-updated u i xs x v (omega arith))

  pub updated_past : (xs : List (Entry K V)) (i : ℕ) (v : V) → length xs ≤ i → updated xs i v ≡ xs
  updated_past [] i v h = refl
  updated_past (r ∷ xs) zero v h = absurd (omega arith)
  updated_past (r ∷ xs) (suc i) v h = ap (λ l. r ∷ l) (updated_past xs i v (omega arith))

  -- the value at i is another, and no other row changes
  pub set_updated : (xs : List (Entry K V)) (i : ℕ) (x : Entry K V) (v : V) → set xs i (record { key = (get_or xs i x).key; value = v }) ≡ updated xs i v
  set_updated [] i x v = refl
  set_updated (r ∷ xs) zero x v = refl
  set_updated (r ∷ xs) (suc i) x v = ap (λ l. r ∷ l) (set_updated xs i x v)

-- one row more is written, behind the i rows that were
pub cleared_more : {X : Type 0} (zs xs : List X) (z : X) (i : ℕ) → i < length xs → zs ≡ replicate i z ++ drop i xs → set zs i z ≡ replicate (i + 1) z ++ drop (i + 1) xs
cleared_more zs xs z i h e =
    ap (λ l. set l i z) e
    ∙ set-append_right (replicate i z) (drop i xs) i i z (length-replicate i z) (omega arith)
    ∙ ap (λ l. replicate i z ++ l) (ap (λ k. set (drop i xs) k z) (omega arith) ∙ ap (λ l. set l 0 z) (drop_more xs i z h))
    ∙ sym (append_assoc (replicate i z) (z ∷ []) (drop (i + 1) xs))
    ∙ ap (λ l. l ++ drop (i + 1) xs) (replicate_more i z)

-- all rows are written
pub cleared_all : {X : Type 0} (zs xs : List X) (z : X) (i : ℕ) → length xs ≤ i → i ≤ length xs → zs ≡ replicate i z ++ drop i xs → zs ≡ replicate (length xs) z
cleared_all zs xs z i h k e =
    e ∙ ap (λ l. replicate i z ++ l) (drop_all i xs h) ∙ append-nil _ ∙ ap (λ n. replicate n z) (omega arith)

-- Laws of first elements.
use Rattle.std.proofs.Common.{◌≡◌, ℕ, zero, suc, ◌<◌, Bool, true, false, cond, not, ◌||◌, List, [], ◌∷◌, ◌++◌, length, get_or, Some, filter, sym, refl, ap, ◌∙◌, ⊎_elim, arith}
use Rattle.std.specs.List.{list_any, find, AllByRecursion as Every}
use Rattle.std.proofs.lemmas.List.Elements.{filter-append}
use Rattle.std.proofs.ByRecursion.{All-get_or, All-from_get_or, All-push, all_kept_by, All-weaker, kept_by_passes}
use Rattle.std.proofs.lemmas.List.{append-nil}
use Rattle.std.proofs.lemmas.Bool.{cond-true, cond-false, cases_Bool, not-true, or_right}
use Rattle.keyed.specs.Firsts.{firsts, EachTwo}

module _ {X : Type 0} where
  module _ (R : X → X → Type 0) where
    pub each_two_push : (xs : List X) (y : X) → EachTwo R xs → Every (λ x. R x y) xs → EachTwo R (xs ++ y ∷ [])
    each_two_push [] y e a = (tt, tt)
    each_two_push (x ∷ xs) y e a = (All-push (R x) xs y e.0 a.0, each_two_push xs y e.1 a.1)

    all_front : (P : X → Type 0) (xs ys : List X) → Every P (xs ++ ys) → Every P xs
    all_front P [] ys a = tt
    all_front P (x ∷ xs) ys a = (a.0, all_front P xs ys a.1)

    all_last : (P : X → Type 0) (xs : List X) (y : X) → Every P (xs ++ y ∷ []) → P y
    all_last P [] y a = a.0
    all_last P (x ∷ xs) y a = all_last P xs y a.1

    pub each_two_front : (xs ys : List X) → EachTwo R (xs ++ ys) → EachTwo R xs
    each_two_front [] ys e = tt
    each_two_front (x ∷ xs) ys e = (all_front (R x) xs ys e.0, each_two_front xs ys e.1)

    pub each_two_last : (xs : List X) (y : X) → EachTwo R (xs ++ y ∷ []) → Every (λ x. R x y) xs
    each_two_last [] y e = tt
    each_two_last (x ∷ xs) y e = (all_last (R x) xs y e.0, each_two_last xs y e.1)

    -- the same by places
    pub each_two_at : (xs : List X) (d : X) → EachTwo R xs → (i j : ℕ) → i < j → j < length xs → R (get_or xs i d) (get_or xs j d)
    each_two_at [] d e i j l h = absurd (omega arith)
    each_two_at (x ∷ xs) d e i zero l h = absurd (omega arith)
    each_two_at (x ∷ xs) d e zero (suc j) l h = All-get_or (R x) xs j d (omega arith) e.0
    each_two_at (x ∷ xs) d e (suc i) (suc j) l h = each_two_at xs d e.1 i j (omega arith) (omega arith)

    pub at_each_two : (xs : List X) (d : X) → ((i j : ℕ) → i < j → j < length xs → R (get_or xs i d) (get_or xs j d)) → EachTwo R xs
    at_each_two [] d f = tt
    at_each_two (x ∷ xs) d f =
        (All-from_get_or (R x) xs d (λ j h. f 0 (suc j) (omega arith) (omega arith)), at_each_two xs d (λ i j l h. f (suc i) (suc j) (omega arith) (omega arith)))

  module _ (like : X → X → Bool) where
    pub all_firsts : (P : X → Type 0) (xs : List X) → Every P xs → Every P (firsts like xs)
    all_firsts P [] a = tt
    all_firsts P (x ∷ xs) a = (a.0, all_kept_by (λ y. not (like x y)) P (firsts like xs) (all_firsts P xs a.1))

    -- one element more at the end
    pub firsts_push : (xs : List X) (y : X) → firsts like (xs ++ y ∷ []) ≡ cond (list_any (λ x. like x y) xs) (firsts like xs) (firsts like xs ++ y ∷ [])
    firsts_push [] y = refl
    firsts_push (x ∷ xs) y =
        ap (λ l. x ∷ filter (λ z. not (like x z)) l) (firsts_push xs y)
        ∙ elim (list_any (λ z. like z y) xs) as (λ t. ◌≡◌ {A = List X} (x ∷ filter (λ z. not (like x z)) (cond t (firsts like xs) (firsts like xs ++ y ∷ []))) (cond (like x y || t) (x ∷ filter (λ z. not (like x z)) (firsts like xs)) (x ∷ filter (λ z. not (like x z)) (firsts like xs) ++ y ∷ []))) [
          | true ↦ sym (cond-true (like x y || true) _ _ (or_right _ _ refl))
          | false ↦ ap (λ l. x ∷ l) (filter-append (λ z. not (like x z)) (firsts like xs) (y ∷ []))
              ∙ elim (like x y) as (λ t. ◌≡◌ {A = List X} (x ∷ filter (λ z. not (like x z)) (firsts like xs) ++ cond (not t) (y ∷ []) []) (cond (t || false) (x ∷ filter (λ z. not (like x z)) (firsts like xs)) (x ∷ filter (λ z. not (like x z)) (firsts like xs) ++ y ∷ []))) [
                | true ↦ append-nil (x ∷ filter (λ z. not (like x z)) (firsts like xs))
                | false ↦ refl
              ]
        ]

    -- where like elements are one, a test passes one of the firsts exactly when it passes one of all
    any_others : (p : X → Bool) (x : X) (ys : List X) → Every (λ y. like x y ≡ true → x ≡ y) ys → (p x || list_any p (filter (λ y. not (like x y)) ys)) ≡ (p x || list_any p ys)
    any_others p x [] a = refl
    any_others p x (y ∷ ys) a = ⊎_elim
        (λ e. ap (λ t. p x || list_any p (cond (not t) (y ∷ filter (λ z. not (like x z)) ys) (filter (λ z. not (like x z)) ys))) e
        ∙ any_others p x ys a.1
        ∙ twice (p x) (p y) (list_any p ys) (ap p (a.0 e)))
        (λ e. ap (λ t. p x || list_any p (cond (not t) (y ∷ filter (λ z. not (like x z)) ys) (filter (λ z. not (like x z)) ys))) e
        ∙ over (p x) (p y) _ _ (any_others p x ys a.1))
        (cases_Bool (like x y))
      where
        twice : (s t u : Bool) → s ≡ t → (s || u) ≡ (s || (t || u))
        twice true t u e = refl
        twice false true u e = ap (λ b. b || u) e
        twice false false u e = refl

        over : (s t u v : Bool) → (s || u) ≡ (s || v) → (s || (t || u)) ≡ (s || (t || v))
        over true t u v e = refl
        over false true u v e = refl
        over false false u v e = e

    pub any-firsts : (p : X → Bool) (xs : List X) → EachTwo (λ x y. like x y ≡ true → x ≡ y) xs → list_any p (firsts like xs) ≡ list_any p xs
    any-firsts p [] e = refl
    any-firsts p (x ∷ xs) e =
        any_others p x (firsts like xs) (all_firsts (λ y. like x y ≡ true → x ≡ y) xs e.0) ∙ ap (λ t. p x || t) (any-firsts p xs e.1)

    -- a test that like elements pass alike finds the same among the firsts
    module _ (p : X → Bool) (alike : (x y : X) → like x y ≡ true → p x ≡ false → p y ≡ false) where
      find_others : (x : X) (ys : List X) → p x ≡ false → find p (filter (λ y. not (like x y)) ys) ≡ find p ys
      find_others x [] n = refl
      find_others x (y ∷ ys) n = ⊎_elim
          (λ e. ap (λ t. find p (cond (not t) (y ∷ filter (λ z. not (like x z)) ys) (filter (λ z. not (like x z)) ys))) e
          ∙ find_others x ys n
          ∙ sym (cond-false (p y) _ _ (alike x y e n)))
          (λ e. ap (λ t. find p (cond (not t) (y ∷ filter (λ z. not (like x z)) ys) (filter (λ z. not (like x z)) ys))) e
          ∙ ap (λ o. cond (p y) (Some y) o) (find_others x ys n))
          (cases_Bool (like x y))

      pub find-firsts : (xs : List X) → find p (firsts like xs) ≡ find p xs
      find-firsts [] = refl
      find-firsts (x ∷ xs) = ⊎_elim
          (λ e. cond-true (p x) _ _ e ∙ sym (cond-true (p x) _ _ e))
          (λ e. cond-false (p x) _ _ e ∙ find_others x (firsts like xs) e ∙ find-firsts xs ∙ sym (cond-false (p x) _ _ e))
          (cases_Bool (p x))

    -- no two of the firsts are alike, and each element is like one of them
    each_two_kept : (R : X → X → Type 0) (p : X → Bool) (xs : List X) → EachTwo R xs → EachTwo R (filter p xs)
    each_two_kept R p [] e = tt
    each_two_kept R p (x ∷ xs) e =
        elim (p x) as (λ t. EachTwo R (cond t (x ∷ filter p xs) (filter p xs))) [ true ↦ (all_kept_by p (R x) xs e.0, each_two_kept R p xs e.1) | false ↦ each_two_kept R p xs e.1 ]

    pub firsts_apart : (xs : List X) → EachTwo (λ x y. like x y ≡ false) (firsts like xs)
    firsts_apart [] = tt
    firsts_apart (x ∷ xs) = (
      All-weaker (λ y. not (like x y) ≡ true) (λ y. like x y ≡ false) (λ y e. not-true _ e) _ (kept_by_passes (λ y. not (like x y)) (firsts like xs)),
      each_two_kept (λ x y. like x y ≡ false) (λ y. not (like x y)) (firsts like xs) (firsts_apart xs),
    )

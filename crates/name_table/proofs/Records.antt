-- Laws of the name records of a file.
use Rattle.std.proofs.Common.{◌≡◌, ℕ, suc, ◌+◌, ◌<◌, ◌≤◌, Bool, true, false, cond, not, ◌&&◌, ◌||◌, eqb, List, [], ◌∷◌, ◌++◌, length, is_some, Some, None, Decides, Option, sym, refl, ap, ◌∙◌, subst, ⊎_elim, arith}
use Rattle.std.specs.List.{list_any, find, count_by, AllByRecursion as Every}
use Rattle.std.proofs.lemmas.List.Sums.{sum_by-append, sum_by-cons, sum_by_push}
use Rattle.std.specs.Str.{bytes_eq}
use Rattle.std.proofs.lemmas.List.{append-nil, append_assoc, length-append}
use Rattle.std.proofs.ByRecursion.{All-push, All-weaker, Decides-by_and}
use Rattle.std.proofs.lemmas.Slice.Eq.{bytes_eq-Decides}
use Rattle.std.proofs.lemmas.Bool.{cond-true, cond-false, cases_Bool, and_parts, and_cases, and_from, and_left, or_parts, or_from, both_ways, eqb-true, eq-eqb, not-true, not_from_false}
use Rattle.std.proofs.lemmas.Bool.Decides.{Decides-eqb, Decides-like, same_from_decides}
use Rattle.keyed.specs.Firsts.{firsts, EachTwo}
use Rattle.keyed.proofs.Firsts.{each_two_push, each_two_front, each_two_last, firsts_push, any-firsts, find-firsts}
use Rattle.name_table.specs.Records.{Seen, Named, implicit_in, number_or, name_after, names_after, names_of, Agrees, Agree, AgreesWith, New, same_key, pairs, rows_needed, has_key}
use Rattle.name_table.specs.Enter.{differ, clash, in_class}

module _ {X : Type 0} (p : X → Bool) where
  -- one element more is counted where it passes
  count_push : (xs : List X) (y : X) → count_by p (xs ++ y ∷ []) ≡ cond (p y) (suc (count_by p xs)) (count_by p xs)
  count_push xs y =
      sum_by_push (λ x. cond (p x) 1 0) xs y
      ∙ elim (p y) as (λ t. count_by p xs + cond t 1 0 ≡ cond t (suc (count_by p xs)) (count_by p xs)) [ true ↦ omega arith | false ↦ omega arith ]

-- a test that passes where another does passes one of the elements where the other does
pub any_weaker : {X : Type 0} (p q : X → Bool) → ((x : X) → p x ≡ true → q x ≡ true) → (xs : List X) → list_any p xs ≡ true → list_any q xs ≡ true
any_weaker p q f [] e = e
any_weaker p q f (x ∷ xs) e = ⊎_elim
    (λ t. ap (λ b. b || list_any q xs) (f x t))
    (λ n. either (q x) (list_any q xs) (any_weaker p q f xs (sym (ap (λ b. b || list_any p xs) n) ∙ e)))
    (cases_Bool (p x))
  where
    either : (s t : Bool) → t ≡ true → (s || t) ≡ true
    either true t h = refl
    either false t h = h

-- the names of records in two lists
pub names_append : (b xs ys : List Seen) → names_after b (xs ++ ys) ≡ names_after b xs ++ names_after (b ++ xs) ys
names_append b [] ys = ap (λ l. names_after l ys) (sym (append-nil b))
names_append b (x ∷ xs) ys =
    ap (λ l. name_after b x ∷ l) (names_append (b ++ x ∷ []) xs ys ∙ ap (λ l. names_after (b ++ x ∷ []) xs ++ names_after l ys) (append_assoc b (x ∷ []) xs))

-- one record more
pub names_push : (rs : List Seen) (r : Seen) → names_of (rs ++ r ∷ []) ≡ names_of rs ++ name_after rs r ∷ []
names_push rs r = names_append [] rs (r ∷ [])

-- tests that do not differ are the same
differ_same : (s t : Bool) → differ s t ≡ false → s ≡ t
differ_same true true e = refl
differ_same true false e = e
differ_same false true e = sym e
differ_same false false e = refl

-- the same tests do not differ
same_differ : (s t : Bool) → s ≡ t → differ s t ≡ false
same_differ true true e = refl
same_differ true false e = e
same_differ false true e = sym e
same_differ false false e = refl

-- names agree exactly where they do not clash
pub clash_decides : (a b : Named) → Decides (not (clash a b)) (Agrees a b)
clash_decides a b = (
  λ e same. ⊎_elim
      (λ n. absurd (both_ways _ n (eq-eqb _ _ same)))
      (λ n. let w = or_parts (differ a.given b.given) _ n in
      let k = differ_same _ _ w.1 in
      (differ_same _ _ w.0, λ h. (bytes_eq-Decides a.name b.name).0 (sym k ∙ eq-eqb _ _ h), λ h. eqb-true _ _ (k ∙ (bytes_eq-Decides a.name b.name).1 h)))
      (and_cases _ _ (not-true _ e)),
  λ one. ⊎_elim
      (λ t. let w = one (eqb-true _ _ t) in
      ap (λ s. not (s && (differ a.given b.given || differ (eqb a.number b.number) (bytes_eq a.name b.name)))) t
      ∙ not_from_false _ (or_from _ _ (same_differ _ _ w.0)
      (same_differ _ _ (same_from_decides _ _ (Decides-eqb a.number b.number) (Decides-like _ w.2 w.1 (bytes_eq-Decides a.name b.name))))))
      (λ n. not_from_false _ (and_left _ _ n))
      (cases_Bool (eqb a.class b.class)),
)

-- two kinds of one class: the test for a name, and what it means where it fails
pub kind_decides : (c : ℕ) (g : Bool) (a : Named) → Decides (not (eqb a.class c && differ a.given g)) (a.class ≡ c → a.given ≡ g)
kind_decides c g a = (
  λ e same. ⊎_elim (λ n. absurd (both_ways _ n (eq-eqb _ _ same))) (λ n. differ_same _ _ n) (and_cases _ _ (not-true _ e)),
  λ one. ⊎_elim
      (λ t. ap (λ s. not (s && differ a.given g)) t ∙ not_from_false _ (same_differ _ _ (one (eqb-true _ _ t))))
      (λ n. not_from_false _ (and_left _ _ n))
      (cases_Bool (eqb a.class c)),
)

-- neither of two tests passes
no_more : (s t : Bool) → not (s || t) ≡ (not s && not t)
no_more true t = refl
no_more false t = refl

-- no element passes exactly where each has what a failed test means
pub none_decides : {X : Type 0} (p : X → Bool) (P : X → Type 0) → ((x : X) → Decides (not (p x)) (P x)) → (xs : List X) → Decides (not (list_any p xs)) (Every P xs)
none_decides p P each xs = Decides-by_and (λ x. not (p x)) P (λ l. not (list_any p l)) each refl (λ x l. no_more (p x) (list_any p l)) xs

-- whether two names have one key
pub key_decides : (a b : Named) → Decides (not (same_key a b)) (a.class ≡ b.class → a.number ≡ b.number → ⊥)
key_decides a b = (
  λ e c n. both_ways _ (not-true _ e) (and_from _ _ (eq-eqb _ _ c) (eq-eqb _ _ n)),
  λ h. ⊎_elim (λ t. let w = and_parts _ _ t in absurd (h (eqb-true _ _ w.0) (eqb-true _ _ w.1))) (λ f. not_from_false _ f) (cases_Bool (same_key a b)),
)

-- a name from its parts
abbrev make : ℕ → ℕ → Bool → List ℕ → Named
make c n g t = record { class = c; number = n; given = g; name = t }

-- names with one class and number that agree are one
one_row : (a b : Named) → Agrees a b → same_key a b ≡ true → a ≡ b
one_row a b one t =
    let w = and_parts _ _ t in
    let c = eqb-true a.class b.class w.0 in
    let n = eqb-true a.number b.number w.1 in
    ap (λ c. make c a.number a.given a.name) c ∙ ap (λ n. make b.class n a.given a.name) n
    ∙ ap (λ g. make b.class b.number g a.name) (one c).0 ∙ ap (make b.class b.number b.given) ((one c).1 n)

-- what follows for two holds for each two
each_two_weaker : {X : Type 0} (R S : X → X → Type 0) → ((x y : X) → R x y → S x y) → (xs : List X) → EachTwo R xs → EachTwo S xs
each_two_weaker R S f [] e = tt
each_two_weaker R S f (x ∷ xs) e = (All-weaker (R x) (S x) (f x) xs e.0, each_two_weaker R S f xs e.1)

-- of records that agree, a test passes one of the rows exactly when it passes one of the names
pub any-pairs : (p : Named → Bool) (rs : List Seen) → Agree rs → list_any p (pairs rs) ≡ list_any p (names_of rs)
any-pairs p rs h = any-firsts same_key p (names_of rs) (each_two_weaker Agrees (λ a b. same_key a b ≡ true → a ≡ b) one_row (names_of rs) h)

-- the rows after one record more
pairs_push : (rs : List Seen) (r : Seen) → pairs (rs ++ r ∷ []) ≡ cond (list_any (λ a. same_key a (name_after rs r)) (names_of rs)) (pairs rs) (pairs rs ++ name_after rs r ∷ [])
pairs_push rs r = ap (firsts same_key) (names_push rs r) ∙ firsts_push same_key (names_of rs) (name_after rs r)

-- records that agree, and one more that agrees with them
pub agree_push : (rs : List Seen) (r : Seen) → Agree rs → AgreesWith rs r → Agree (rs ++ r ∷ [])
agree_push rs r h w = subst (EachTwo Agrees) (sym (names_push rs r)) (each_two_push Agrees (names_of rs) (name_after rs r) h w)

-- the last of records that agree
pub agree_last : (rs : List Seen) (r : Seen) → Agree (rs ++ r ∷ []) → AgreesWith rs r
agree_last rs r h = each_two_last Agrees (names_of rs) (name_after rs r) (subst (EachTwo Agrees) (names_push rs r) h)

-- the first of records that agree
pub agree_front : (xs ys : List Seen) → Agree (xs ++ ys) → Agree xs
agree_front xs ys h = each_two_front Agrees (names_of xs) (names_after xs ys) (subst (EachTwo Agrees) (names_append [] xs ys) h)

-- a name with the key of an earlier one takes no row
pub rows_old : (rs : List Seen) (r : Seen) → list_any (λ a. same_key a (name_after rs r)) (names_of rs) ≡ true → pairs (rs ++ r ∷ []) ≡ pairs rs
rows_old rs r t = pairs_push rs r ∙ cond-true _ _ _ t

-- any other takes one
pub rows_new : (rs : List Seen) (r : Seen) → list_any (λ a. same_key a (name_after rs r)) (names_of rs) ≡ false → pairs (rs ++ r ∷ []) ≡ pairs rs ++ name_after rs r ∷ []
rows_new rs r f = pairs_push rs r ∙ cond-false _ _ _ f

-- no record takes a row away
rows_grow : (rs : List Seen) (r : Seen) → rows_needed rs ≤ rows_needed (rs ++ r ∷ [])
rows_grow rs r = ⊎_elim
    (λ t. let e = ap length (rows_old rs r t) in omega arith)
    (λ f. let e = ap length (rows_new rs r f) in let l = length-append (pairs rs) (name_after rs r ∷ []) in omega arith)
    (cases_Bool (list_any (λ a. same_key a (name_after rs r)) (names_of rs)))

-- nor do several
pub rows_front : (ys xs : List Seen) → rows_needed xs ≤ rows_needed (xs ++ ys)
rows_front [] xs = let e = ap (λ l. rows_needed l) (append-nil xs) in omega arith
rows_front (y ∷ ys) xs =
    let a = rows_grow xs y in let b = rows_front ys (xs ++ y ∷ []) in let e = ap (λ l. rows_needed l) (append_assoc xs (y ∷ []) ys) in omega arith

-- names with one key have a key or not alike
alike_key : (c n : ℕ) (a b : Named) → same_key a b ≡ true → has_key c n a ≡ false → has_key c n b ≡ false
alike_key c n a b t f =
    let w = and_parts _ _ t in
    ap (λ d. eqb d c && eqb b.number n) (sym (eqb-true a.class b.class w.0))
    ∙ ap (λ m. eqb a.class c && eqb m n) (sym (eqb-true a.number b.number w.1))
    ∙ f

-- a key is found among the rows as among the names
pub find-pairs : (c n : ℕ) (rs : List Seen) → find (has_key c n) (pairs rs) ≡ find (has_key c n) (names_of rs)
find-pairs c n rs = find-firsts same_key (has_key c n) (alike_key c n) (names_of rs)

-- the number of a record that gives none
number_implicit : (n : ℕ) (g : Option ℕ) → is_some g ≡ false → number_or n g ≡ n
number_implicit n None e = refl
number_implicit n (Some m) e = absurd (both_ways true e refl)

-- the kinds of names are the kinds of their records
pub kinds_of : (c : ℕ) (g : Bool) (b xs : List Seen) → Every (λ a. a.class ≡ c → a.given ≡ g) (names_after b xs) → Every (λ x. x.class ≡ c → is_some x.given ≡ g) xs
kinds_of c g b [] h = tt
kinds_of c g b (x ∷ xs) h = (h.0, kinds_of c g (b ++ x ∷ []) xs h.1)

-- the records of a class that give no numbers
module _ (c : ℕ) where
  -- of the class only such a record
  abbrev pub Counts : Seen → Type 0
  Counts a = a.class ≡ c → is_some a.given ≡ false

  -- such a record of the class is counted
  counted : (x : Seen) → x.class ≡ c → is_some x.given ≡ false → implicit_in c x ≡ true
  counted x e i = and_from _ _ (eq-eqb _ _ e) (not_from_false _ i)

  -- their numbers are below their count
  numbers_below : (b xs : List Seen) → Every Counts xs → Every (λ a. a.class ≡ c → a.number < count_by (implicit_in c) (b ++ xs)) (names_after b xs)
  numbers_below b [] h = tt
  numbers_below b (x ∷ xs) h = (
    λ e.
        let i = h.0 e in
        let n : (name_after b x).number ≡ count_by (implicit_in c) b = number_implicit _ x.given i ∙ ap (λ d. count_by (implicit_in d) b) e in
        let s = sum_by-append (λ r. cond (implicit_in c r) 1 0) b (x ∷ xs) in
        let t : count_by (implicit_in c) (x ∷ xs) ≡ 1 + count_by (implicit_in c) xs = sum_by-cons (λ r. cond (implicit_in c r) 1 0) x xs ∙ ap (λ n. n + count_by (implicit_in c) xs) (cond-true _ _ _ (counted x e i)) in
        omega arith,
    subst (λ l. Every (λ a. a.class ≡ c → a.number < count_by (implicit_in c) l) (names_after (b ++ x ∷ []) xs)) (append_assoc b (x ∷ []) xs) (numbers_below (b ++ x ∷ []) xs h.1),
  )

  -- one more of them is new
  implicit_new : (rs : List Seen) (r : Seen) → r.class ≡ c → is_some r.given ≡ false → Every Counts rs → New rs r
  implicit_new rs r e i k =
      let n : (name_after rs r).number ≡ count_by (implicit_in c) rs = number_implicit _ r.given i ∙ ap (λ d. count_by (implicit_in d) rs) e in
      All-weaker (λ a. a.class ≡ c → a.number < count_by (implicit_in c) rs) (λ a. a.class ≡ r.class → a.number ≡ (name_after rs r).number → ⊥)
      (λ a h f g. let l = h (f ∙ e) in omega arith) (names_of rs)
      (numbers_below [] rs k)

  -- one row more, of another class or none, does not count
  other_row : (rs : List Seen) (r : Seen) → eqb r.class c ≡ false → count_by (in_class c) (pairs (rs ++ r ∷ [])) ≡ count_by (in_class c) (pairs rs)
  other_row rs r f = ⊎_elim
      (λ t. ap (count_by (in_class c)) (rows_old rs r t))
      (λ n. ap (count_by (in_class c)) (rows_new rs r n) ∙ count_push (in_class c) (pairs rs) (name_after rs r) ∙ cond-false _ _ _ f)
      (cases_Bool (list_any (λ a. same_key a (name_after rs r)) (names_of rs)))

  -- each of them has a row of its own: one record more
  own_row : (rs : List Seen) (r : Seen) → Every Counts rs → Counts r → count_by (in_class c) (pairs rs) ≡ count_by (implicit_in c) rs → count_by (in_class c) (pairs (rs ++ r ∷ [])) ≡ count_by (implicit_in c) (rs ++ r ∷ [])
  own_row rs r all k e = ⊎_elim
      (λ t.
      let s = eqb-true r.class c t in
      let n = implicit_new rs r s (k s) all in
      let none = not-true _ ((none_decides (λ a. same_key a (name_after rs r)) (λ a. a.class ≡ r.class → a.number ≡ (name_after rs r).number → ⊥) (λ a. key_decides a (name_after rs r)) (names_of rs)).1 n) in
      ap (count_by (in_class c)) (rows_new rs r none) ∙ count_push (in_class c) (pairs rs) (name_after rs r) ∙ cond-true _ _ _ t
      ∙ ap suc e ∙ sym (count_push (implicit_in c) rs r ∙ cond-true _ _ _ (counted r s (k s))))
      (λ f. other_row rs r f ∙ e ∙ sym (count_push (implicit_in c) rs r ∙ cond-false _ _ _ (and_left _ _ f)))
      (cases_Bool (eqb r.class c))

  -- several records more
  own_rows : (ys xs : List Seen) → Every Counts xs → Every Counts ys → count_by (in_class c) (pairs xs) ≡ count_by (implicit_in c) xs → count_by (in_class c) (pairs (xs ++ ys)) ≡ count_by (implicit_in c) (xs ++ ys)
  own_rows [] xs h k e = subst (λ zs. count_by (in_class c) (pairs zs) ≡ count_by (implicit_in c) zs) (sym (append-nil xs)) e
  own_rows (y ∷ ys) xs h k e =
      subst (λ zs. count_by (in_class c) (pairs zs) ≡ count_by (implicit_in c) zs) (append_assoc xs (y ∷ []) ys)
      (own_rows ys (xs ++ y ∷ []) (All-push Counts xs y h k.0) k.1 (own_row xs y h k.0 e))

  -- the class has as many rows as records, where none of them gives a number
  pub rows_counted : (rs : List Seen) → Every Counts rs → count_by (in_class c) (pairs rs) ≡ count_by (implicit_in c) rs
  rows_counted rs h = own_rows rs [] tt h refl

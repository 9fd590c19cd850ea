-- The rows as the code holds them, and the records.
use Rattle.std.proofs.Common.{◌≡◌, ℕ, ◌≤◌, true, false, cond, List, [], ◌∷◌, length, take, Some, None, Option, Result, sym, refl, ap, ◌∙◌, subst, ⊎_elim, arith, length-take}
use Rattle.std.specs.Option.{option_map}
use Rattle.std.specs.List.{find, AllByRecursion as Every}
use Rattle.std.proofs.lemmas.List.{length-map}
use Rattle.std.proofs.ByRecursion.{All-weaker}
use Rattle.std.proofs.lemmas.Bool.{cond-true, cond-false, cases_Bool, and_parts, and_from, both_ways, eqb-true, eq-eqb}
use Rattle.tokens.specs.declared.fault.TokenFault.{TokenFault}
use Rattle.tokens.specs.Laws.{Exactly}
use Rattle.tokens.specs.Outcomes.{left_by}
use Rattle.tokens.specs.Parts.{bytes_in}
use Rattle.keyed.specs.Firsts.{EachTwo}
use Rattle.keyed.specs.Rows.{room, has_key as row-has-key}
use Rattle.name_table.specs.declared.row.NameKey.{NameKey}
use Rattle.name_table.specs.declared.table.Names.{Names}
use Rattle.name_table.specs.Keys.{same_pair}
use Rattle.name_table.specs.Records.{Seen, Named, Agree, Agrees, rows_needed, has_key, name_of, names_of, named}
use Rattle.name_table.specs.Enter.{Row, row_of, shown, view, enter, told_at}
use Rattle.name_table.specs.Laws.{Holds, Added, Means}
use Rattle.name_table.proofs.Records.{find-pairs}
use Rattle.name_table.proofs.Enter.{added-told}

-- the rows in use are not more than those of the memory
shown-within : (file : List ℕ) (n : ℕ) (rows : List Row) → length (shown file (take n rows)) ≤ length rows
shown-within file n rows = let a = length-map (take n rows) (row_of file) in let b = length-take n rows in omega arith

-- what adding a record promises, from the step over the rows
pub add_held : (names : Names) (r : Seen) (at : ℕ) (after : List Named) (a : Result (Unit {0}) TokenFault) → a ≡ told_at at (enter (room names.table) (view names) r) → after ≡ left_by (view names) (enter (room names.table) (view names) r)
    → (rs : List Seen) → Holds rs (view names) → Added (room names.table) rs r at a after
add_held names r at after a t l rs h =
    added-told rs r at (room names.table) h.agree
    (let e : length (view names) ≡ rows_needed rs = ap length h.same in let w = shown-within names.file.now names.table.used names.table.rows.now in omega arith)
    (view names) after a h.same t l

-- a key is found among the rows as among their names
pub find-shown : (file : List ℕ) (key : NameKey) (rows : List Row) → option_map (λ v. bytes_in file v.part) (option_map (λ row. row.value) (find (row-has-key same_pair key) rows)) ≡ name_of (find (has_key key.class key.number) (shown file rows))
find-shown file key [] = refl
find-shown file key (row ∷ rows) =
    elim (same_pair row.key key) as (λ t. option_map (λ v. bytes_in file v.part) (option_map (λ row. row.value) (cond t (Some row) (find (row-has-key same_pair key) rows))) ≡ name_of (cond t (Some (row_of file row)) (find (has_key key.class key.number) (shown file rows)))) [
      | true ↦ refl
      | false ↦ find-shown file key rows
    ]

-- what a number of a class means
module _ (c n : ℕ) where
  -- the class and the number of a name that has the key
  key_parts : (a : Named) → has_key c n a ≡ true → (a.class ≡ c) × (a.number ≡ n)
  key_parts a t = let w = and_parts _ _ t in (eqb-true _ _ w.0, eqb-true _ _ w.1)

  -- a name with another key has another class or number
  key_other : (a : Named) → has_key c n a ≡ false → a.class ≡ c → a.number ≡ n → ⊥
  key_other a f p q = both_ways _ f (and_from _ _ (eq-eqb _ _ p) (eq-eqb _ _ q))

  -- it is the name of each record with the class and number
  each_named : (xs : List Named) → EachTwo Agrees xs → Every (λ a. a.class ≡ c → a.number ≡ n → name_of (find (has_key c n) xs) ≡ Some a.name) xs
  each_named [] e = tt
  each_named (x ∷ xs) e = ⊎_elim
      (λ t. let here = ap name_of (cond-true (has_key c n x) (Some x) (find (has_key c n) xs) t) in
      (λ p q. here, All-weaker (Agrees x) (λ a. a.class ≡ c → a.number ≡ n → name_of (find (has_key c n) (x ∷ xs)) ≡ Some a.name) (λ a one p q. here ∙ ap Some ((one ((key_parts x t).0 ∙ sym p)).1 ((key_parts x t).1 ∙ sym q))) xs e.0))
      (λ f. let on = ap name_of (cond-false (has_key c n x) (Some x) (find (has_key c n) xs) f) in (
        (λ p q. absurd (key_other x f p q)),
        All-weaker (λ a. a.class ≡ c → a.number ≡ n → name_of (find (has_key c n) xs) ≡ Some a.name) (λ a. a.class ≡ c → a.number ≡ n → name_of (find (has_key c n) (x ∷ xs)) ≡ Some a.name) (λ a h p q. on ∙ h p q) xs (each_named xs e.1),
      ))
      (cases_Bool (has_key c n x))

  -- there is none exactly where no record has them
  none_named : (xs : List Named) → Exactly (name_of (find (has_key c n) xs) ≡ None) (Every (λ a. a.class ≡ c → a.number ≡ n → ⊥) xs)
  none_named [] = (λ _. tt, λ _. refl)
  none_named (x ∷ xs) = ⊎_elim
      (λ t. ((λ e. absurd (some_none x.name (sym (ap name_of (cond-true (has_key c n x) (Some x) (find (has_key c n) xs) t)) ∙ e))), λ a. absurd (a.0 (key_parts x t).0 (key_parts x t).1)))
      (λ f. let on = ap name_of (cond-false (has_key c n x) (Some x) (find (has_key c n) xs) f) in
      ((λ e. (key_other x f, (none_named xs).0 (sym on ∙ e))), λ a. on ∙ (none_named xs).1 a.1))
      (cases_Bool (has_key c n x))
    where
      some_none : (t : List ℕ) → ◌≡◌ {A = Option (List ℕ)} (Some t) None → ⊥
      some_none t h = cc

  -- the meaning by the records alone
  means : (rs : List Seen) → Agree rs → Means rs c n (named rs c n)
  means rs g = record { is = refl; each = each_named (names_of rs) g; none = none_named (names_of rs) }

  -- the meaning by rows that hold the records
  pub find_held : (rows : List Named) (rs : List Seen) (o : Option (List ℕ)) → o ≡ name_of (find (has_key c n) rows) → Holds rs rows → Means rs c n o
  find_held rows rs o e h =
      subst (Means rs c n) (sym (e ∙ ap (λ l. name_of (find (has_key c n) l)) h.same ∙ ap name_of (find-pairs c n rs))) (means rs h.agree)

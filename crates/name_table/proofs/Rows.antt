-- The rows that the code holds, and the names that they show.
use Rattle.std.proofs.Common.{◌≡◌, ℕ, ◌+◌, Bool, true, false, cond, ◌||◌, ltb, List, [], ◌∷◌, ◌++◌, map, length, set, is_some, Some, Ok, Err, Result, sym, refl, ap, ◌∙◌, length-set}
use Rattle.std.specs.List.{list_any, position_from}
use Rattle.std.proofs.lemmas.Iterator.Adapters.{position_from-zero}
use Rattle.std.proofs.lemmas.List.{length-map, map_push}
use Rattle.std.proofs.lemmas.Bool.{cond-true, cond-false, cond_both}
use Rattle.tokens.specs.declared.fault.FaultKind.{FaultKind}
use Rattle.tokens.specs.declared.fault.FaultKind.TheVariants.{NameConflict, FewRows}
use Rattle.tokens.specs.Outcomes.{left_by, told}
use Rattle.keyed.specs.declared.table.NoRow.{NoRow}
use Rattle.keyed.specs.Rows.{find_key, table, memory, room, added, laid, next_place}
use Rattle.names.specs.declared.read.NameFields.{NameFields}
use Rattle.name_table.specs.declared.table.Names.{Names}
use Rattle.name_table.specs.Keys.{same_pair}
use Rattle.name_table.specs.Records.{Named, same_key}
use Rattle.name_table.specs.Enter.{Row, row_of, shown, view, seen, clash, any_clash, decided, enter_row, next_name, laid_row, memory_after}

module _ {X : Type 0} where
  -- a test on what elements show
  pub any_shown : {Y : Type 0} (f : X → Y) (p : Y → Bool) (xs : List X) → list_any (λ x. p (f x)) xs ≡ list_any p (map f xs)
  any_shown f p [] = refl
  any_shown f p (x ∷ xs) = ap (λ t. p (f x) || t) (any_shown f p xs)

  -- a place is found exactly where an element passes
  some_position : (p : X → Bool) (i : ℕ) (xs : List X) → is_some (position_from p i xs) ≡ list_any p xs
  some_position p i [] = refl
  some_position p i (x ∷ xs) =
      elim (p x) as (λ t. is_some (cond t (Some i) (position_from p (i + 1) xs)) ≡ (t || list_any p xs)) [ true ↦ refl | false ↦ some_position p (i + 1) xs ]

-- memory keeps its length
laid-length : (rows : List Row) (n : ℕ) (row : Row) → length (laid rows n row) ≡ length rows
laid-length rows n row = cond_both (ltb n (length rows)) (set rows n row) rows (λ l. length l ≡ length rows) (λ _. length-set rows n row) (λ _. refl)

pub decided-length : (names : List Named) (new : Named) (rows : List Row) (n : ℕ) (row : Row) → length (decided names new rows rows (laid rows n row)) ≡ length rows
decided-length names new rows n row =
    cond_both (list_any (λ a. clash a new) names) rows (cond (list_any (λ a. same_key a new) names) rows (laid rows n row)) (λ l. length l ≡ length rows) (λ _. refl)
    (λ _. cond_both (list_any (λ a. same_key a new) names) rows (laid rows n row) (λ l. length l ≡ length rows) (λ _. refl) (λ _. laid-length rows n row))

-- memory after a record has as many rows as before
pub memory-length : (n : Names) (c : ℕ) (f : NameFields) → length (memory_after n c f) ≡ room n.table
memory-length n c f =
    decided-length (view n) (next_name (view n) (seen n.file.now c f)) (memory n.table) (length (table n.table)) (laid_row c (table n.table) f)

-- what is told of a row that was added, or found no room
abbrev pub row_told : Result ℕ NoRow → Result (Unit {0}) FaultKind
row_told (Ok i) = Ok tt
row_told (Err n) = Err FewRows

-- a row to enter, which is compared with the rows
module _ (file : List ℕ) (new : Row) (rows : List Row) where
  -- it clashes with one
  module _ (c : any_clash file new rows ≡ true) where
    pub decided-clash : {X : Type 0} (x y z : X) → decided (shown file rows) (row_of file new) x y z ≡ x
    decided-clash x y z = cond-true _ _ _ (sym (any_shown (row_of file) (λ a. clash a (row_of file new)) rows) ∙ c)

    pub enters_none : (most : ℕ) → enter_row most (shown file rows) (row_of file new) ≡ Err NameConflict
    enters_none most = decided-clash _ _ _

  -- it clashes with none
  module _ (c : any_clash file new rows ≡ false) where
    apart : list_any (λ a. clash a (row_of file new)) (shown file rows) ≡ false
    apart = sym (any_shown (row_of file) (λ a. clash a (row_of file new)) rows) ∙ c

    -- its key is among the names exactly where it is found
    key_found : list_any (λ a. same_key a (row_of file new)) (shown file rows) ≡ is_some (find_key same_pair new.key rows)
    key_found =
        let p : Row → Bool = λ row. same_pair row.key new.key in
        sym (ap is_some (position_from-zero p rows) ∙ some_position p 0 rows ∙ any_shown (row_of file) (λ a. same_key a (row_of file new)) rows)

    -- its key is there
    decided_known : {X : Type 0} (x y z : X) → is_some (find_key same_pair new.key rows) ≡ true → decided (shown file rows) (row_of file new) x y z ≡ y
    decided_known x y z f = cond-false _ _ _ apart ∙ cond-true _ _ _ (key_found ∙ f)

    -- its key is not there
    decided-fresh : {X : Type 0} (x y z : X) → is_some (find_key same_pair new.key rows) ≡ false → decided (shown file rows) (row_of file new) x y z ≡ z
    decided-fresh x y z f = cond-false _ _ _ apart ∙ cond-false _ _ _ (key_found ∙ f)

    -- the step, and the memory after it
    module _ (most : ℕ) (mem : List Row) where
      abbrev step : Result (List Named) FaultKind
      step = enter_row most (shown file rows) (row_of file new)

      abbrev after_step : List Row
      after_step = decided (shown file rows) (row_of file new) mem mem (laid mem (length rows) new)

      -- the key is there
      pub enters_known : is_some (find_key same_pair new.key rows) ≡ true → (Ok tt ≡ told step) × (shown file rows ≡ left_by (shown file rows) step) × (mem ≡ after_step)
      enters_known f =
          let e : step ≡ Ok (shown file rows) = decided_known _ _ _ f in
          (ap told (sym e), ap (left_by (shown file rows)) (sym e), sym (decided_known mem mem (laid mem (length rows) new) f))

      -- the key is not there: a row is added, if there is one
      module _ (f : is_some (find_key same_pair new.key rows) ≡ false) where
        abbrev entered : Bool → Result (List Named) FaultKind
        entered t = cond t (Ok (shown file rows ++ row_of file new ∷ [])) (Err FewRows)

        unknown : step ≡ entered (ltb (length rows) most)
        unknown = decided-fresh _ _ _ f ∙ ap (λ n. entered (ltb n most)) (length-map rows (row_of file))

        rows_entered : (t : Bool) → shown file (cond t (rows ++ new ∷ []) rows) ≡ left_by (shown file rows) (entered t)
        rows_entered true = map_push (row_of file) rows new
        rows_entered false = refl

        pub enters_rows : shown file (added most rows new) ≡ left_by (shown file rows) step
        enters_rows = rows_entered (ltb (length rows) most) ∙ ap (left_by (shown file rows)) (sym unknown)

        told_entered : (t : Bool) → row_told (cond t (Ok (length rows)) (Err (record {}))) ≡ told (entered t)
        told_entered true = refl
        told_entered false = refl

        pub enters_answer : row_told (next_place most rows) ≡ told step
        enters_answer = told_entered (ltb (length rows) most) ∙ ap told (sym unknown)

        pub enters_memory : laid mem (length rows) new ≡ after_step
        enters_memory = sym (decided-fresh mem mem (laid mem (length rows) new) f)

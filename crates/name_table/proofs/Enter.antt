-- One record more, by the rows and by the records.
use Rattle.std.proofs.Common.{◌≡◌, ℕ, ◌+◌, ◌<◌, ◌≤◌, Bool, true, false, cond, not, ◌&&◌, eqb, ltb, List, [], ◌∷◌, ◌++◌, length, is_some, Some, None, Ok, Err, Decides, Option, Result, sym, refl, ap, ◌∙◌, subst, ⊎_elim, arith}
use Rattle.std.specs.List.{list_any, count_by}
use Rattle.std.specs.Str.{bytes_eq}
use Rattle.std.proofs.ByRecursion.{All-weaker}
use Rattle.std.proofs.lemmas.List.{length-append}
use Rattle.std.proofs.lemmas.Bool.{cond-true, cond-false, cases_Bool, and_parts, and_from, or_left, both_ways, ltb-true, ltb-false, not_from_false}
use Rattle.tokens.specs.Faults.{number_of}
use Rattle.tokens.specs.declared.fault.FaultKind.{FaultKind}
use Rattle.tokens.specs.declared.fault.FaultKind.TheVariants.{NameConflict, FewRows}
use Rattle.tokens.specs.declared.fault.TokenFault.{TokenFault}
use Rattle.tokens.specs.Outcomes.{left_by}
use Rattle.name_table.specs.Records.{Seen, Named, implicit_in, number_or, name_after, names_of, Agrees, Agree, AgreesWith, New, same_key, pairs, rows_needed}
use Rattle.name_table.specs.Enter.{clash, differ, in_class, next_name, enter_row, enter, told_at}
use Rattle.name_table.specs.Laws.{Added, refused}
use Rattle.name_table.proofs.Records.{Counts, any_weaker, clash_decides, kind_decides, key_decides, none_decides, any-pairs, agree_push, agree_last, rows_old, rows_new, kinds_of, rows_counted}

-- an answer's number, and 0 where it is none of a fault
abbrev code : Result (Unit {0}) TokenFault → ℕ
code (Ok x) = 0
code (Err e) = number_of e.kind

-- the place of an answer's fault, or another where it has none
abbrev place_or : ℕ → Result (Unit {0}) TokenFault → ℕ
place_or n (Ok x) = n
place_or n (Err e) = e.place

module _ (rs : List Seen) (r : Seen) where
  abbrev new : Named
  new = name_after rs r

  abbrev again : List Seen
  again = rs ++ r ∷ []

  -- the name with another number
  abbrev numbered : ℕ → Named
  numbered n = record { class = r.class; number = n; given = is_some r.given; name = r.name }

  -- whether a name is of the record's class and of the other kind
  abbrev other_kind : Named → Bool
  other_kind a = eqb a.class r.class && differ a.given (is_some r.given)

  -- such a name clashes whatever the record's number is
  kind_clash : (n : ℕ) (a : Named) → other_kind a ≡ true → clash a (numbered n) ≡ true
  kind_clash n a t =
      let w = and_parts (eqb a.class r.class) (differ a.given (is_some r.given)) t in
      and_from _ _ w.0 (or_left (differ a.given (is_some r.given)) (differ (eqb a.number n) (bytes_eq a.name r.name)) w.1)

  -- where there is none, the rows of the class give the number that the records give
  same_number : list_any other_kind (names_of rs) ≡ false → (g : Option ℕ) → g ≡ r.given → number_or (count_by (in_class r.class) (pairs rs)) g ≡ number_or (count_by (implicit_in r.class) rs) g
  same_number f (Some n) e = refl
  same_number f None e =
      let kinds = (none_decides other_kind (λ a. a.class ≡ r.class → a.given ≡ is_some r.given) (kind_decides r.class (is_some r.given)) (names_of rs)).0 (not_from_false _ f) in
      rows_counted r.class rs
      (All-weaker (λ x. x.class ≡ r.class → is_some x.given ≡ is_some r.given) (Counts r.class) (λ x h s. h s ∙ ap is_some (sym e)) rs
      (kinds_of r.class (is_some r.given) [] rs kinds))

  -- no clash: the record agrees
  no_clash : Decides (not (list_any (λ a. clash a new) (names_of rs))) (AgreesWith rs r)
  no_clash = none_decides (λ a. clash a new) (λ a. Agrees a new) (λ a. clash_decides a new) (names_of rs)

  -- no such key: the record is new
  no_key : Decides (not (list_any (λ a. same_key a new) (names_of rs))) (New rs r)
  no_key = none_decides (λ a. same_key a new) (λ a. a.class ≡ r.class → a.number ≡ new.number → ⊥) (λ a. key_decides a new) (names_of rs)

  module _ (most : ℕ) where
    -- every way in which one record more can go
    pub data Outcome : Result (List Named) FaultKind → Type 0 where
      disagrees : (AgreesWith rs r → ⊥) → Outcome (Err NameConflict)
      known : AgreesWith rs r → (New rs r → ⊥) → rows_needed again ≡ rows_needed rs → Outcome (Ok (pairs again))
      entered : AgreesWith rs r → New rs r → rows_needed again ≡ rows_needed rs + 1 → rows_needed rs < most → Outcome (Ok (pairs again))
      full : AgreesWith rs r → New rs r → rows_needed again ≡ rows_needed rs + 1 → most ≤ rows_needed rs → Outcome (Err FewRows)

    module _ (agree : Agree rs) where
      -- a record that agrees and is new
      fresh : AgreesWith rs r → list_any (λ a. same_key a new) (names_of rs) ≡ false → Outcome (cond (ltb (length (pairs rs)) most) (Ok (pairs rs ++ new ∷ [])) (Err FewRows))
      fresh w n =
          let q = rows_new rs r n in
          let grown : rows_needed again ≡ rows_needed rs + 1 = ap length q ∙ length-append (pairs rs) (new ∷ []) in
          ⊎_elim
          (λ t. subst Outcome (sym (cond-true _ _ _ t)) (subst (λ l. Outcome (Ok l)) q (entered w (no_key.0 (not_from_false _ n)) grown (ltb-true _ _ t))))
          (λ f. subst Outcome (sym (cond-false _ _ _ f)) (full w (no_key.0 (not_from_false _ n)) grown (ltb-false _ _ f)))
          (cases_Bool (ltb (length (pairs rs)) most))

      -- a record that agrees
      agreed : AgreesWith rs r → Outcome (cond (list_any (λ a. same_key a new) (pairs rs)) (Ok (pairs rs)) (cond (ltb (length (pairs rs)) most) (Ok (pairs rs ++ new ∷ [])) (Err FewRows)))
      agreed w =
          let e = any-pairs (λ a. same_key a new) rs agree in
          ⊎_elim
          (λ t. subst Outcome (sym (cond-true _ _ _ (e ∙ t))) (subst (λ l. Outcome (Ok l)) (rows_old rs r t) (known w (λ n. both_ways _ (ap not t) (no_key.1 n)) (ap length (rows_old rs r t)))))
          (λ f. subst Outcome (sym (cond-false _ _ _ (e ∙ f))) (fresh w f))
          (cases_Bool (list_any (λ a. same_key a new) (names_of rs)))

      -- a record with the number that the records give it
      placed : Outcome (enter_row most (pairs rs) new)
      placed =
          let e = any-pairs (λ a. clash a new) rs agree in
          ⊎_elim
          (λ t. subst Outcome (sym (cond-true _ _ _ (e ∙ t))) (disagrees (λ w. both_ways _ (ap not t) (no_clash.1 w))))
          (λ f. subst Outcome (sym (cond-false _ _ _ (e ∙ f))) (agreed (no_clash.0 (not_from_false _ f))))
          (cases_Bool (list_any (λ a. clash a new) (names_of rs)))

      -- any record
      pub outcome : Outcome (enter most (pairs rs) r)
      outcome = ⊎_elim
          (λ t.
          let n = count_by (in_class r.class) (pairs rs) in
          let here = any-pairs (λ a. clash a (next_name (pairs rs) r)) rs agree ∙ any_weaker other_kind (λ a. clash a (next_name (pairs rs) r)) (kind_clash (number_or n r.given)) (names_of rs) t in
          let there = any_weaker other_kind (λ a. clash a new) (kind_clash new.number) (names_of rs) t in
          subst Outcome (sym (cond-true _ _ _ here)) (disagrees (λ w. both_ways _ (ap not there) (no_clash.1 w))))
          (λ f. subst (λ n. Outcome (enter_row most (pairs rs) (numbered n))) (sym (same_number f r.given refl)) placed)
          (cases_Bool (list_any other_kind (names_of rs)))

  -- answers that differ
  module _ (at : ℕ) where
    conflict_few : refused NameConflict at ≡ refused FewRows at → ⊥
    conflict_few h = omega (arith, ap code h)

    -- the fault of a refusal is at the record
    at_record : (k : FaultKind) (e : TokenFault) → refused k at ≡ Err e → e.place ≡ at
    at_record k e h = sym (ap (place_or at) h)

    -- what the caller learns
    module _ (most : ℕ) (agree : Agree rs) (within : rows_needed rs ≤ most) where
      learnt : (a : Result (List Named) FaultKind) → Outcome most a → Added most rs r at (told_at at a) (left_by (pairs rs) a)
      learnt (Err e) (disagrees n) = record {
        conflict = (λ _. n, λ _. refl);
        few = (λ h. absurd (conflict_few h), λ h. absurd (n h.0));
        taken = (λ h. absurd (cc), λ h. absurd (n (agree_last rs r h.0)));
        held = λ h. absurd (cc);
        kept = λ e h. (at_record NameConflict e h, record { agree = agree; same = refl });
      }
      learnt (Ok s) (known w o q) = record {
        conflict = (λ h. absurd (cc), λ n. absurd (n w));
        few = (λ h. absurd (cc), λ h. absurd (o h.1));
        taken = (λ _. (agree_push rs r agree w, omega arith), λ _. refl);
        held = λ _. record { agree = agree_push rs r agree w; same = refl };
        kept = λ e h. absurd (cc);
      }
      learnt (Ok s) (entered w o q l) = record {
        conflict = (λ h. absurd (cc), λ n. absurd (n w));
        few = (λ h. absurd (cc), λ h. let z : most ≤ rows_needed rs = h.2 in absurd (omega arith));
        taken = (λ _. (agree_push rs r agree w, omega arith), λ _. refl);
        held = λ _. record { agree = agree_push rs r agree w; same = refl };
        kept = λ e h. absurd (cc);
      }
      learnt (Err e) (full w o q l) = record {
        conflict = (λ h. absurd (conflict_few (sym h)), λ n. absurd (n w));
        few = (λ _. (w, o, l), λ _. refl);
        taken = (λ h. absurd (cc), λ h. let z : rows_needed again ≤ most = h.1 in absurd (omega arith));
        held = λ h. absurd (cc);
        kept = λ e h. (at_record FewRows e h, record { agree = agree; same = refl });
      }

      -- the same of rows that hold the records
      pub added-told : (rows after : List Named) (a : Result (Unit {0}) TokenFault) → rows ≡ pairs rs → a ≡ told_at at (enter most rows r) → after ≡ left_by rows (enter most rows r) → Added most rs r at a after
      added-told rows after a e t l =
          subst (λ b. Added most rs r at b after) (sym (t ∙ ap (λ l. told_at at (enter most l r)) e))
          (subst (Added most rs r at (told_at at (enter most (pairs rs) r))) (sym (l ∙ ap (λ l. left_by l (enter most l r)) e)) (learnt _ (outcome most agree)))

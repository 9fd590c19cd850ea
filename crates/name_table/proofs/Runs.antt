-- A list of name records, one after another.
use Rattle.std.proofs.Common.{◌≡◌, ℕ, ◌≤◌, List, [], ◌∷◌, ◌++◌, Ok, Err, Result, sym, refl, ap, ◌∙◌, subst, arith}
use Rattle.std.proofs.lemmas.List.{append-nil, append_assoc}
use Rattle.tokens.specs.Faults.{number_of}
use Rattle.tokens.specs.declared.fault.FaultKind.{FaultKind}
use Rattle.tokens.specs.declared.fault.FaultKind.TheVariants.{NameConflict, FewRows}
use Rattle.tokens.specs.Laws.{Exactly}
use Rattle.tokens.specs.Outcomes.{on_ok}
use Rattle.name_table.specs.Records.{Seen, Named, Agree, AgreesWith, New, pairs, rows_needed}
use Rattle.name_table.specs.Laws.{runs, Stopped, EachRunJudged}
use Rattle.name_table.proofs.Records.{agree_push, agree_last, agree_front, rows_front}
use Rattle.name_table.proofs.Enter.{Outcome, disagrees, known, entered, full, outcome}

module _ (most : ℕ) where
  -- the records are taken, and these are the rows
  abbrev Took : List Seen → List Named → Type 0
  Took rs rows = Agree rs × (rows_needed rs ≤ most) × (rows ≡ pairs rs)

  -- the two refusals differ
  fault_conflict : ◌≡◌ {A = FaultKind} NameConflict FewRows → ⊥
  fault_conflict h = omega (arith, ap number_of h)

  module _ (b : List Seen) (r : Seen) where
    -- a step that is taken
    taken_step : (P : Type 0) (rs : List Seen) (s : List Named) → Agree b → rows_needed b ≤ most → (a : Result (List Named) FaultKind) → Outcome b r most a
        → (Agree (b ++ r ∷ []) → rows_needed (b ++ r ∷ []) ≤ most → runs most (pairs (b ++ r ∷ [])) rs ≡ Ok s → P)
        → on_ok a (λ t. runs most t rs) ≡ Ok s → P
    taken_step P rs s g w (Err e) (disagrees n) ih h = absurd (cc)
    taken_step P rs s g w (Ok t) (known a o q) ih h = ih (agree_push b r g a) (omega arith) h
    taken_step P rs s g w (Ok t) (entered a o q l) ih h = ih (agree_push b r g a) (omega arith) h
    taken_step P rs s g w (Err e) (full a o q l) ih h = absurd (cc)

    -- a record that agrees and finds a row is taken
    takes_step : (a : Result (List Named) FaultKind) → Outcome b r most a → AgreesWith b r → rows_needed (b ++ r ∷ []) ≤ most → a ≡ Ok (pairs (b ++ r ∷ []))
    takes_step (Err e) (disagrees n) w l = absurd (n w)
    takes_step (Ok t) (known a o q) w l = refl
    takes_step (Ok t) (entered a o q k) w l = refl
    takes_step (Err e) (full a o q k) w l = absurd (omega arith)

  -- what is taken after the records b
  taken_from : (rs b : List Seen) (s : List Named) → Agree b → rows_needed b ≤ most → runs most (pairs b) rs ≡ Ok s → Took (b ++ rs) s
  taken_from [] b s g w h =
      subst (λ bs. Took bs s) (sym (append-nil b)) (g, w, (let e : pairs b ≡ s = cc in sym e))
  taken_from (r ∷ rs) b s g w h =
      taken_step b r (Took (b ++ r ∷ rs) s) rs s g w _ (outcome b r most g)
      (λ g' w' h'. subst (λ bs. Took bs s) (append_assoc b (r ∷ []) rs) (taken_from rs (b ++ r ∷ []) s g' w' h'))
      h

  -- records that agree and find rows are taken after the records b
  takes_from : (rs b : List Seen) → Agree (b ++ rs) → rows_needed (b ++ rs) ≤ most → runs most (pairs b) rs ≡ Ok (pairs (b ++ rs))
  takes_from [] b g w = ap (λ bs. Ok (pairs bs)) (sym (append-nil b))
  takes_from (r ∷ rs) b g w =
      let e = append_assoc b (r ∷ []) rs in
      let g' : Agree (b ++ r ∷ [] ++ rs) = subst Agree (sym e) g in
      let w' : rows_needed (b ++ r ∷ [] ++ rs) ≤ most = subst (λ bs. rows_needed bs ≤ most) (sym e) w in
      let here = agree_front (b ++ r ∷ []) rs g' in
      let few = rows_front rs (b ++ r ∷ []) in
      ap (λ a. on_ok a (λ t. runs most t rs)) (takes_step b r _ (outcome b r most (agree_front b (r ∷ []) here)) (agree_last b r here) (omega arith))
      ∙ takes_from rs (b ++ r ∷ []) g' w'
      ∙ ap (λ bs. Ok (pairs bs)) e

  -- the record at which a run stops
  abbrev stop : (b : List Seen) (r : Seen) (rs : List Seen) (k : FaultKind) → Agree b → rows_needed b ≤ most → Exactly (k ≡ NameConflict) (AgreesWith b r → ⊥) → Exactly (k ≡ FewRows) (AgreesWith b r × New b r × (most ≤ rows_needed b)) → Stopped most (b ++ r ∷ rs) k
  stop b r rs k g w x y = record { before = b; here = r; after = rs; split = refl; agree = g; within = w; reason = (x, y) }

  -- one step of a run that is refused
  stop_step : (b : List Seen) (r : Seen) (rs : List Seen) (k : FaultKind) → Agree b → rows_needed b ≤ most → (a : Result (List Named) FaultKind) → Outcome b r most a
      → (Agree (b ++ r ∷ []) → rows_needed (b ++ r ∷ []) ≤ most → runs most (pairs (b ++ r ∷ [])) rs ≡ Err k → Stopped most (b ++ r ∷ rs) k)
      → on_ok a (λ t. runs most t rs) ≡ Err k → Stopped most (b ++ r ∷ rs) k
  stop_step b r rs k g w (Err d) (disagrees n) ih h =
      let z : NameConflict ≡ k = cc in
      stop b r rs k g w (λ _. n, λ _. sym z) (λ f. absurd (fault_conflict (z ∙ f)), λ f. absurd (n f.0))
  stop_step b r rs k g w (Ok t) (known a o q) ih h = ih (agree_push b r g a) (omega arith) h
  stop_step b r rs k g w (Ok t) (entered a o q l) ih h = ih (agree_push b r g a) (omega arith) h
  stop_step b r rs k g w (Err d) (full a o q l) ih h =
      let z : FewRows ≡ k = cc in
      stop b r rs k g w (λ f. absurd (fault_conflict (sym (z ∙ f))), λ f. absurd (f a)) (λ _. (a, o, l), λ _. sym z)

  -- a run that is refused after the records b
  stopped_from : (rs b : List Seen) (k : FaultKind) → Agree b → rows_needed b ≤ most → runs most (pairs b) rs ≡ Err k → Stopped most (b ++ rs) k
  stopped_from [] b k g w h = absurd (cc)
  stopped_from (r ∷ rs) b k g w h =
      stop_step b r rs k g w _ (outcome b r most g)
      (λ g' w' h'. subst (λ bs. Stopped most bs k) (append_assoc b (r ∷ []) rs) (stopped_from rs (b ++ r ∷ []) k g' w' h'))
      h

-- every run
pub judged : EachRunJudged
judged most rs = record {
  taken = λ rows. (λ h. taken_from most rs [] rows tt (omega arith) h, λ h. takes_from most rs [] h.0 h.1 ∙ ap Ok (sym h.2));
  stopped = λ k h. stopped_from most rs [] k tt (omega arith) h;
}

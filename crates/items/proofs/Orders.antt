-- Items are in sequence exactly where no stage refuses one.
use Rattle.std.proofs.Common.{◌≡◌, true, false, ◌⊎◌, List, [], ◌∷◌, ◌++◌, is_some, Some, None, Decides, fold, Option, sym, refl, ap, ◌∙◌, subst, inl, inr}
use Rattle.std.proofs.lemmas.List.{append-nil, append_assoc}
use Rattle.std.proofs.lemmas.List.Sums.{fold_push}
use Rattle.items.specs.declared.stage.Stage.{Stage}
use Rattle.items.specs.declared.stage.Stage.TheVariants.{Before, Top, Cell, Ended}
use Rattle.tokens.specs.Laws.{Exactly}
use Rattle.items.specs.Things.{Thing, a_start, a_cell, a_placement, a_text, a_rectangle, a_polygon, a_path, an_end}
use Rattle.items.specs.Sequences.{Kind, starting, naming, element, ending, kind_of, Seen, InPlace, InSequence, Ends, Whole, Beginning, next, following, onward, stage_at}

-- what a stage says of the items before
abbrev AtStage : Stage → List Thing → Type 0
AtStage Before b = b ≡ []
AtStage Top b = (b ≡ [] → ⊥) × (Seen ending b → ⊥) × (Seen naming b → ⊥)
AtStage Cell b = (b ≡ [] → ⊥) × (Seen ending b → ⊥) × Seen naming b
AtStage Ended b = Seen ending b × Ends b

-- an item that was there, or is the last, and no other
seen_old : (k : Kind) (b : List Thing) (t : Thing) → Seen k b → Seen k (b ++ t ∷ [])
seen_old k [] t s = absurd s
seen_old k (x ∷ b) t (inl e) = inl e
seen_old k (x ∷ b) t (inr s) = inr (seen_old k b t s)

seen_new : (k : Kind) (b : List Thing) (t : Thing) → kind_of t ≡ k → Seen k (b ++ t ∷ [])
seen_new k [] t e = inl e
seen_new k (x ∷ b) t e = inr (seen_new k b t e)

seen_push : (k : Kind) (b : List Thing) (t : Thing) → Seen k (b ++ t ∷ []) → Seen k b ⊎ (kind_of t ≡ k)
seen_push k [] t (inl e) = inr e
seen_push k [] t (inr s) = absurd s
seen_push k (x ∷ b) t (inl e) = inl (inl e)
seen_push k (x ∷ b) t (inr s) = elim (seen_push k b t s) [ inl o ↦ inl (inr o) | inr e ↦ inr e ]

unseen_push : (k : Kind) (b : List Thing) (t : Thing) → (Seen k b → ⊥) → (kind_of t ≡ k → ⊥) → Seen k (b ++ t ∷ []) → ⊥
unseen_push k b t u v s = elim (seen_push k b t s) [ inl o ↦ u o | inr e ↦ v e ]

some_push : (b : List Thing) (t : Thing) → b ++ t ∷ [] ≡ [] → ⊥
some_push [] t e = cc
some_push (x ∷ b) t e = cc

unseen_none : (k : Kind) (b : List Thing) → b ≡ [] → Seen k b → ⊥
unseen_none k b e s = subst (Seen k) e s

-- the only item of its kind
end_is : (t : Thing) → kind_of t ≡ ending → t ≡ an_end
end_is (a_start u) e = cc
end_is (a_cell n) e = cc
end_is (a_placement n p a f) e = cc
end_is (a_text l t p s) e = cc
end_is (a_rectangle l d w h p) e = cc
end_is (a_polygon l d vs) e = cc
end_is (a_path l d h s f vs) e = cc
end_is an_end e = refl

-- what holds after an item
module _ (b : List Thing) (t : Thing) where
  after_starting : kind_of t ≡ starting → b ≡ [] → AtStage Top (b ++ t ∷ [])
  after_starting e n = (
    some_push b t,
    unseen_push ending b t (unseen_none ending b n) (λ f. cc),
    unseen_push naming b t (unseen_none naming b n) (λ f. cc),
  )

  after_naming : kind_of t ≡ naming → (Seen ending b → ⊥) → AtStage Cell (b ++ t ∷ [])
  after_naming e u =
      (some_push b t, unseen_push ending b t u (λ f. cc), seen_new naming b t e)

  after_element : kind_of t ≡ element → (Seen ending b → ⊥) → Seen naming b → AtStage Cell (b ++ t ∷ [])
  after_element e u s =
      (some_push b t, unseen_push ending b t u (λ f. cc), seen_old naming b t s)

  after_ending : kind_of t ≡ ending → AtStage Ended (b ++ t ∷ [])
  after_ending e = (seen_new ending b t e, (b, ap (λ x. b ++ (x ∷ [])) (end_is t e)))

  -- an item of a kind other than a start
  placed : (b ≡ [] → ⊥) → (kind_of t ≡ starting → ⊥) → (kind_of t ≡ element → Seen naming b) → (Seen ending b → ⊥) → InPlace b t
  placed n s i u = record { first = λ e. absurd (n e); once = λ e. absurd (s e); inside = i; unended = u }

  -- an item that a stage lets come is in its place, and what the next stage says holds after it
  came : (s : Stage) (k : Kind) (s' : Stage) → kind_of t ≡ k → AtStage s b → next s k ≡ Some s' → InPlace b t × AtStage s' (b ++ t ∷ [])
  came Before starting s' e a n =
      let q : Top ≡ s' = cc in (
        record { first = λ _. e; once = λ _. a; inside = λ f. cc; unended = unseen_none ending b a },
        subst (λ x. AtStage x (b ++ t ∷ [])) q (after_starting e a),
      )
  came Before naming s' e a n = cc
  came Before element s' e a n = cc
  came Before ending s' e a n = cc
  came Top starting s' e a n = cc
  came Top naming s' e a n =
      let q : Cell ≡ s' = cc in (
        placed a.0 (λ f. cc) (λ f. cc) a.1,
        subst (λ x. AtStage x (b ++ t ∷ [])) q (after_naming e a.1),
      )
  came Top element s' e a n = cc
  came Top ending s' e a n =
      let q : Ended ≡ s' = cc in (
        placed a.0 (λ f. cc) (λ f. cc) a.1,
        subst (λ x. AtStage x (b ++ t ∷ [])) q (after_ending e),
      )
  came Cell starting s' e a n = cc
  came Cell naming s' e a n =
      let q : Cell ≡ s' = cc in (
        placed a.0 (λ f. cc) (λ f. cc) a.1,
        subst (λ x. AtStage x (b ++ t ∷ [])) q (after_naming e a.1),
      )
  came Cell element s' e a n =
      let q : Cell ≡ s' = cc in (
        placed a.0 (λ f. cc) (λ f. a.2) a.1,
        subst (λ x. AtStage x (b ++ t ∷ [])) q (after_element e a.1 a.2),
      )
  came Cell ending s' e a n =
      let q : Ended ≡ s' = cc in (
        placed a.0 (λ f. cc) (λ f. cc) a.1,
        subst (λ x. AtStage x (b ++ t ∷ [])) q (after_ending e),
      )
  came Ended starting s' e a n = cc
  came Ended naming s' e a n = cc
  came Ended element s' e a n = cc
  came Ended ending s' e a n = cc

  -- and an item in its place is let come
  comes : (s : Stage) (k : Kind) → kind_of t ≡ k → AtStage s b → InPlace b t → (s' : Stage) × (next s k ≡ Some s')
  comes Before starting e a i = (Top, refl)
  comes Before naming e a i = let f = i.first a in cc
  comes Before element e a i = let f = i.first a in cc
  comes Before ending e a i = let f = i.first a in cc
  comes Top starting e a i = absurd (a.0 (i.once e))
  comes Top naming e a i = (Cell, refl)
  comes Top element e a i = absurd (a.2 (i.inside e))
  comes Top ending e a i = (Ended, refl)
  comes Cell starting e a i = absurd (a.0 (i.once e))
  comes Cell naming e a i = (Cell, refl)
  comes Cell element e a i = (Cell, refl)
  comes Cell ending e a i = (Ended, refl)
  comes Ended starting e a i = absurd (i.unended a.0)
  comes Ended naming e a i = absurd (i.unended a.0)
  comes Ended element e a i = absurd (i.unended a.0)
  comes Ended ending e a i = absurd (i.unended a.0)

-- once an item is refused, none is let come
refused : (ts : List Thing) → fold onward None ts ≡ None
refused [] = refl
refused (t ∷ ts) = refused ts

-- these items may come after the items b
abbrev GoOn : List Thing → List Thing → Type 0
GoOn b ts = (before : List Thing) (t : Thing) (after : List Thing) → ts ≡ before ++ (t ∷ after) → InPlace (b ++ before) t

none_cons : {X : Type 0} (before : List Thing) (t : Thing) (after : List Thing) → [] ≡ before ++ (t ∷ after) → X
none_cons [] t after e = cc
none_cons (x ∷ before) t after e = cc

-- one item, and then the others
go_on : (b : List Thing) (t : Thing) (ts : List Thing) → InPlace b t → GoOn (b ++ t ∷ []) ts → GoOn b (t ∷ ts)
go_on b t ts i g [] u after e =
    let q : t ≡ u = cc in
    subst (λ x. InPlace x u) (sym (append-nil b)) (subst (InPlace b) q i)
go_on b t ts i g (x ∷ before) u after e =
    let q : t ≡ x = cc in
    let r : ts ≡ before ++ (u ∷ after) = cc in
    subst (λ z. InPlace z u) (append_assoc b (t ∷ []) before ∙ ap (λ y. b ++ (y ∷ before)) q) (g before u after r)

first_of : (b : List Thing) (t : Thing) (ts : List Thing) → GoOn b (t ∷ ts) → InPlace b t
first_of b t ts g = subst (λ z. InPlace z t) (append-nil b) (g [] t ts refl)

others_of : (b : List Thing) (t : Thing) (ts : List Thing) → GoOn b (t ∷ ts) → GoOn (b ++ t ∷ []) ts
others_of b t ts g before u after e =
    subst (λ z. InPlace z u) (sym (append_assoc b (t ∷ []) before)) (g (t ∷ before) u after (ap (λ z. t ∷ z) e))

cases_stage : (o : Option Stage) → ((s : Stage) × (o ≡ Some s)) ⊎ (o ≡ None)
cases_stage None = inr refl
cases_stage (Some s) = inl (s, refl)

never : {X : Type 0} (ts : List Thing) → is_some (fold onward None ts) ≡ true → X
never ts e =
    let f : is_some (fold onward None ts) ≡ false = ap is_some (refused ts) in
    cc

-- where no stage refuses an item, all are in their places
all_in : (s : Stage) (b ts : List Thing) → AtStage s b → is_some (fold onward (Some s) ts) ≡ true → GoOn b ts
all_in s b [] a e = λ before t after q. none_cons before t after q
all_in s b (t ∷ ts) a e =
    elim (cases_stage (following s t)) [
      | inl r ↦
          let c = came b t s (kind_of t) r.0 refl a r.1 in
          go_on b t ts c.0 (all_in r.0 (b ++ t ∷ []) ts c.1 (subst (λ o. is_some (fold onward o ts) ≡ true) r.1 e))
      | inr r ↦ never ts (subst (λ o. is_some (fold onward o ts) ≡ true) r e)
    ]

-- where all are in their places, no stage refuses one
all_come : (s : Stage) (b ts : List Thing) → AtStage s b → GoOn b ts → is_some (fold onward (Some s) ts) ≡ true
all_come s b [] a g = refl
all_come s b (t ∷ ts) a g =
    let r = comes b t s (kind_of t) refl a (first_of b t ts g) in
    let c = came b t s (kind_of t) r.0 refl a r.1 in
    subst (λ o. is_some (fold onward o ts) ≡ true) (sym r.1) (all_come r.0 (b ++ t ∷ []) ts c.1 (others_of b t ts g))

-- what the last stage says holds of all items
arrived : (s : Stage) (b ts : List Thing) (s' : Stage) → AtStage s b → fold onward (Some s) ts ≡ Some s' → AtStage s' (b ++ ts)
arrived s b [] s' a e =
    let q : s ≡ s' = cc in
    subst (λ x. AtStage s' x) (sym (append-nil b)) (subst (λ x. AtStage x b) q a)
arrived s b (t ∷ ts) s' a e =
    elim (cases_stage (following s t)) [
      | inl r ↦
          let c = came b t s (kind_of t) r.0 refl a r.1 in
          subst (AtStage s') (append_assoc b (t ∷ []) ts) (arrived r.0 (b ++ t ∷ []) ts s' c.1 (subst (λ o. fold onward o ts ≡ Some s') r.1 e))
      | inr r ↦ let n = sym (refused ts) ∙ subst (λ o. fold onward o ts ≡ Some s') r e in cc
    ]

-- the law of stages
pub in_sequence : (ts : List Thing) → Decides (is_some (stage_at ts)) (InSequence ts)
in_sequence ts = (all_in Before [] ts refl, all_come Before [] ts refl)

-- one item more
stage_push : (ts : List Thing) (t : Thing) (s : Stage) → stage_at ts ≡ Some s → stage_at (ts ++ t ∷ []) ≡ following s t
stage_push ts t s e = fold_push onward (Some Before) ts t ∙ ap (λ o. onward o t) e

some_of : (o : Option Stage) (s : Stage) → o ≡ Some s → is_some o ≡ true
some_of o s e = ap is_some e

-- an end after a start makes it whole
closed : (ts : List Thing) → stage_at (ts ++ an_end ∷ []) ≡ Some Ended → Whole (ts ++ an_end ∷ [])
closed ts e = record { order = (in_sequence (ts ++ an_end ∷ [])).0 (some_of (stage_at (ts ++ an_end ∷ [])) Ended e); ended = (ts, refl) }

completed : (ts : List Thing) (s : Stage) → stage_at ts ≡ Some s → AtStage s ts → Beginning ts
completed ts Before e a =
    (a_start 1 ∷ an_end ∷ [], subst (λ z. Whole (z ++ (a_start 1 ∷ an_end ∷ []))) (sym a) (closed (a_start 1 ∷ []) refl))
completed ts Top e a = (an_end ∷ [], closed ts (stage_push ts an_end Top e))
completed ts Cell e a = (an_end ∷ [], closed ts (stage_push ts an_end Cell e))
completed ts Ended e a =
    ([], subst Whole (sym (append-nil ts)) (record { order = (in_sequence ts).0 (some_of (stage_at ts) Ended e); ended = a.1 }))

-- the front of a sequence is one
front_of : (ts rest : List Thing) → InSequence (ts ++ rest) → InSequence ts
front_of ts rest g before t after e =
    g before t (after ++ rest) (ap (λ z. z ++ rest) e ∙ append_assoc before (t ∷ after) rest)

-- the law of beginnings
pub beginning : (ts : List Thing) → Decides (is_some (stage_at ts)) (Beginning ts)
beginning ts = (
  λ e. elim (cases_stage (stage_at ts)) [
    | inl r ↦ completed ts r.0 r.1 (arrived Before [] ts r.0 refl r.1)
    | inr r ↦ let f : is_some (stage_at ts) ≡ false = ap is_some r in cc
  ],
  λ w. (in_sequence ts).1 (front_of ts w.0 w.1.order),
)

-- a stage before an end
end-next : (o : Option Stage) → is_some (onward o an_end) ≡ true → onward o an_end ≡ Some Ended
end-next None e = cc
end-next (Some Before) e = cc
end-next (Some Top) e = refl
end-next (Some Cell) e = refl
end-next (Some Ended) e = cc

-- the law of whole sequences
pub whole : (ts : List Thing) → Exactly (stage_at ts ≡ Some Ended) (Whole ts)
whole ts = (
  λ e. record { order = (in_sequence ts).0 (some_of (stage_at ts) Ended e); ended = (arrived Before [] ts Ended refl e).1 },
  λ w.
      let q : stage_at ts ≡ onward (stage_at w.ended.0) an_end = ap stage_at w.ended.1 ∙ fold_push onward (Some Before) w.ended.0 an_end in
      q ∙ end-next (stage_at w.ended.0) (subst (λ o. is_some o ≡ true) q ((in_sequence ts).1 w.order)),
)

-- What the iterator of a walk gives, by the turn at its position, and what is left of it then.
use Rattle.std.proofs.Common.{◌≡◌, ℕ, Bool, false, cond, List, [], ◌∷◌, length, Some, None, Ok, Err, Option, Result, MatchOption, is_err, sym, refl, ap, ◌∙◌, subst, arith}
use Rattle.std.specs.Bool.{⊤}
use Rattle.std.specs.Iterator.{YieldsFirst, MakesProgress, item_count}
use Rattle.std.specs.Result.{result_transpose}
use Rattle.steps.specs.declared.fault.Fault.{Fault}
use Rattle.steps.specs.declared.state.Position.{Position}
use Rattle.steps.specs.declared.state.RecordAt.{RecordAt}
use Rattle.steps.specs.declared.state.Step.{Step}
use Rattle.runs.specs.declared.walk.Walk.{Walk}
use Rattle.runs.specs.Runs.{turn, given_by, landing, follow, walked}
use Rattle.runs.specs.Walks.{outcomes, coming, standing, left, item_by, standing_after}
use Rattle.runs.proofs.Progress.{walked_on}

-- what a walk gives, as an item
item-given : (t : Result (Option Step) Fault) → result_transpose (given_by t) ≡ item_by t
item-given (Ok (Some s)) = refl
item-given (Ok None) = refl
item-given (Err f) = refl

module _ (p q : Position) (r : Result (Option RecordAt) Fault) (b : Bool) where
  -- the iterator stands where the walk landed, and nowhere if that told a fault
  standing-landing : (t : Result (Option Step) Fault) → r ≡ given_by t → q ≡ landing p t → b ≡ is_err r → cond b None (Some q) ≡ standing_after p t
  standing-landing (Ok (Some s)) e m i = rw (i, e, m) refl
  standing-landing (Ok None) e m i = rw (i, e, m) refl
  standing-landing (Err f) e m i = rw (i, e) refl

  -- and there the walk stayed
  stays_at_fault : (t : Result (Option Step) Fault) → r ≡ given_by t → q ≡ landing p t → b ≡ is_err r → cond b None (Some q) ≡ None → q ≡ p
  stays_at_fault (Ok (Some s)) e m i n = let some_none = rw (i, e) at n in absurd (cc)
  stays_at_fault (Ok None) e m i n = m
  stays_at_fault (Err f) e m i n = m

module _ (file : List ℕ) (x : Option (Result RecordAt Fault)) where
  -- the item of a turn is the first of what was left, and the others come from where the iterator then stands
  first_coming : (o q : Option Position)
      → MatchOption o (x ≡ None) (λ p. x ≡ item_by (turn file p))
      → MatchOption o (q ≡ None) (λ p. q ≡ standing_after p (turn file p))
      → YieldsFirst (coming file) o x q
  first_coming None q e m = rw (e, m) (refl, refl)
  first_coming (Some p) q e m = rw (e, m) (by (turn file p) (ap outcomes (walked_on file p)))
    where
      by : (t : Result (Option Step) Fault) → coming file (Some p) ≡ outcomes (follow t (walked file)) → YieldsFirst (coming file) (Some p) (item_by t) (standing_after p t)
      by (Ok (Some s)) l = l
      by (Ok None) l = (l, l)
      by (Err f) l = l

-- an item that was the first of what was left leaves fewer
pub first_progress : {S A : Type 0} (rest : S → List A) (s t : S) (r : Option A) → YieldsFirst rest s r t → MakesProgress (λ _. ⊤) (item_count rest) s r t
first_progress rest s t (Some x) e = let l = ap length e in record { on = λ _. (tt, tt, omega arith); keeps = tt; rests = λ _. tt }
first_progress rest s t None e = record { on = λ _. tt; keeps = tt; rests = λ _. tt }

-- an iterator that was at w gives x by a turn, and is at v then
pub record Turned (w : Walk) (x : Option (Result RecordAt Fault)) (v : Walk) : Type 0 where
  pub answer : MatchOption (standing w) (x ≡ None) (λ p. x ≡ item_by (turn w.file.now p))
  pub moved : MatchOption (standing w) (standing v ≡ None) (λ p. standing v ≡ standing_after p (turn w.file.now p))
  pub waits : standing v ≡ None → v.position ≡ w.position
  pub stays : v.file ≡ w.file

-- so it is where x is what the walk gives, as an item, and v is the walk then, marked if that is a fault
pub turned : (w v : Walk) (r : Result (Option RecordAt) Fault)
    → w.faulted ≡ false
    → r ≡ given_by (turn w.file.now w.position)
    → v.position ≡ landing w.position (turn w.file.now w.position)
    → v.file ≡ w.file
    → v.faulted ≡ is_err r
    → Turned w (result_transpose r) v
turned w v r o e m s f =
    let t = turn w.file.now w.position in
    record {
      answer = rw o (ap result_transpose e ∙ item-given t);
      moved = rw o (standing-landing w.position v.position r v.faulted t e m f);
      waits = stays_at_fault w.position v.position r v.faulted t e m f;
      stays = s;
    }

-- and then x is the first of what was left, and the others are left
pub turned_first : (w v : Walk) (x : Option (Result RecordAt Fault)) → Turned w x v → YieldsFirst left w x v
turned_first w v x t =
    subst (λ f. MatchOption x ((left w ≡ []) × (coming f.now (standing v) ≡ [])) (λ y. left w ≡ y ∷ coming f.now (standing v))) (sym t.stays)
    (first_coming w.file.now x (standing w) (standing v) t.answer t.moved)

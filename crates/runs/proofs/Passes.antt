-- A pass over what a walk gives, which ends well only over a whole file.
use Rattle.std.proofs.Common.{◌≡◌, List, [], ◌∷◌, Ok, Err, Result, refl}
use Rattle.tokens.specs.Outcomes.{on_ok}
use Rattle.steps.specs.declared.fault.Fault.{Fault}
use Rattle.steps.specs.declared.state.RecordAt.{RecordAt}
use Rattle.runs.specs.Passes.{over}
use Rattle.runs.specs.Runs.{Trail, more, done, broken}
use Rattle.runs.specs.Walks.{outcomes}

module _ {S : Type 0} (f : S → RecordAt → Result S Fault) where
  -- the state after all records of a walk, or the first fault or refusal
  abbrev pub over_all : S → List (Result RecordAt Fault) → Result S Fault
  over_all s [] = Ok s
  over_all s (x ∷ xs) = on_ok x (λ r. on_ok (f s r) (λ u. over_all u xs))

  -- it is that over the trail
  pub over_outcomes : (s : S) (t : Trail) → over_all s (outcomes t) ≡ over f s t
  over_outcomes s (more r t) = by (f s r) (λ u. over_outcomes u t)
    where
      by : (x : Result S Fault) → ((u : S) → over_all u (outcomes t) ≡ over f u t) → on_ok x (λ u. over_all u (outcomes t)) ≡ on_ok x (λ u. over f u t)
      by (Ok u) h = h u
      by (Err e) h = refl
  over_outcomes s done = refl
  over_outcomes s (broken e) = refl

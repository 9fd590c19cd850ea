-- A pass that ends well has gone over a whole file.
use Rattle.std.proofs.Common.{◌≡◌, ℕ, List, None, Ok, Err, Result, refl, subst}
use Rattle.tokens.specs.Outcomes.{on_ok}
use Rattle.steps.specs.declared.fault.Fault.{Fault}
use Rattle.steps.specs.declared.state.RecordAt.{RecordAt}
use Rattle.runs.specs.Laws.{records_of, fault_of, Whole, Tells}
use Rattle.runs.specs.Passes.{over}
use Rattle.runs.specs.Runs.{Trail, more, done, broken, run}
use Rattle.runs.proofs.Sequences.{run_is_sequence}

-- a pass ends well only where the run has no fault
over-ended : {S : Type 0} (f : S → RecordAt → Result S Fault) (s u : S) (t : Trail) → Ok u ≡ over f s t → fault_of t ≡ None
over-ended {S = S} f s u (more r t) e = by (f s r) e (λ v. over-ended f v u t)
  where
    by : (x : Result S Fault) → Ok u ≡ on_ok x (λ v. over f v t) → ((v : S) → Ok u ≡ over f v t → fault_of t ≡ None) → fault_of t ≡ None
    by (Ok v) g k = k v g
    by (Err d) g k = cc
over-ended f s u done e = refl
over-ended f s u (broken d) e = cc

-- and there the file is whole
pub whole_run : {S : Type 0} (f : S → RecordAt → Result S Fault) (s u : S) (file : List ℕ) → Ok u ≡ over f s (run file) → Whole file (records_of (run file))
whole_run f s u file e = subst (Tells file (records_of (run file))) (over-ended f s u (run file) e) (run_is_sequence file)

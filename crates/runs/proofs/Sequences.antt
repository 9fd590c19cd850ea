-- The run of a file is the sequence of its records.
use Rattle.std.proofs.Common.{◌≡◌, ℕ, zero, suc, ◌-◌, ◌<◌, ◌≤◌, Bool, true, false, cond, leb, List, [], ◌∷◌, ◌++◌, length, take, drop, Some, None, Ok, Err, Option, Result, sym, refl, ap, ◌∙◌, subst, arith}
use Rattle.std.proofs.lemmas.Slice.Eq.{bytes_eq-Decides}
use Rattle.std.proofs.lemmas.List.{append-nil, take_at, take-append-drop}
use Rattle.std.proofs.lemmas.Bool.{cond-true, cond-false, leb-true, leb-false, le-leb, lt-leb}
use Rattle.tokens.specs.declared.fault.FaultKind.TheVariants.{TooLong, NoMagic}
use Rattle.steps.specs.declared.fault.Fault.{Fault}
use Rattle.steps.specs.declared.state.FileState.{FileState}
use Rattle.steps.specs.declared.state.FileState.TheVariants as state
use Rattle.steps.specs.declared.state.Position.{Position}
use Rattle.steps.specs.declared.state.RecordAt.{RecordAt}
use Rattle.steps.specs.declared.state.Step.{Step}
use Rattle.steps.specs.Steps.{stepped}
use Rattle.runs.specs.Laws.{Sequence, none, next, records_of, fault_of, Readable, Faulty, long, unmarked, stuck, Tells, RunIsSequence, SequenceIsRun}
use Rattle.checksum.specs.Ends.{magic, has_magic}
use Rattle.runs.specs.Runs.{longest, unread, at_start, opened, some_step, turn_in, Trail, done, follow, walked, entered, run}
use Rattle.runs.proofs.Progress.{turn_lands, walked_on}

-- START is due, so no END was read
start_goes_on : state.Start ≡ state.Ended → ⊥
start_goes_on e = cc

-- the state behind END, and all others
ended_or_not : (t : FileState) → (P : Type 0) → (t ≡ state.Ended → P) → ((t ≡ state.Ended → ⊥) → P) → P
ended_or_not state.Start P f g = g (λ e. cc)
ended_or_not state.Top P f g = g (λ e. cc)
ended_or_not state.Cell P f g = g (λ e. cc)
ended_or_not state.Ended P f g = f refl

-- behind END there is no step
turn-ended : (t : FileState) (r : Result Step Fault) → t ≡ state.Ended → turn_in t r ≡ Ok None
turn-ended t r e = ap (λ s. turn_in s r) e

-- elsewhere the turn is the step
turn_step : (t : FileState) (r : Result Step Fault) → (t ≡ state.Ended → ⊥) → turn_in t r ≡ some_step r
turn_step state.Start r d = refl
turn_step state.Top r d = refl
turn_step state.Cell r d = refl
turn_step state.Ended r d = absurd (d refl)

module _ (file : List ℕ) where
  -- the records from a position behind END: none
  pub walked-ended : (p : Position) → p.context.state ≡ state.Ended → walked file p ≡ done
  walked-ended p e = walked_on file p ∙ ap (λ t. follow t (walked file)) (turn-ended p.context.state (stepped file p) e)

  -- those from a position with a step
  pub walked_step : (p : Position) (r : Result Step Fault) → (p.context.state ≡ state.Ended → ⊥) → stepped file p ≡ r → walked file p ≡ follow (some_step r) (walked file)
  walked_step p r d e = walked_on file p ∙ ap (λ t. follow t (walked file)) (turn_step p.context.state (stepped file p) d ∙ ap some_step e)

  -- the records of a sequence come first in the run from its position, and the run goes on from behind them
  over_sequence : {p q : Position} {rs : List RecordAt} → Sequence file p rs q → (records_of (walked file p) ≡ rs ++ records_of (walked file q)) × (fault_of (walked file p) ≡ fault_of (walked file q))
  over_sequence none = (refl, refl)
  over_sequence {p = p} (next s d e l h rest) =
      let w = walked_step p (Ok s) d e in
      let k = over_sequence rest in
      (ap records_of w ∙ ap (λ x. s.found ∷ x) k.0, ap fault_of w ∙ k.1)

  -- what a run from a position tells: the records up to END, or up to where no record can be read
  abbrev Ending : Position → List RecordAt → Option Fault → Type 0
  Ending p rs None = (q : Position) × Sequence file p rs q × (q.context.state ≡ state.Ended) × (q.at ≡ length file)
  Ending p rs (Some f) = (q : Position) × Sequence file p rs q × (q.context.state ≡ state.Ended → ⊥) × (stepped file q ≡ Err f)

  -- one record before those
  before : (p : Position) (s : Step) → (p.context.state ≡ state.Ended → ⊥) → stepped file p ≡ Ok s → p.at < s.after.at → s.after.at ≤ length file → (rs : List RecordAt) (f : Option Fault) → Ending s.after rs f → Ending p (s.found ∷ rs) f
  before p s d e l h rs None (q, t, x, y) = (q, next s d e l h t, x, y)
  before p s d e l h rs (Some f) (q, t, x, y) = (q, next s d e l h t, x, y)

  -- the run from a position where a step is due, if what is after the step tells
  tells_step : (p : Position) → (p.context.state ≡ state.Ended → ⊥) → ((q : Position) → p.at < q.at → q.at ≤ length file → (q.context.state ≡ state.Ended → q.at ≡ length file) → Ending q (records_of (walked file q)) (fault_of (walked file q))) → (r : Result Step Fault) → stepped file p ≡ r → Ending p (records_of (walked file p)) (fault_of (walked file p))
  tells_step p d on (Ok s) e =
      let l = turn_lands file p s (sym (turn_step p.context.state (stepped file p) d ∙ ap some_step e)) in
      subst (λ t. Ending p (records_of t) (fault_of t)) (sym (walked_step p (Ok s) d e))
      (before p s d e l.0 l.1 (records_of (walked file s.after)) (fault_of (walked file s.after)) (on s.after l.0 l.1 (l.2 d)))
  tells_step p d on (Err f) e = subst (λ t. Ending p (records_of t) (fault_of t)) (sym (walked_step p (Err f) d e)) (p, none, d, e)

  -- the run from any position, by the bytes that are left
  tells_from : (k : ℕ) (p : Position) → length file - p.at < k → (p.context.state ≡ state.Ended → p.at ≡ length file) → Ending p (records_of (walked file p)) (fault_of (walked file p))
  tells_from zero p m i = absurd (omega arith)
  tells_from (suc k) p m i =
      ended_or_not p.context.state _
      (λ e. subst (λ t. Ending p (records_of t) (fault_of t)) (sym (walked-ended p e)) (p, none, e, i e))
      (λ d. tells_step p d (λ q l h j. tells_from k q (omega arith) j) (stepped file p) refl)

  -- a file that may be read is opened behind its magic
  readable_opened : Readable file → opened file ≡ Ok at_start
  readable_opened r =
      cond-true (leb (length file) longest) _ _ (le-leb (length file) longest r.short)
      ∙ cond-true (has_magic file) _ _ ((bytes_eq-Decides (take 13 file) magic).1 (ap (take 13) r.marked ∙ take_at magic r.rest 13 refl))

  -- and the other way round
  opened_readable : leb (length file) longest ≡ true → has_magic file ≡ true → Readable file
  opened_readable s m =
      record {
        short = leb-true (length file) longest s;
        rest = drop 13 file;
        marked = sym (take-append-drop 13 file) ∙ ap (λ x. x ++ drop 13 file) ((bytes_eq-Decides (take 13 file) magic).0 m);
      }

  -- a file that does not begin with the magic
  not_marked : has_magic file ≡ false → (rest : List ℕ) → file ≡ magic ++ rest → ⊥
  not_marked m rest e =
      let t : has_magic file ≡ true = (bytes_eq-Decides (take 13 file) magic).1 (ap (take 13) e ∙ take_at magic rest 13 refl) in
      cc

  from_start : Readable file → (rs : List RecordAt) (f : Option Fault) → Ending at_start rs f → Tells file rs f
  from_start r rs None (q, t, x, y) = record { readable = r; after = q; sequence = t; ended = x; last = y }
  from_start r rs (Some f) (q, t, x, y) = stuck r t x y

-- what the run of a file tells is so
pub run_is_sequence : RunIsSequence
run_is_sequence file = by_length (leb (length file) longest) refl
  where
    told : Trail → Type 0
    told t = Tells file (records_of t) (fault_of t)

    by_magic : leb (length file) longest ≡ true → (b : Bool) → has_magic file ≡ b → told (entered file (cond b (Ok at_start) (Err (unread NoMagic))))
    by_magic s true m =
        from_start file (opened_readable file s m) _ _ (tells_from file (suc (length file - 13)) at_start (omega arith) (λ e. absurd (start_goes_on e)))
    by_magic s false m = unmarked (leb-true (length file) longest s) (not_marked file m)

    by_length : (b : Bool) → leb (length file) longest ≡ b → told (run file)
    by_length true s = subst (λ x. told (entered file x)) (sym (cond-true (leb (length file) longest) _ _ s)) (by_magic s (has_magic file) refl)
    by_length false s = subst (λ x. told (entered file x)) (sym (cond-false (leb (length file) longest) _ _ s)) (long (leb-false (length file) longest s))

-- and what is so is told by the run
pub sequence_is_run : SequenceIsRun
sequence_is_run file rs None w =
    let o : run file ≡ walked file at_start = ap (entered file) (readable_opened file w.readable) in
    let k = over_sequence file w.sequence in
    let d = walked-ended file w.after w.ended in
    (ap records_of o ∙ k.0 ∙ ap (λ t. rs ++ records_of t) d ∙ append-nil rs, ap fault_of o ∙ k.1 ∙ ap fault_of d)
sequence_is_run file rs (Some f) w = by rs f w
  where
    by : (rs : List RecordAt) (f : Fault) → Faulty file rs f → (records_of (run file) ≡ rs) × (fault_of (run file) ≡ Some f)
    by rs f (long h) =
        let o : opened file ≡ Err (unread TooLong) = cond-false (leb (length file) longest) _ _ (lt-leb (length file) longest h) in
        (ap (λ x. records_of (entered file x)) o, ap (λ x. fault_of (entered file x)) o)
    by rs f (unmarked s n) = by_magic (has_magic file) refl
      where
        by_magic : (b : Bool) → has_magic file ≡ b → (records_of (run file) ≡ []) × (fault_of (run file) ≡ Some (unread NoMagic))
        by_magic true m = let r = opened_readable file (le-leb (length file) longest s) m in absurd (n r.rest r.marked)
        by_magic false m =
            let o : opened file ≡ Err (unread NoMagic) = cond-true (leb (length file) longest) _ _ (le-leb (length file) longest s) ∙ cond-false (has_magic file) _ _ m in
            (ap (λ x. records_of (entered file x)) o, ap (λ x. fault_of (entered file x)) o)
    by rs f (stuck {p = p} r t d e) =
        let o : run file ≡ walked file at_start = ap (entered file) (readable_opened file r) in
        let k = over_sequence file t in
        let b = walked_step file p (Err f) d e in
        (ap records_of o ∙ k.0 ∙ ap (λ t. rs ++ records_of t) b ∙ append-nil rs, ap fault_of o ∙ k.1 ∙ ap fault_of b)

-- Each record of a run is legal.
use Rattle.std.proofs.Common.{◌≡◌, ℕ, Bool, true, false, eqb, List, Some, None, Ok, Err, Option, Result, sym, refl, subst, arith}
use Rattle.std.specs.List.{AllByRecursion as Every}
use Rattle.tokens.specs.declared.fault.FaultKind.{FaultKind}
use Rattle.tokens.specs.declared.text.StringRule.{StringRule}
use Rattle.tokens.specs.declared.text.StringRule.TheVariants.{Name, Ascii}
use Rattle.tokens.specs.Answers.{Answer}
use Rattle.tokens.specs.Chains.{unsigned}
use Rattle.tokens.specs.Outcomes.{on_ok}
use Rattle.names.specs.Fields.{name_fields}
use Rattle.names.specs.Laws.{Numbered}
use Rattle.names.proofs.Fields.{name_made}
use Rattle.frames.specs.Starts.{start}
use Rattle.frames.specs.Ends.{end}
use Rattle.frames.proofs.Starts.{start_made}
use Rattle.frames.proofs.Ends.{end_made}
use Rattle.fields.specs.declared.reference.Reference.{Reference}
use Rattle.fields.specs.References.{number_at, string_at}
use Rattle.fields.specs.Variables.{fresh}
use Rattle.fields.proofs.Gives.{Gives, gives_got, gives_fault, gives_then}
use Rattle.elements.specs.declared.element.Drawn.{Drawn}
use Rattle.steps.specs.declared.dispatch.Action.{Action}
use Rattle.steps.specs.declared.dispatch.Action.TheVariants as action
use Rattle.steps.specs.declared.fault.Fault.{Fault}
use Rattle.steps.specs.declared.state.Context.{Context}
use Rattle.steps.specs.declared.state.Found.{Found}
use Rattle.steps.specs.declared.state.Position.{Position}
use Rattle.steps.specs.declared.state.RecordAt.{RecordAt}
use Rattle.steps.specs.declared.state.Step.{Step}
use Rattle.steps.specs.Contents.{cell_opened, drawn_in, performed}
use Rattle.steps.specs.Standings.{allowed}
use Rattle.steps.specs.States.{moded}
use Rattle.steps.specs.Steps.{enclosed, if_allowed, body, step_of, stepped}
use Rattle.runs.specs.Laws.{Sequence, none, next, Faulty, long, unmarked, stuck, Tells, records_of, fault_of}
use Rattle.runs.specs.Runs.{run}
use Rattle.runs.proofs.Sequences.{run_is_sequence}
use Rattle.legality.specs.Laws.{RunLegal}
use Rattle.legality.specs.Legal.{Holds, Fits, LegalReference, LegalName, Kept, LegalRecord}
use Rattle.legality.proofs.Elements.{Legal, placement_legal, text_legal, rectangle_legal, polygon_legal, path_legal}
use Rattle.legality.proofs.Fields.{string_legal, number_legal}

-- undefined variables are legal
fresh_kept : (file : List ℕ) → Kept file fresh
fresh_kept file =
    record {
      repetition = tt;
      cell = tt;
      text = tt;
      text_layers = record { layer = tt; datatype = tt };
      layers = record { layer = tt; datatype = tt };
      width = tt;
      height = tt;
      polygon = tt;
      half = tt;
      start = tt;
      end = tt;
      path = tt;
    }

-- a mode changes no other variable
moded-kept : (file : List ℕ) (c : Context) (relative : Bool) → Kept file c.modals → Kept file (moded c relative).context.modals
moded-kept file c relative k =
    record {
      repetition = k.repetition;
      cell = k.cell;
      text = k.text;
      text_layers = k.text_layers;
      layers = k.layers;
      width = k.width;
      height = k.height;
      polygon = k.polygon;
      half = k.half;
      start = k.start;
      end = k.end;
      path = k.path;
    }

-- a number where one is written
number_kept : (given : Bool) (k : Option ℕ) → Numbered given k → Holds Fits k
number_kept true (Some k) p = p
number_kept true None p = absurd p
number_kept false (Some k) p = absurd p
number_kept false None p = tt

-- the fields of a name record
name_legal : (rule : StringRule) (given : Bool) (file : List ℕ) (at : ℕ) → Gives (name_fields rule given file at) (LegalName rule file)
name_legal rule given file at =
    record {
      on = λ x e.
          let m = (name_made rule given file at).on x e in
          let s = m.2 in
          let i = s.inside in
          let h = m.1 in
          record {
            text = record { inside = omega arith; short = s.short; obeys = s.legal };
            number = number_kept given x.value.number s.number;
          };
    }

-- a legal record, and legal variables
abbrev LegalFound : List ℕ → Found → Type 0
LegalFound file f = LegalRecord file f.content × Kept file f.context.modals

module _ (file : List ℕ) where
  opened_legal : (c : Context) (r : Answer Reference) → Gives r (LegalReference Name file) → Gives (cell_opened c r) (LegalFound file)
  opened_legal c r g = gives_then r _ (λ x e. gives_got _ _ (g.on x e, fresh_kept file))

  drawn_legal : (c : Context) (r : Answer Drawn) → Gives r (Legal file) → Gives (drawn_in c r) (LegalFound file)
  drawn_legal c r g = gives_then r _ (λ x e. gives_got _ _ (g.on x e))

  performed_legal : (at first : ℕ) (c : Context) (id : ℕ) (a : Action) → Kept file c.modals → Gives (performed file at first c id a) (LegalFound file)
  performed_legal at first c id action.Pad k = gives_got _ _ (tt, k)
  performed_legal at first c id action.Start k = gives_then (start file at) _ (λ x e. gives_got _ _ (((start_made file at).on x e).2, fresh_kept file))
  performed_legal at first c id action.End k = gives_then (end file at first c.late) _ (λ x e. gives_got _ _ (((end_made file at first c.late).on x e).2.sealed, fresh_kept file))
  performed_legal at first c id action.CellName k = gives_then (name_fields Name (eqb id 4) file at) _ (λ x e. gives_got _ _ ((name_legal Name (eqb id 4) file at).on x e, fresh_kept file))
  performed_legal at first c id action.TextString k = gives_then (name_fields Ascii (eqb id 6) file at) _ (λ x e. gives_got _ _ ((name_legal Ascii (eqb id 6) file at).on x e, fresh_kept file))
  performed_legal at first c id action.CellByNumber k = opened_legal c (number_at file at) (number_legal file Name at)
  performed_legal at first c id action.CellByName k = opened_legal c (string_at Name file at) (string_legal file Name at)
  performed_legal at first c id action.Absolute k = gives_got _ _ (tt, moded-kept file c false k)
  performed_legal at first c id action.Relative k = gives_got _ _ (tt, moded-kept file c true k)
  performed_legal at first c id action.Placement k = drawn_legal c _ (placement_legal file at first c.modals k)
  performed_legal at first c id action.Text k = drawn_legal c _ (text_legal file at first c.modals k)
  performed_legal at first c id action.Rectangle k = drawn_legal c _ (rectangle_legal file at first c.modals k)
  performed_legal at first c id action.Polygon k = drawn_legal c _ (polygon_legal file at first c.modals k)
  performed_legal at first c id action.Path k = drawn_legal c _ (path_legal file at first c.modals k)

  body_legal : (p : Position) (id n : ℕ) → Kept file p.context.modals → Gives (body file p id n) (LegalFound file)
  body_legal p id n k = by (allowed p.context.state id)
    where
      by : (x : Result Action FaultKind) → Gives (if_allowed x p.at (performed file n p.at p.context id)) (LegalFound file)
      by (Ok a) = performed_legal n p.at p.context id a k
      by (Err d) = gives_fault _

  -- a step with legal variables gives a legal record, and leaves legal variables
  step_legal : (p : Position) (s : Step) → Kept file p.context.modals → stepped file p ≡ Ok s → LegalRecord file s.found.content × Kept file s.after.context.modals
  step_legal p s k e = by_id (unsigned file p.at) (sym e)
    where
      by_body : (id : ℕ) (x : Answer Found) → Gives x (LegalFound file) → Ok s ≡ on_ok (enclosed p.at id x) (λ r. Ok (step_of p.at id r)) → LegalRecord file s.found.content × Kept file s.after.context.modals
      by_body id (Ok r) g h =
          let same : s ≡ step_of p.at id r = cc in
          subst (λ (t : Step). LegalRecord file t.found.content × Kept file t.after.context.modals) (sym same) (g.on r refl)
      by_body id (Err f) g h = absurd (cc)

      by_id : (x : Answer ℕ) → Ok s ≡ on_ok (enclosed p.at 0 x) (λ id. on_ok (enclosed p.at id.value (body file p id.value id.next)) (λ r. Ok (step_of p.at id.value r))) → LegalRecord file s.found.content × Kept file s.after.context.modals
      by_id (Ok r) h = by_body r.value _ (body_legal p r.value r.next k) h
      by_id (Err t) h = absurd (cc)

  -- so does a sequence of them
  sequence_legal : {p q : Position} {rs : List RecordAt} → Sequence file p rs q → Kept file p.context.modals → Every (λ r. LegalRecord file r.content) rs
  sequence_legal none k = tt
  sequence_legal {p = p} (next s d e l h rest) k = let b = step_legal p s k e in (b.0, sequence_legal rest b.1)

-- the records of a file that is whole or at fault are legal
told_legal : (file : List ℕ) (rs : List RecordAt) (f : Option Fault) → Tells file rs f → Every (λ r. LegalRecord file r.content) rs
told_legal file rs None w = sequence_legal file w.sequence (fresh_kept file)
told_legal file rs (Some f) w = by rs f w
  where
    by : (rs : List RecordAt) (f : Fault) → Faulty file rs f → Every (λ r. LegalRecord file r.content) rs
    by rs f (long h) = tt
    by rs f (unmarked s n) = tt
    by rs f (stuck r t d e) = sequence_legal file t (fresh_kept file)

-- so are those of any file
pub run_legal : RunLegal
run_legal file = told_legal file (records_of (run file)) (fault_of (run file)) (run_is_sequence file)

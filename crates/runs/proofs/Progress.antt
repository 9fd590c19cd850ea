-- Each record takes at least one byte and stays in the file, so a run is its first step and the run from there.
use Rattle.std.proofs.Common.{◌≡◌, ℕ, zero, suc, ◌-◌, ◌<◌, ◌≤◌, eqb, List, length, Some, None, Ok, Err, Option, Result, sym, refl, ap, ◌∙◌, subst, arith}
use Rattle.tokens.specs.declared.fault.FaultKind.{FaultKind}
use Rattle.tokens.specs.declared.fault.Read.{Read}
use Rattle.tokens.specs.declared.text.StringRule.TheVariants.{Name, Ascii}
use Rattle.tokens.specs.Answers.{Answer}
use Rattle.tokens.specs.Chains.{unsigned}
use Rattle.tokens.specs.Outcomes.{on_ok}
use Rattle.tokens.specs.Readers.{Made}
use Rattle.tokens.proofs.ChainLaws.{unsigned_made}
use Rattle.tokens.proofs.Mades.{made_got, made_then, made_fault, made_less, made_weaken}
use Rattle.names.proofs.Fields.{name_made}
use Rattle.frames.proofs.Starts.{start_made}
use Rattle.frames.proofs.Ends.{end_made}
use Rattle.fields.specs.declared.reference.Reference.{Reference}
use Rattle.fields.specs.Laws.{Onward}
use Rattle.fields.proofs.Onwards.{number_goes, string_goes}
use Rattle.elements.specs.declared.element.Drawn.{Drawn}
use Rattle.elements.proofs.Onwards.{elements_go_on}
use Rattle.steps.specs.declared.dispatch.Action.{Action}
use Rattle.steps.specs.declared.dispatch.Action.TheVariants as action
use Rattle.steps.specs.declared.fault.Fault.{Fault}
use Rattle.steps.specs.declared.state.Context.{Context}
use Rattle.steps.specs.declared.state.FileState.{FileState}
use Rattle.steps.specs.declared.state.FileState.TheVariants as state
use Rattle.steps.specs.declared.state.Found.{Found}
use Rattle.steps.specs.declared.state.Position.{Position}
use Rattle.steps.specs.declared.state.Step.{Step}
use Rattle.steps.specs.Contents.{cell_opened, drawn_in, performed}
use Rattle.steps.specs.Standings.{allowed}
use Rattle.steps.specs.Steps.{enclosed, if_allowed, body, step_of, stepped}
use Rattle.runs.specs.Runs.{Trail, more, some_step, turn_in, turn, follow, trail, walked}

-- a record that is not read behind END ends the file if it is END
abbrev Finishes : List ℕ → Context → Found → ℕ → Type 0
Finishes file c f n = (c.state ≡ state.Ended → ⊥) → f.context.state ≡ state.Ended → n ≡ length file

-- after these states more is due
top_goes_on : {P : Type 0} → state.Top ≡ state.Ended → P
top_goes_on e = absurd (cc)

cell_goes_on : {P : Type 0} → state.Cell ≡ state.Ended → P
cell_goes_on e = absurd (cc)

-- a cell with a name that goes on
opened_goes : {file : List ℕ} {at : ℕ} (c : Context) {r : Answer Reference} → Onward file at r → Made file at (cell_opened c r) (Finishes file c)
opened_goes c p = made_then _ p (λ name n _ h _. made_got _ n (omega arith) h (λ d e. cell_goes_on e))

-- an element that goes on
drawn_goes : {file : List ℕ} {at : ℕ} (c : Context) {r : Answer Drawn} → Onward file (suc at) r → Made file at (drawn_in c r) (Finishes file c)
drawn_goes c p = made_then _ (made_less p) (λ d n _ h _. made_got _ n (omega arith) h (λ d e. absurd (d e)))

-- no record is read backwards, and END ends the file
performed_goes : (file : List ℕ) (at first : ℕ) (c : Context) (id : ℕ) (a : Action) → at ≤ length file → Made file at (performed file at first c id a) (Finishes file c)
performed_goes file at first c id action.Pad h = made_got _ at (omega arith) h (λ d e. absurd (d e))
performed_goes file at first c id action.Start h = made_then _ (made_less (start_made file at)) (λ s n _ i _. made_got _ n (omega arith) i (λ d e. top_goes_on e))
performed_goes file at first c id action.End h = made_then _ (made_less (end_made file at first c.late)) (λ s n _ i q. made_got _ n (omega arith) i (λ d e. q.last))
performed_goes file at first c id action.CellName h =
    made_then _ (made_less (name_made Name (eqb id 4) file at)) (λ f n _ i _. made_got _ n (omega arith) i (λ d e. top_goes_on e))
performed_goes file at first c id action.TextString h =
    made_then _ (made_less (name_made Ascii (eqb id 6) file at)) (λ f n _ i _. made_got _ n (omega arith) i (λ d e. top_goes_on e))
performed_goes file at first c id action.CellByNumber h = opened_goes c (number_goes file at)
performed_goes file at first c id action.CellByName h = opened_goes c (string_goes file Name at)
performed_goes file at first c id action.Absolute h = made_got _ at (omega arith) h (λ d e. absurd (d e))
performed_goes file at first c id action.Relative h = made_got _ at (omega arith) h (λ d e. absurd (d e))
performed_goes file at first c id action.Placement h = drawn_goes c (elements_go_on.0 file at first c.modals)
performed_goes file at first c id action.Text h = drawn_goes c (elements_go_on.1 file at first c.modals)
performed_goes file at first c id action.Rectangle h = drawn_goes c (elements_go_on.2 file at first c.modals)
performed_goes file at first c id action.Polygon h = drawn_goes c (elements_go_on.3 file at first c.modals)
performed_goes file at first c id action.Path h = drawn_goes c (elements_go_on.4 file at first c.modals)

module _ (file : List ℕ) where
  -- the position after a step is further on, in the file, and at its end where END was read
  abbrev pub Lands : Position → Step → Type 0
  Lands p s =
      (p.at < s.after.at) × (s.after.at ≤ length file)
      × ((p.context.state ≡ state.Ended → ⊥) → s.after.context.state ≡ state.Ended → s.after.at ≡ length file)

  body_goes : (p : Position) (id n : ℕ) → suc p.at ≤ n → n ≤ length file → Made file (suc p.at) (body file p id n) (Finishes file p.context)
  body_goes p id n l h = by (allowed p.context.state id)
    where
      by : (x : Result Action FaultKind) → Made file (suc p.at) (if_allowed x p.at (performed file n p.at p.context id)) (Finishes file p.context)
      by (Ok a) = made_weaken l (λ v n h q. q) (performed_goes file n p.at p.context id a h)
      by (Err k) = made_fault _

  -- each record takes at least one byte
  pub step_lands : (p : Position) (s : Step) → Ok s ≡ stepped file p → Lands p s
  step_lands p s e = by_id (unsigned file p.at) (unsigned_made file p.at).on e
    where
      by_body : (id : ℕ) (x : Answer Found) → Made file (suc p.at) x (Finishes file p.context) → Ok s ≡ on_ok (enclosed p.at id x) (λ r. Ok (step_of p.at id r)) → Lands p s
      by_body id (Ok r) o g =
          let same : s ≡ step_of p.at id r = cc in
          let b = o.on r refl in
          subst (λ t. Lands p t) (sym same) (b.0, b.1, b.2)
      by_body id (Err f) o g = absurd (cc)

      by_id : (x : Answer ℕ) → ((y : Read ℕ) → Ok y ≡ x → (suc p.at ≤ y.next) × (y.next ≤ length file) × (y.value ≤ 17592186044415)) → Ok s ≡ on_ok (enclosed p.at 0 x) (λ id. on_ok (enclosed p.at id.value (body file p id.value id.next)) (λ r. Ok (step_of p.at id.value r))) → Lands p s
      by_id (Ok r) o g = let b = o r refl in by_body r.value _ (body_goes p r.value r.next b.0 b.1) g
      by_id (Err t) o g = absurd (cc)

  -- so does each turn that is a step
  pub turn_lands : (p : Position) (s : Step) → Ok (Some s) ≡ turn file p → Lands p s
  turn_lands p s e = by_state p.context.state e
    where
      by_step : (x : Result Step Fault) → x ≡ stepped file p → Ok (Some s) ≡ some_step x → Lands p s
      by_step (Ok t) l g = let same : s ≡ t = cc in step_lands p s (ap Ok same ∙ l)
      by_step (Err f) l g = absurd (cc)

      by_state : (t : FileState) → Ok (Some s) ≡ turn_in t (stepped file p) → Lands p s
      by_state state.Start g = by_step (stepped file p) refl g
      by_state state.Top g = by_step (stepped file p) refl g
      by_state state.Cell g = by_step (stepped file p) refl g
      by_state state.Ended g = absurd (cc)

  -- what follows a step is asked only further on
  follow_same : (p : Position) (f g : Position → Trail) → ((q : Position) → p.at < q.at → q.at ≤ length file → f q ≡ g q) → follow (turn file p) f ≡ follow (turn file p) g
  follow_same p f g h = by_turn (turn file p) refl
    where
      by_turn : (t : Result (Option Step) Fault) → t ≡ turn file p → follow t f ≡ follow t g
      by_turn (Ok (Some s)) e = let l = turn_lands p s e in ap (more s.found) (h s.after l.0 l.1)
      by_turn (Ok None) e = refl
      by_turn (Err x) e = refl

  -- more steps than bytes are enough
  enough : (j k : ℕ) (p : Position) → length file - p.at < j → length file - p.at < k → trail j file p ≡ trail k file p
  enough zero k p h g = absurd (omega arith)
  enough (suc j) zero p h g = absurd (omega arith)
  enough (suc j) (suc k) p h g = follow_same p _ _ (λ q l m. enough j k q (omega arith) (omega arith))

  -- a run is its first step, and the run from there
  pub walked_on : (p : Position) → walked file p ≡ follow (turn file p) (walked file)
  unfolding walked
  walked_on p = follow_same p _ _ (λ q l m. enough (length file - p.at) (suc (length file - q.at)) q (omega arith) (omega arith))

-- The bytes of each record are read as one step.
use Rattle.std.proofs.Common.{◌≡◌, ℕ, ◌+◌, ◌<◌, false, List, [], ◌∷◌, ◌++◌, length, drop, Ok, sym, refl, ap, ◌∙◌, inl, inr, arith, length-append}
use Rattle.std.proofs.lemmas.List.{append_assoc}
use Rattle.tokens.specs.Outcomes.{on_ok}
use Rattle.tokens.specs.declared.text.StringRule.TheVariants.{Name}
use Rattle.tokens.specs.Answers.{Answer, got, then}
use Rattle.tokens.specs.Encodings.{text_bytes}
use Rattle.tokens.specs.Readers.{Back}
use Rattle.tokens.proofs.Backs.{after, back_last, back_none, back_is}
use Rattle.tokens.proofs.Encodings.{small_back}
use Rattle.fields.specs.Variables.{fresh}
use Rattle.frames.specs.declared.end.End.{End}
use Rattle.frames.specs.declared.end.End.TheVariants.{Checksum32}
use Rattle.frames.specs.Ends.{end}
use Rattle.frames.specs.Laws.{end_bytes as end_fields, four_bytes, sum_before}
use Rattle.frames.proofs.Backs.{start_back, end_back}
use Rattle.elements.specs.declared.element.Drawn.{Drawn}
use Rattle.elements.specs.declared.element.Element.{Element}
use Rattle.steps.specs.declared.dispatch.Action.{Action}
use Rattle.steps.specs.declared.dispatch.Action.TheVariants as action
use Rattle.steps.specs.declared.state.FileState.TheVariants as state
use Rattle.steps.specs.declared.state.Found.{Found}
use Rattle.steps.specs.declared.state.Position.{Position}
use Rattle.steps.specs.declared.state.Record.TheVariants as content
use Rattle.steps.specs.States.{reset, varied}
use Rattle.steps.specs.Contents.{drawn_in, performed}
use Rattle.steps.specs.Standings.{allowed}
use Rattle.steps.specs.Steps.{enclosed, if_allowed, body, step_of, stepped}
use Rattle.explicit.specs.Bytes.{cell_bytes}
use Rattle.explicit.specs.Contents.{text_given}
use Rattle.explicit.specs.Laws.{DrawnBack, position, step_to, ElementRead, PlacementRead, TextRead, RectangleRead, PolygonRead, PathRead, Between, CellsRead, StartRead, EndRead}
use Rattle.explicit.proofs.Fields.{string_back}
use Rattle.explicit.proofs.Elements.{placement_back, label_back, rectangle_back, polygon_back, path_back}

-- a record by its ID, what that asks for in this state, and what is read then
step_by : (file : List ℕ) (p : Position) (id : ℕ) (bs : List ℕ) (a : Action) (x : Found) (n : ℕ) → id < 128 → allowed p.context.state id ≡ Ok a → drop p.at file ≡ id ∷ bs → performed file (p.at + 1) p.at p.context id a ≡ got x n → stepped file p ≡ Ok (step_of p.at id (record { value = x; next = n }))
step_by file p id bs a x n l al e r =
    ap (λ y. on_ok (enclosed p.at 0 y) (λ i. on_ok (enclosed p.at i.value (body file p i.value i.next)) (λ z. Ok (step_of p.at i.value z)))) (sym ((small_back file p.at id l).again bs e))
    ∙ ap (λ y. on_ok (enclosed p.at id (if_allowed y p.at (performed file (p.at + 1) p.at p.context id))) (λ z. Ok (step_of p.at id z))) al
    ∙ ap (λ y. on_ok (enclosed p.at id y) (λ z. Ok (step_of p.at id z))) r

-- a record whose fields are read again
step_at : (file : List ℕ) (p : Position) (id : ℕ) (bs rest : List ℕ) (a : Action) (x : Found) → id < 128 → allowed p.context.state id ≡ Ok a → drop p.at file ≡ (id ∷ bs) ++ rest → Back file (p.at + 1) bs (performed file (p.at + 1) p.at p.context id a) x → stepped file p ≡ Ok (step_of p.at id (record { value = x; next = p.at + length (id ∷ bs) }))
step_at file p id bs rest a x l al e b =
    let n : p.at + 1 + length bs ≡ p.at + length (id ∷ bs) = omega arith in
    step_by file p id (bs ++ rest) a x _ l al e (sym (b.again rest (after file p.at (id ∷ []) (bs ++ rest) e)))
    ∙ ap (λ k. Ok (step_of p.at id (record { value = x; next = k }))) n

-- an element
element_at : (file rest : List ℕ) (p : Position) (id : ℕ) (bs : List ℕ) (a : Action) (r : Answer Drawn) (e : Element) → id < 128 → allowed state.Cell id ≡ Ok a → performed file (p.at + 1) p.at p.context id a ≡ drawn_in p.context r → DrawnBack file (p.at + 1) bs r e → p.context.state ≡ state.Cell → drop p.at file ≡ (id ∷ bs) ++ rest → ElementRead file p id (id ∷ bs) e
element_at file rest p id bs a r e l al same d in_cell s =
    let c = p.context in
    record {
      after = d.after;
      absolute = d.absolute;
      read =
          step_at file p id bs rest a (varied c (content.Element e) d.after) l (ap (λ x. allowed x id) in_cell ∙ al) s
          (back_is (sym same) (back_last _ d.back refl))
          ∙ ap (λ x. Ok (step_to p.at id (content.Element e) (position (p.at + length (id ∷ bs)) x c.late d.after))) in_cell;
    }

-- a placement
pub placement_read : PlacementRead
placement_read a f t q ha hf ht hq file rest p in_cell still s =
    element_at file rest p 17 _ action.Placement _ _ (omega arith) refl refl (placement_back a f t q ha hf ht hq file (p.at + 1) p.at p.context.modals still) in_cell s

-- a text
pub text_read : TextRead
text_read t l q ht hl hq file rest p in_cell still s =
    element_at file rest p 19 _ action.Text _ _ (omega arith) refl refl (label_back t l q ht hl hq file (p.at + 1) p.at p.context.modals still) in_cell s

-- a rectangle
pub rectangle_read : RectangleRead
rectangle_read l d q hl hd hq file rest p in_cell still s =
    element_at file rest p 20 _ action.Rectangle _ _ (omega arith) refl refl (rectangle_back l d q hl hd hq file (p.at + 1) p.at p.context.modals still) in_cell s

-- a polygon
pub polygon_read : PolygonRead
polygon_read l q qs hl hq file rest p in_cell still s =
    element_at file rest p 21 _ action.Polygon _ _ (omega arith) refl refl (polygon_back l q qs hl hq file (p.at + 1) p.at p.context.modals still) in_cell s

-- a path
pub path_read : PathRead
path_read l d q qs hl hd hq file rest p in_cell still s =
    element_at file rest p 22 _ action.Path _ _ (omega arith) refl refl (path_back l d q qs hl hd hq file (p.at + 1) p.at p.context.modals still) in_cell s

-- what may stand anywhere between START and END
anywhere : (p : Position) (id : ℕ) (a : Action) → Between p → allowed state.Top id ≡ Ok a → allowed state.Cell id ≡ Ok a → allowed p.context.state id ≡ Ok a
anywhere p id a (inl e) t c = ap (λ s. allowed s id) e ∙ t
anywhere p id a (inr e) t c = ap (λ s. allowed s id) e ∙ c

-- a cell
pub cells_read : CellsRead
cells_read file rest p t h between s =
    let a : List ℕ = 0x0e ∷ text_bytes t in
    let m : ℕ = p.at + length a in
    let c : Position = position m state.Cell p.context.late fresh in
    let s1 : drop p.at file ≡ a ++ (0x0f ∷ rest) = s ∙ append_assoc a (0x0f ∷ []) rest in
    let n : m + 1 ≡ p.at + length (cell_bytes t) = omega (arith, length-append (text_bytes t) (0x0f ∷ [])) in
    record {
      mode = m;
      behind = omega arith;
      opened =
          step_at file p 14 (text_bytes t) (0x0f ∷ rest) action.CellByName (reset state.Cell p.context.late (content.Cell (text_given (p.at + 1) t))) (omega arith)
          (anywhere p 14 action.CellByName between refl refl) s1 (back_last _ (string_back Name file (p.at + 1) t h) refl);
      moded =
          step_at file c 15 [] rest action.Absolute (varied c.context (content.Mode false) fresh) (omega arith) refl (after file p.at a (0x0f ∷ rest) s1) back_none
          ∙ ap (λ k. Ok (step_to m 15 (content.Mode false) (position k state.Cell p.context.late fresh))) n;
    }

-- START
pub start_read : StartRead
start_read file rest p u h due s =
    step_at file p 1 _ rest action.Start (reset state.Top false (content.Start (record { unit = u; late = false }))) (omega arith) (ap (λ x. allowed x 1) due) s
    (back_last _ (start_back file (p.at + 1) u h) refl)

-- END
pub end_read : EndRead
end_read file p between early s =
    let v : ℕ = sum_before file p.at in
    let e : End = Checksum32 v in
    let r : end file (p.at + 1) p.at p.context.late ≡ got e (length file) =
    ap (end file (p.at + 1) p.at) early ∙ end_back file p.at (after file p.at (0x02 ∷ []) (end_fields ++ four_bytes v) s) in
    step_by file p 2 (end_fields ++ four_bytes v) action.End (reset state.Ended p.context.late (content.End e)) (length file) (omega arith)
    (anywhere p 2 action.End between refl refl) s (ap (λ x. then x (λ e n. got (reset state.Ended p.context.late (content.End e)) n)) r)
    ∙ ap (λ x. Ok (step_to p.at 2 (content.End e) (position (length file) state.Ended x fresh))) early

-- The explicit form of items is a file of those items.
use Rattle.std.proofs.Common.{◌≡◌, ℕ, ◌+◌, ◌%◌, ◌^◌, ◌≤◌, true, false, List, [], ◌∷◌, ◌++◌, length, drop, Some, None, fold, sum, sym, refl, ap, ◌∙◌, subst, ap₂, inl, inr, arith}
use Rattle.std.specs.List.{between, AllByRecursion as Every}
use Rattle.std.proofs.lemmas.List.{append-nil, append_assoc}
use Rattle.tokens.proofs.Backs.{after}
use Rattle.frames.specs.Laws.{end_bytes as end_fields, four_bytes, sum_before}
use Rattle.fields.specs.declared.reference.Reference.{Reference}
use Rattle.fields.specs.declared.reference.Reference.TheVariants.{Given, Number}
use Rattle.elements.specs.declared.element.Element.{Element}
use Rattle.elements.specs.declared.element.Element.TheVariants as element
use Rattle.steps.specs.declared.state.FileState.{FileState}
use Rattle.steps.specs.declared.state.FileState.TheVariants as state
use Rattle.steps.specs.declared.state.Position.{Position}
use Rattle.steps.specs.declared.state.Record.{Record}
use Rattle.steps.specs.declared.state.Record.TheVariants as content
use Rattle.steps.specs.declared.state.RecordAt.{RecordAt}
use Rattle.runs.specs.Laws as run
use Rattle.runs.specs.Laws.{Sequence}
use Rattle.runs.specs.Runs.{longest, at_start}
use Rattle.runs.proofs.Progress.{step_lands}
use Rattle.runs.proofs.Sequences.{sequence_is_run}
use Rattle.name_table.specs.Records.{Seen, Agree}
use Rattle.items.specs.declared.stage.Stage.{Stage}
use Rattle.items.specs.declared.stage.Stage.TheVariants as stage
use Rattle.items.specs.Sequences as order
use Rattle.items.specs.Sequences.{kind_of, onward}
use Rattle.items.specs.Things.{Thing, a_start, a_cell, a_placement, a_text, a_rectangle, a_polygon, a_path, an_end}
use Rattle.items.specs.Validity.{valid}
use Rattle.items.proofs.Orders.{whole}
use Rattle.explicit.specs.Bytes.{start_bytes, end_bytes, cell_bytes}
use Rattle.explicit.specs.Laws.{Between}
use Rattle.drawing.specs.Drawn.{Naming, Spelled, SpelledElement, Plain}
use Rattle.drawing.specs.Laws.{Draws, InCell}
use Rattle.drawing.specs.Written.{record_bytes, written, explicit_form}
use Rattle.drawing.proofs.Readings.{elements_read, cells_drawn, starts_read, ends_read}
use Rattle.laws.specs.Files.{cell_names, text_strings, names_in, names_of, naming_of, items_in, items, refers_at, refers_in, references, Known}
use Rattle.laws.specs.Laws.{Drawable, Reread, FormsDistinct}
use Rattle.laws.proofs.Sums.{sum-grown, four_cut}

-- the rest of a file from a position draws these items, and has nothing to do with name records
record Rest (file : List ℕ) (p : Position) (ts : List Thing) : Type 0 where
  pub records : List RecordAt
  pub last : Position
  pub sequence : Sequence file p records last
  pub ended : last.context.state ≡ state.Ended
  pub at_end : last.at ≡ length file
  pub items : (names : Naming) → items_in names file records ≡ ts
  pub plain : Every (λ r. Plain r.content) records

-- one record, and the rest
goes : (file : List ℕ) (p : Position) (size : ℕ) (ts us : List Thing) (d : Draws file p size ts) → (p.context.state ≡ state.Ended → ⊥) → Rest file d.step.after us → Rest file p (ts ++ us)
goes file p size ts us d n r =
    let l = step_lands file p d.step (sym d.read) in
    record {
      records = d.step.found ∷ r.records;
      last = r.last;
      sequence = run.next d.step n d.read l.0 l.1 r.sequence;
      ended = r.ended;
      at_end = r.at_end;
      items = λ names. ap₂ (λ a b. a ++ b) (d.items names) (r.items names);
      plain = (d.plain, r.plain);
    }

-- a stage in which more is due, and where the file is then
data Seat : Stage → Position → Type 0 where
  top : {p : Position} → p.context.state ≡ state.Top → Seat stage.Top p
  cell : {p : Position} → InCell p → Seat stage.Cell p

-- no END was read there
not_top : {t : FileState} → t ≡ state.Top → t ≡ state.Ended → ⊥
not_top e f = cc

not_cell : {t : FileState} → t ≡ state.Cell → t ≡ state.Ended → ⊥
not_cell e f = cc

open_seat : {g : Stage} {p : Position} → Seat g p → p.context.state ≡ state.Ended → ⊥
open_seat (top e) = not_top e
open_seat (cell c) = not_cell c.inside

between_seat : {g : Stage} {p : Position} → Seat g p → Between p
between_seat (top e) = inl e
between_seat (cell c) = inr c.inside

-- a refused item stays refused
none_stays : {P : Type 0} (ts : List Thing) (g : Stage) → fold onward None ts ≡ Some g → P
none_stays [] g e = absurd (cc)
none_stays (t ∷ ts) g e = none_stays ts g e

-- nothing follows an end
nothing_follows : (ts : List Thing) → fold onward (Some stage.Ended) ts ≡ Some stage.Ended → ts ≡ []
nothing_follows [] e = refl
nothing_follows (t ∷ ts) e = none_stays ts stage.Ended (ended_kind (kind_of t) e)
  where
    ended_kind : (k : order.Kind) → fold onward (order.next stage.Ended k) ts ≡ Some stage.Ended → fold onward None ts ≡ Some stage.Ended
    ended_kind order.starting f = f
    ended_kind order.naming f = f
    ended_kind order.element f = f
    ended_kind order.ending f = f

module _ (file : List ℕ) where
  -- what is known where the items ts are still to be read: their bytes stand there, behind bytes with the sum s
  record Due (s : ℕ) (p : Position) (ts : List Thing) : Type 0 where
    pub late : p.context.late ≡ false
    pub low : 13 ≤ p.at
    pub bytes : drop p.at file ≡ written s ts
    pub sums : s ≡ sum (between 13 p.at file)

  -- behind the bytes of a record
  due_next : (s : ℕ) (p q : Position) (bs : List ℕ) (us : List Thing) → p.context.late ≡ false → 13 ≤ p.at → drop p.at file ≡ bs ++ written (s + sum bs) us → s ≡ sum (between 13 p.at file) → q.at ≡ p.at + length bs → q.context.late ≡ p.context.late → Due (s + sum bs) q us
  due_next s p q bs us late low e h n l =
      record {
        late = l ∙ late;
        low = omega arith;
        bytes = ap (λ k. drop k file) n ∙ after file p.at bs (written (s + sum bs) us) e;
        sums = sum-grown file p.at s bs (written (s + sum bs) us) low e h ∙ ap (λ k. sum (between 13 k file)) (sym n);
      }

  -- an element, and the rest
  element_trip : (s : ℕ) (p : Position) (t : Thing) (us : List Thing) → kind_of t ≡ order.element → valid t ≡ true → InCell p → p.context.late ≡ false → 13 ≤ p.at → drop p.at file ≡ record_bytes s t ++ written (s + sum (record_bytes s t)) us → s ≡ sum (between 13 p.at file) → ((q : Position) → InCell q → Due (s + sum (record_bytes s t)) q us → Rest file q us) → Rest file p (t ∷ us)
  element_trip s p t us k v c late low e h on =
      let x = elements_read file (written (s + sum (record_bytes s t)) us) p s t k v c e in
      let d = x.0 in
      goes file p (length (record_bytes s t)) (t ∷ []) us d (not_cell c.inside)
      (on d.step.after x.1 (due_next s p d.step.after (record_bytes s t) us late low e h d.next d.late))

  -- an end, which is the last
  end_trip : (s : ℕ) (p : Position) → Between p → (p.context.state ≡ state.Ended → ⊥) → p.context.late ≡ false → 13 ≤ p.at → drop p.at file ≡ record_bytes s an_end ++ [] → s ≡ sum (between 13 p.at file) → Rest file p (an_end ∷ [])
  end_trip s p b n late low e h =
      let head : List ℕ = 0x02 ∷ end_fields in
      let x : ℕ = s + sum head in
      let e1 : drop p.at file ≡ head ++ (four_bytes x ++ []) = e ∙ append_assoc head (four_bytes x) [] in
      let g : x ≡ sum (between 13 (p.at + 252) file) = sum-grown file p.at s head (four_bytes x ++ []) low e1 h in
      let cut : sum_before file p.at ≡ x % 2 ^ 32 = ap (λ k. k % 2 ^ 32) (sym g) in
      let same : end_bytes x ≡ end_bytes (sum_before file p.at) = ap (λ l. head ++ l) (four_cut x ∙ ap four_bytes (sym cut)) in
      let y = ends_read file p b late (e ∙ append-nil (end_bytes x) ∙ same) in
      let d = y.0 in
      let l = step_lands file p d.step (sym d.read) in
      goes file p 256 (an_end ∷ []) [] d n
      (record {
        records = [];
        last = d.step.after;
        sequence = run.none;
        ended = y.1;
        at_end = l.2 n y.1;
        items = λ names. refl;
        plain = tt;
      })

  -- a cell, and the rest
  cell_trip : (n : List ℕ) (us : List Thing) (s : ℕ) (p : Position) → Between p → (p.context.state ≡ state.Ended → ⊥) → Due s p (a_cell n ∷ us) → valid (a_cell n) ≡ true → ((q : Position) → InCell q → Due (s + sum (cell_bytes n)) q us → Rest file q us) → Rest file p (a_cell n ∷ us)
  cell_trip n us s p b k w v on =
      let x = cells_drawn file (written (s + sum (cell_bytes n)) us) p s n v b w.bytes in
      let d = x.1 in
      let e = x.3 in
      let size = x.4 in
      let dn = d.next in
      let en = e.next in
      let far : e.step.after.at ≡ p.at + length (cell_bytes n) = omega arith in
      goes file p x.0 (a_cell n ∷ []) us d k
      (goes file d.step.after 1 [] us e (not_cell x.2.inside)
      (on e.step.after x.5 (due_next s p e.step.after (cell_bytes n) us w.late w.low w.bytes w.sums far (e.late ∙ d.late))))

  -- an end
  last_trip : {g : Stage} (us : List Thing) (s : ℕ) (p : Position) → Seat g p → Due s p (an_end ∷ us) → fold onward (Some stage.Ended) us ≡ Some stage.Ended → Rest file p (an_end ∷ us)
  last_trip us s p seat w f =
      let none = nothing_follows us f in
      subst (λ l. Rest file p (an_end ∷ l)) (sym none)
      (end_trip s p (between_seat seat) (open_seat seat) w.late w.low (w.bytes ∙ ap (λ l. record_bytes s an_end ++ written (s + sum (record_bytes s an_end)) l) none) w.sums)

  -- what is left of the file is read as the items that are left
  trip : (us : List Thing) {g : Stage} (s : ℕ) (p : Position) → Seat g p → Due s p us → Every (λ t. valid t ≡ true) us → fold onward (Some g) us ≡ Some stage.Ended → Rest file p us
  trip [] s p (top x) w v f = absurd (cc)
  trip [] s p (cell x) w v f = absurd (cc)
  trip (a_start u ∷ us) s p (top x) w v f = none_stays us stage.Ended f
  trip (a_start u ∷ us) s p (cell x) w v f = none_stays us stage.Ended f
  trip (a_cell n ∷ us) s p (top x) w v f = cell_trip n us s p (inl x) (not_top x) w v.0 (λ q c r. trip us (s + sum (cell_bytes n)) q (cell c) r v.1 f)
  trip (a_cell n ∷ us) s p (cell x) w v f = cell_trip n us s p (inr x.inside) (not_cell x.inside) w v.0 (λ q c r. trip us (s + sum (cell_bytes n)) q (cell c) r v.1 f)
  trip (a_placement n q a b ∷ us) s p (top x) w v f = none_stays us stage.Ended f
  trip (a_placement n q a b ∷ us) s p (cell x) w v f =
      element_trip s p (a_placement n q a b) us refl v.0 x w.late w.low w.bytes w.sums (λ r c d. trip us _ r (cell c) d v.1 f)
  trip (a_text l t q y ∷ us) s p (top x) w v f = none_stays us stage.Ended f
  trip (a_text l t q y ∷ us) s p (cell x) w v f =
      element_trip s p (a_text l t q y) us refl v.0 x w.late w.low w.bytes w.sums (λ r c d. trip us _ r (cell c) d v.1 f)
  trip (a_rectangle l d y h q ∷ us) s p (top x) w v f = none_stays us stage.Ended f
  trip (a_rectangle l d y h q ∷ us) s p (cell x) w v f =
      element_trip s p (a_rectangle l d y h q) us refl v.0 x w.late w.low w.bytes w.sums (λ r c e. trip us _ r (cell c) e v.1 f)
  trip (a_polygon l d vs ∷ us) s p (top x) w v f = none_stays us stage.Ended f
  trip (a_polygon l d vs ∷ us) s p (cell x) w v f =
      element_trip s p (a_polygon l d vs) us refl v.0 x w.late w.low w.bytes w.sums (λ r c e. trip us _ r (cell c) e v.1 f)
  trip (a_path l d h b e vs ∷ us) s p (top x) w v f = none_stays us stage.Ended f
  trip (a_path l d h b e vs ∷ us) s p (cell x) w v f =
      element_trip s p (a_path l d h b e vs) us refl v.0 x w.late w.low w.bytes w.sums (λ r c g. trip us _ r (cell c) g v.1 f)
  trip (an_end ∷ us) s p (top x) w v f = last_trip us s p (top x) w f
  trip (an_end ∷ us) s p (cell x) w v f = last_trip us s p (cell x) w f

-- the whole form
form_read : (ts : List Thing) → Drawable ts → (r : Rest (explicit_form ts) at_start ts) × run.Readable (explicit_form ts)
form_read ts w = by ts w.valid ((whole ts).1 w.order) w.short
  where
    by : (ts : List Thing) → Every (λ t. valid t ≡ true) ts → order.stage_at ts ≡ Some stage.Ended → length (explicit_form ts) ≤ longest → (r : Rest (explicit_form ts) at_start ts) × run.Readable (explicit_form ts)
    by [] v f h = absurd (cc)
    by (a_start u ∷ us) v f h =
        let file : List ℕ = explicit_form (a_start u ∷ us) in
        let bs : List ℕ = start_bytes u in
        let rest : List ℕ = written (0 + sum bs) us in
        let x = starts_read file rest at_start 0 u v.0 refl refl refl in
        let d = x.0 in
        let q = d.step.after in (
          goes file at_start (length bs) (a_start u ∷ []) us d (λ e. cc)
              (trip file us (0 + sum bs) q (top x.1) (due_next file 0 at_start q bs us refl (omega arith) refl refl d.next d.late) v.1 f),
          record { short = h; rest = bs ++ rest; marked = refl },
        )
    by (a_cell n ∷ us) v f h = none_stays us stage.Ended f
    by (a_placement n p a b ∷ us) v f h = none_stays us stage.Ended f
    by (a_text l t p x ∷ us) v f h = none_stays us stage.Ended f
    by (a_rectangle l d w h p ∷ us) v f k = none_stays us stage.Ended f
    by (a_polygon l d vs ∷ us) v f h = none_stays us stage.Ended f
    by (a_path l d h b e vs ∷ us) v f k = none_stays us stage.Ended f
    by (an_end ∷ us) v f h = none_stays us stage.Ended f

-- records that have nothing to do with names
plain_names : (file : List ℕ) (rs : List RecordAt) → Every (λ r. Plain r.content) rs → names_of file rs ≡ []
plain_names file [] p = refl
plain_names file (r ∷ rs) p = ap₂ (λ a b. a ++ b) (one r.content p.0) (plain_names file rs p.1)
  where
    one : (c : Record) → Plain c → names_in file c ≡ []
    one content.Pad q = refl
    one (content.Start s) q = refl
    one (content.End e) q = refl
    one (content.CellName f) q = absurd q
    one (content.TextString f) q = absurd q
    one (content.Cell r) q = refl
    one (content.Mode m) q = refl
    one (content.Element e) q = refl

-- refer to none
plain_known : (ns : List Seen) (rs : List RecordAt) → Every (λ r. Plain r.content) rs → Every (λ r. Every (Known ns) (references r.place r.content)) rs
plain_known ns [] p = tt
plain_known ns (r ∷ rs) p = (one r.place r.content p.0, plain_known ns rs p.1)
  where
    spelled : (place class : ℕ) (c : Reference) → Spelled c → Every (Known ns) (refers_at place class c)
    spelled place class (Given x) q = tt
    spelled place class (Number k) q = absurd q

    drawn : (place : ℕ) (e : Element) → SpelledElement e → Every (Known ns) (refers_in place e)
    drawn place (element.Placement e) q = spelled place cell_names e.cell q
    drawn place (element.Text e) q = spelled place text_strings e.text q
    drawn place (element.Rectangle e) q = tt
    drawn place (element.Polygon e) q = tt
    drawn place (element.Path e) q = tt

    one : (place : ℕ) (c : Record) → Plain c → Every (Known ns) (references place c)
    one place content.Pad q = tt
    one place (content.Start s) q = tt
    one place (content.End e) q = tt
    one place (content.CellName f) q = tt
    one place (content.TextString f) q = tt
    one place (content.Cell r) q = spelled place cell_names r q
    one place (content.Mode m) q = tt
    one place (content.Element e) q = drawn place e q

-- the explicit form is an allowed file with exactly its items
pub reread : Reread
reread ts w =
    let file : List ℕ = explicit_form ts in
    let x = form_read ts w in
    let r = x.0 in
    let entire : run.Whole file r.records = record { readable = x.1; after = r.last; sequence = r.sequence; ended = r.ended; last = r.at_end } in
    let same = (sequence_is_run file r.records None entire).0 in
    let none = plain_names file r.records r.plain in
    record {
      allowed = record { records = r.records; whole = entire; agree = subst Agree (sym none) tt; known = plain_known (names_of file r.records) r.records r.plain };
      items = ap (λ rs. items_in (naming_of (names_of file rs)) file rs) same ∙ r.items (naming_of (names_of file r.records));
      nameless = ap (names_of file) same ∙ none;
    }

-- two forms are equal only where the items are
pub forms_distinct : FormsDistinct
forms_distinct ts us v w e = sym (reread ts v).items ∙ ap items e ∙ (reread us w).items

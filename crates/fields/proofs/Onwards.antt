-- No field is read backwards, and none is read beyond the end of the file.
use Rattle.std.proofs.Common.{◌≡◌, ℕ, ◌/◌, ◌%◌, ◌≤◌, Bool, eqb, leb, List, length, ℤ, pos, nat_abs, Some, None, Ok, Err, Option, refl, arith}
use Rattle.tokens.specs.declared.fault.Read.{Read}
use Rattle.tokens.specs.declared.text.StringRule.{StringRule}
use Rattle.tokens.specs.Answers.{Answer, got, then}
use Rattle.tokens.specs.Chains.{unsigned}
use Rattle.tokens.specs.Readers.{Made}
use Rattle.tokens.proofs.ChainLaws.{unsigned_made}
use Rattle.tokens.proofs.Deltas.{signed_made}
use Rattle.tokens.proofs.Mades.{made_got, made_then, made_cond, made_fault, made_less, made_weaken}
use Rattle.tokens.proofs.Parts.{part_made}
use Rattle.bounds.specs.declared.point.Point.{Point}
use Rattle.bounds.specs.Points.{reach, spot_at, all_within, places}
use Rattle.point_lists.proofs.Shapes.{summarised_made}
use Rattle.repetitions.specs.Repetitions.{repetition, summarised as copies_in_short}
use Rattle.repetitions.proofs.Mades.{repetition_made}
use Rattle.fields.specs.declared.anchor.AnchorVariables.{AnchorVariables}
use Rattle.fields.specs.declared.anchor.Present.{Present}
use Rattle.fields.specs.declared.reference.Form.{Form}
use Rattle.fields.specs.declared.reference.Form.TheVariants.{Absent, ByString, ByNumber}
use Rattle.fields.specs.declared.reference.Reference.{Reference}
use Rattle.fields.specs.declared.variables.LayerVariables.{LayerVariables}
use Rattle.fields.specs.declared.variables.PathVariables.{PathVariables}
use Rattle.fields.specs.declared.variables.SideVariables.{SideVariables}
use Rattle.fields.specs.Anchors.{coordinate, spot, anchor}
use Rattle.fields.specs.Laws.{Onward}
use Rattle.fields.specs.Numbers.{inherited, field, measure, has_layer, has_datatype, has_width, has_height, is_square, layers, sides}
use Rattle.fields.specs.References.{string_at, number_at, reference}
use Rattle.fields.specs.Shapes.{offsets_of, spread_by, copies, outline_at, outline}
use Rattle.fields.specs.Strokes.{has_half, has_extensions, extension, extensions_by, extensions, stroke}

-- of what is made, only how far it goes
pub onward_of : {A : Type 0} {file : List ℕ} {low least : ℕ} {P : A → ℕ → Type 0} {r : Answer A} → low ≤ least → Made file least r P → Onward file low r
onward_of l p = made_weaken l (λ v n h q. tt) p

-- what is read again elsewhere does not move the reader
aside : {A B : Type 0} {file : List ℕ} {n : ℕ} (a : Answer A) (f : A → B) → n ≤ length file → Onward file n (then a (λ v _. got (f v) n))
aside (Ok x) f h = made_got _ _ (omega arith) h tt
aside (Err e) f h = made_fault e

-- a reader that may turn back to where the first one began
turning : {A B : Type 0} {file : List ℕ} {least : ℕ} (a : Answer A) (f : A → ℕ → Answer B) → ((x : Read A) → Ok x ≡ a → Onward file least (f x.value x.next)) → Onward file least (then a f)
turning (Ok x) f k = k x refl
turning (Err e) f k = made_fault e

module _ (file : List ℕ) where
  unsigned_goes : (at : ℕ) → Onward file at (unsigned file at)
  unsigned_goes at = onward_of (omega arith) (unsigned_made file at)

  inherited_goes : {A : Type 0} (at first : ℕ) (v : Option A) → at ≤ length file → Onward file at (inherited at first v)
  inherited_goes at first (Some v) h = made_got v at (omega arith) h tt
  inherited_goes at first None h = made_fault _

  field_goes : (at first : ℕ) (present : Bool) (v : Option ℕ) → at ≤ length file → Onward file at (field file at first present v)
  field_goes at first present v h = made_cond present (λ _. unsigned_goes at) (λ _. inherited_goes at first v h)

  measure_goes : (at first : ℕ) (present : Bool) (v : Option ℕ) → at ≤ length file → Onward file at (measure file at first present v)
  measure_goes at first present v h =
      made_then _ (field_goes at first present v h) (λ w n l i _. made_cond (leb w reach) (λ _. made_got w n (omega arith) i tt) (λ _. made_fault _))

  -- a layer and a datatype
  pub layers_goes : (at first info : ℕ) (v : LayerVariables) → at ≤ length file → Onward file at (layers file at first info v)
  layers_goes at first info v h =
      made_then _ (field_goes at first (has_layer info) v.layer h) (λ x n _ i _.
      made_then _ (field_goes n first (has_datatype info) v.datatype i) (λ y m _ j _. made_got _ m (omega arith) j tt))

  -- a width and a height
  pub sides_goes : (at first info : ℕ) (v : SideVariables) → at ≤ length file → Onward file at (sides file at first info v)
  sides_goes at first info v h =
      made_then _ (measure_goes at first (has_width info) v.width h) (λ w n _ i _.
      made_then _ (made_cond (is_square info) (λ _. made_got w n (omega arith) i tt) (λ _. measure_goes n first (has_height info) v.height i))
      (λ y m _ j _. made_got _ m (omega arith) j tt))

  -- a string
  pub string_goes : (rule : StringRule) (at : ℕ) → Onward file at (string_at rule file at)
  string_goes rule at = made_then _ (made_less (part_made rule file at)) (λ p n _ i _. made_got _ n (omega arith) i tt)

  -- a reference number
  pub number_goes : (at : ℕ) → Onward file at (number_at file at)
  number_goes at = made_then _ (unsigned_goes at) (λ k n _ i _. made_got _ n (omega arith) i tt)

  -- a name or a text
  pub reference_goes : (rule : StringRule) (at first : ℕ) (form : Form) (v : Option Reference) → at ≤ length file → Onward file at (reference rule file at first form v)
  reference_goes rule at first Absent v h = inherited_goes at first v h
  reference_goes rule at first ByString v h = string_goes rule at
  reference_goes rule at first ByNumber v h = number_goes at

  extension_goes : (at first code : ℕ) (half : ℤ) (v : Option ℤ) → at ≤ length file → Onward file at (extension file at first code half v)
  extension_goes at first code half v h =
      made_cond (eqb code 0) (λ _. inherited_goes at first v h)
      (λ _. made_cond (eqb code 1) (λ _. made_got (pos 0) at (omega arith) h tt)
      (λ _. made_cond (eqb code 2) (λ _. made_got half at (omega arith) h tt)
      (λ _. made_then _ (onward_of {low = at} (omega arith) (signed_made file at)) (λ z n _ i _.
      made_cond (leb (nat_abs z) reach) (λ _. made_got z n (omega arith) i tt) (λ _. made_fault _)))))

  both_goes : (at first scheme : ℕ) (half : ℤ) (v : PathVariables) → at ≤ length file → Onward file at (extensions_by file at first scheme half v)
  both_goes at first scheme half v h =
      made_then _ (extension_goes at first (scheme / 4) half v.start h) (λ s n _ i _.
      made_then _ (extension_goes n first (scheme % 4) half v.end i) (λ e m _ j _. made_got _ m (omega arith) j tt))

  extensions_goes : (at first : ℕ) (present : Bool) (half : ℤ) (v : PathVariables) → at ≤ length file → Onward file at (extensions file at first present half v)
  extensions_goes at first present half v h =
      made_cond present
      (λ _. made_then _ (unsigned_goes at) (λ scheme n _ i _. made_cond (leb scheme 15) (λ _. both_goes n first scheme half v i) (λ _. made_fault _)))
      (λ _. both_goes at first 0 half v h)

  -- a half-width and its extensions
  pub stroke_goes : (at first info : ℕ) (v : PathVariables) → at ≤ length file → Onward file at (stroke file at first info v)
  stroke_goes at first info v h =
      made_then _ (measure_goes at first (has_half info) v.half h) (λ w n _ i _.
      made_then _ (extensions_goes n first (has_extensions info) (pos w) v i) (λ e m _ j _. made_got _ m (omega arith) j tt))

  copies-in_short : (at : ℕ) → Onward file at (copies_in_short (repetition file at))
  copies-in_short at = made_then _ (made_less (repetition_made file at)) (λ ps n _ i _. made_got _ n (omega arith) i tt)

  -- the copies of a record
  copies_goes : (at first : ℕ) (present : Bool) (v : Option ℕ) → at ≤ length file → Onward file at (copies file at first present v)
  copies_goes at first present v h =
      made_cond present
      (λ _. turning (unsigned file at) _ (λ kind e.
      let b = (unsigned_goes at).on kind e in
      made_cond (eqb kind.value 0)
      (λ _. onward_of b.0 (made_then _ (inherited_goes kind.next first v b.1) (λ old m _ j _. aside (copies_in_short (repetition file old)) (spread_by old) j)))
      (λ _. made_then _ (copies-in_short at) (λ s m _ j _. made_got _ m (omega arith) j tt))))
      (λ _. made_got _ at (omega arith) h tt)

  list_goes : (at : ℕ) (closed : Bool) → Onward file at (outline_at file at closed)
  list_goes at closed = made_then _ (made_less (summarised_made file at closed)) (λ s n _ i _. made_got _ n (omega arith) i tt)

  -- a point list
  pub outline_goes : (at first : ℕ) (closed present : Bool) (v : Option ℕ) → at ≤ length file → Onward file at (outline file at first closed present v)
  outline_goes at first closed present v h =
      made_cond present (λ _. list_goes at closed)
      (λ _. made_then _ (inherited_goes at first v h) (λ old n _ i _. aside (outline_at file old closed) (λ o. o) i))

  coordinate_goes : (at : ℕ) (present relative : Bool) (v : ℤ) → at ≤ length file → Onward file at (coordinate file at present relative v)
  coordinate_goes at present relative v h =
      made_cond present
      (λ _. made_then _ (onward_of {low = at} (omega arith) (signed_made file at)) (λ d n _ i _. made_got _ n (omega arith) i tt))
      (λ _. made_got v at (omega arith) h tt)

  -- the coordinates and the repetition of an element
  pub anchor_goes : (at first : ℕ) (p : Present) (v : AnchorVariables) (vs : List Point) → at ≤ length file → Onward file at (anchor file at first p v vs)
  anchor_goes at first p v vs h =
      made_then _ (spot_goes at p v h) (λ q n _ i _.
      made_then _ (copies_goes n first p.repetition v.repetition i) (λ s m _ j _.
      made_cond (all_within reach (places (spot_at q) (offsets_of file s.repetition) vs)) (λ _. made_got _ m (omega arith) j tt) (λ _. made_fault _)))
    where
      spot_goes : (at : ℕ) (p : Present) (v : AnchorVariables) → at ≤ length file → Onward file at (spot file at p v)
      spot_goes at p v h =
          made_then _ (coordinate_goes at p.x v.relative v.at.x h) (λ x n _ i _.
          made_then _ (coordinate_goes n p.y v.relative v.at.y i) (λ y m _ j _. made_got _ m (omega arith) j tt))

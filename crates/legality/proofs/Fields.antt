-- Fields are legal, given or inherited.
use Rattle.std.proofs.Common.{◌≡◌, ℕ, suc, ◌/◌, ◌%◌, Bool, cond, eqb, leb, List, length, ℤ, pos, nat_abs, Some, None, Ok, Err, Option, refl, ap, subst, arith}
use Rattle.std.proofs.lemmas.Bool.{leb-true}
use Rattle.tokens.specs.declared.fault.Read.{Read}
use Rattle.tokens.specs.declared.text.StringRule.{StringRule}
use Rattle.tokens.specs.Answers.{Answer, got, then}
use Rattle.tokens.specs.Chains.{unsigned}
use Rattle.tokens.specs.Deltas.{signed}
use Rattle.tokens.specs.Parts.{part}
use Rattle.tokens.specs.Readers.{Made}
use Rattle.tokens.proofs.Chaining.{same_got, not_fault}
use Rattle.tokens.proofs.ChainLaws.{unsigned_made}
use Rattle.tokens.proofs.Parts.{part_made}
use Rattle.bounds.specs.declared.point.Point.{Point}
use Rattle.bounds.specs.Points.{reach, spot_at, all_within, places}
use Rattle.bounds.proofs.Fitting.{all_within_lem}
use Rattle.point_lists.specs.Lists.{point_list, summarised as list_in_short}
use Rattle.point_lists.specs.Laws.{Shaped}
use Rattle.point_lists.proofs.Shapes.{list_made}
use Rattle.repetitions.specs.declared.summary.Summary.{Summary}
use Rattle.repetitions.specs.Laws.{Copied}
use Rattle.repetitions.specs.Repetitions.{repetition, summarised as copies_in_short}
use Rattle.repetitions.proofs.Mades.{repetition_made}
use Rattle.fields.specs.declared.anchor.Anchor.{Anchor}
use Rattle.fields.specs.declared.anchor.AnchorVariables.{AnchorVariables}
use Rattle.fields.specs.declared.anchor.Present.{Present}
use Rattle.fields.specs.declared.copies.Spread as spread
use Rattle.fields.specs.declared.reference.Form.{Form}
use Rattle.fields.specs.declared.reference.Form.TheVariants.{Absent, ByString, ByNumber}
use Rattle.fields.specs.declared.reference.Reference.{Reference}
use Rattle.fields.specs.declared.variables.LayerVariables.{LayerVariables}
use Rattle.fields.specs.declared.variables.PathVariables.{PathVariables}
use Rattle.fields.specs.declared.variables.SideVariables.{SideVariables}
use Rattle.fields.specs.declared.vertices.Outline.{Outline}
use Rattle.fields.specs.Anchors.{spot, anchor}
use Rattle.fields.specs.Numbers.{inherited, field, measure, has_layer, has_datatype, has_width, has_height, is_square, layers, sides}
use Rattle.fields.specs.References.{string_at, number_at, reference}
use Rattle.fields.specs.Shapes.{points_or, offsets_of, spread_by, copies, outline_at, outline}
use Rattle.fields.specs.Strokes.{has_half, has_extensions, extension, extensions_by, extensions, stroke}
use Rattle.fields.proofs.Gives.{Gives, gives_got, gives_fault, gives_then, gives_cond, gives_of}
use Rattle.legality.specs.Legal.{Holds, Fits, InReach, SignedInReach, LegalLayers, LegalSides, LegalStroke, LegalText, LegalReference, RepetitionAt, LegalRepetition, Spread, Listed, KeptLayers}

-- an inherited value is that of a variable
inherited_legal : {A : Type 0} {P : A → Type 0} (at first : ℕ) (v : Option A) → Holds P v → Gives (inherited at first v) P
inherited_legal at first (Some w) p = gives_got w at p
inherited_legal at first None p = gives_fault _

-- half-widths are at least zero
pos_reach : (w : ℕ) → InReach w → SignedInReach (pos w)
pos_reach w h = h

module _ (file : List ℕ) where
  field_legal : (at first : ℕ) (present : Bool) (v : Option ℕ) → Holds Fits v → Gives (field file at first present v) Fits
  field_legal at first present v p = gives_cond present (λ _. gives_of (unsigned_made file at)) (λ _. inherited_legal at first v p)

  measure_legal : (at first : ℕ) (present : Bool) (v : Option ℕ) → Gives (measure file at first present v) InReach
  measure_legal at first present v =
      gives_then (field file at first present v) _ (λ w _.
      gives_cond (leb w.value reach) (λ t. gives_got _ _ (leb-true w.value reach t)) (λ _. gives_fault _))

  -- a layer and a datatype
  pub layers_legal : (at first info : ℕ) (v : LayerVariables) → KeptLayers v → Gives (layers file at first info v) LegalLayers
  layers_legal at first info v k =
      gives_then (field file at first (has_layer info) v.layer) _ (λ x e.
      gives_then (field file x.next first (has_datatype info) v.datatype) _ (λ y g.
      gives_got _ _ (record { layer = (field_legal at first (has_layer info) v.layer k.layer).on x e; datatype = (field_legal x.next first (has_datatype info) v.datatype k.datatype).on y g })))

  -- a width and a height
  pub sides_legal : (at first info : ℕ) (v : SideVariables) → Gives (sides file at first info v) LegalSides
  sides_legal at first info v =
      gives_then (measure file at first (has_width info) v.width) _ (λ w e. by w.value w.next ((measure_legal at first (has_width info) v.width).on w e))
    where
      by : (w n : ℕ) → InReach w → Gives (then (cond (is_square info) (got w n) (measure file n first (has_height info) v.height)) (λ h m. got (record { width = w; height = h }) m)) LegalSides
      by w n p =
          let q : Gives (cond (is_square info) (got w n) (measure file n first (has_height info) v.height)) InReach = gives_cond (is_square info) (λ _. gives_got w n p) (λ _. measure_legal n first (has_height info) v.height) in
          gives_then (cond (is_square info) (got w n) (measure file n first (has_height info) v.height)) _ (λ h g. gives_got _ _ (record { width = p; height = q.on h g }))

  -- the text of a string, as a part of the file
  part_legal : (rule : StringRule) (at : ℕ) → Gives (part rule file at) (LegalText rule file)
  part_legal rule at =
      record {
        on = λ x e.
            let m = (part_made rule file at).on x e in
            let s = m.2 in
            let n = s.ends in
            let h = m.1 in
            record { inside = omega arith; short = s.short; obeys = s.legal };
      }

  -- a string
  pub string_legal : (rule : StringRule) (at : ℕ) → Gives (string_at rule file at) (LegalReference rule file)
  string_legal rule at = gives_then (part rule file at) _ (λ p e. gives_got _ _ ((part_legal rule at).on p e))

  -- a reference number
  pub number_legal : (rule : StringRule) (at : ℕ) → Gives (number_at file at) (LegalReference rule file)
  number_legal rule at = gives_then (unsigned file at) _ (λ k e. gives_got _ _ ((unsigned_made file at).on k e).2)

  -- a name or a text
  pub reference_legal : (rule : StringRule) (at first : ℕ) (form : Form) (v : Option Reference) → Holds (LegalReference rule file) v → Gives (reference rule file at first form v) (LegalReference rule file)
  reference_legal rule at first Absent v p = inherited_legal at first v p
  reference_legal rule at first ByString v p = string_legal rule at
  reference_legal rule at first ByNumber v p = number_legal rule at

  extension_legal : (at first code : ℕ) (half : ℤ) (v : Option ℤ) → SignedInReach half → Holds SignedInReach v → Gives (extension file at first code half v) SignedInReach
  extension_legal at first code half v h p =
      gives_cond (eqb code 0) (λ _. inherited_legal at first v p)
      (λ _. gives_cond (eqb code 1) (λ _. gives_got (pos 0) at (pos_reach 0 (omega arith)))
      (λ _. gives_cond (eqb code 2) (λ _. gives_got half at h)
      (λ _. gives_then (signed file at) _ (λ z _.
      gives_cond (leb (nat_abs z.value) reach) (λ t. gives_got _ _ (leb-true (nat_abs z.value) reach t)) (λ _. gives_fault _)))))

  -- both extensions are in reach
  abbrev Both : ℤ × ℤ → Type 0
  Both z = SignedInReach z.0 × SignedInReach z.1

  both_legal : (at first scheme : ℕ) (half : ℤ) (v : PathVariables) → SignedInReach half → Holds SignedInReach v.start → Holds SignedInReach v.end → Gives (extensions_by file at first scheme half v) (λ e. Both (e.start, e.end))
  both_legal at first scheme half v h p q =
      gives_then (extension file at first (scheme / 4) half v.start) _ (λ s e.
      gives_then (extension file s.next first (scheme % 4) half v.end) _ (λ t g.
      gives_got _ _ ((extension_legal at first (scheme / 4) half v.start h p).on s e, (extension_legal s.next first (scheme % 4) half v.end h q).on t g)))

  extensions_legal : (at first : ℕ) (present : Bool) (half : ℤ) (v : PathVariables) → SignedInReach half → Holds SignedInReach v.start → Holds SignedInReach v.end → Gives (extensions file at first present half v) (λ e. Both (e.start, e.end))
  extensions_legal at first present half v h p q =
      gives_cond present
      (λ _. gives_then (unsigned file at) _ (λ s _. gives_cond (leb s.value 15) (λ _. both_legal s.next first s.value half v h p q) (λ _. gives_fault _)))
      (λ _. both_legal at first 0 half v h p q)

  -- a half-width and its extensions
  pub stroke_legal : (at first info : ℕ) (v : PathVariables) → Holds SignedInReach v.start → Holds SignedInReach v.end → Gives (stroke file at first info v) LegalStroke
  stroke_legal at first info v p q =
      gives_then (measure file at first (has_half info) v.half) _ (λ w e.
      let h = (measure_legal at first (has_half info) v.half).on w e in
      gives_then (extensions file w.next first (has_extensions info) (pos w.value) v) _ (λ x g.
      let b = (extensions_legal w.next first (has_extensions info) (pos w.value) v (pos_reach w.value h) p q).on x g in
      gives_got _ _ (record { half = h; start = b.0; end = b.1 })))

  -- a repetition that was read, in short
  short_legal : (place : ℕ) (x : Read Summary) → Ok x ≡ copies_in_short (repetition file place) → RepetitionAt file place × (x.value.copies ≡ length (points_or (repetition file place)))
  short_legal place x e = by (repetition file place) (repetition_made file place) e
    where
      by : (r : Answer (List Point)) → Made file (suc place) r (λ ps n. Copied ps) → Ok x ≡ copies_in_short r → Copied (points_or r) × (x.value.copies ≡ length (points_or r))
      by (Ok y) m g = ((m.on y refl).2, ap (λ (s : Summary). s.copies) (same_got g).0)
      by (Err d) m g = not_fault g

  -- the copies of a record
  abbrev LegalSpread : spread.Spread → Type 0
  LegalSpread s = LegalRepetition file s.repetition × Holds (RepetitionAt file) s.stored

  copies_legal : (at first : ℕ) (present : Bool) (v : Option ℕ) → Holds (RepetitionAt file) v → Gives (copies file at first present v) LegalSpread
  copies_legal at first present v p =
      gives_cond present
      (λ _. gives_then (unsigned file at) _ (λ kind _.
      gives_cond (eqb kind.value 0)
      (λ _. gives_then (inherited kind.next first v) _ (λ old _. again old.value old.next))
      (λ _. gives_then (copies_in_short (repetition file at)) _ (λ s e. let l = short_legal at s e in gives_got _ _ (l, l.0)))))
      (λ _. gives_got _ _ (tt, p))
    where
      again : (old n : ℕ) → Gives (then (copies_in_short (repetition file old)) (λ s _. got (spread_by old s) n)) LegalSpread
      again old n = gives_then (copies_in_short (repetition file old)) _ (λ s e. let l = short_legal old s e in gives_got _ _ (l, l.0))

  -- a list that was read
  abbrev LegalOutline : (closed : Bool) → Outline → Type 0
  LegalOutline closed o = (o.closed ≡ closed) × Listed file closed o.place o.vertices

  list_legal : (at : ℕ) (closed : Bool) → Gives (outline_at file at closed) (LegalOutline closed)
  list_legal at closed = by (point_list file at closed) refl (list_made file at closed)
    where
      by : (r : Answer (List Point)) → r ≡ point_list file at closed → Made file (suc at) r (λ ps n. Shaped closed ps) → Gives (then (list_in_short r) (λ s n. got (record { place = at; closed = closed; vertices = s.vertices; bounds = s.bounds }) n)) (LegalOutline closed)
      by (Ok y) e m =
          let p : y.value ≡ points_or (point_list file at closed) = ap points_or e in
          gives_got _ _ (refl, record { list = subst (Shaped closed) p (m.on y refl).2; count = ap length p })
      by (Err d) e m = gives_fault d

  -- the list of a record
  pub outline_legal : (at first : ℕ) (closed present : Bool) (v : Option ℕ) → Gives (outline file at first closed present v) (LegalOutline closed)
  outline_legal at first closed present v =
      gives_cond present (λ _. list_legal at closed)
      (λ _. gives_then (inherited at first v) _ (λ old _. gives_then (outline_at file old.value closed) _ (λ o e. gives_got _ _ ((list_legal old.value closed).on o e))))

  -- where an element stands
  abbrev pub LegalAnchor : List Point → Anchor → Type 0
  LegalAnchor vs a = Spread file a.at a.repetition vs × Holds (RepetitionAt file) a.stored

  pub anchor_legal : (at first : ℕ) (p : Present) (v : AnchorVariables) (vs : List Point) → Holds (RepetitionAt file) v.repetition → Gives (anchor file at first p v vs) (LegalAnchor vs)
  anchor_legal at first p v vs k =
      gives_then (spot file at p v) _ (λ q _.
      gives_then (copies file q.next first p.repetition v.repetition) _ (λ s e.
      let l = (copies_legal q.next first p.repetition v.repetition k).on s e in
      gives_cond (all_within reach (places (spot_at q.value) (offsets_of file s.value.repetition) vs))
      (λ t. gives_got _ _ (record { copies = l.0; near = (all_within_lem reach (places (spot_at q.value) (offsets_of file s.value.repetition) vs)).0 t }, l.1))
      (λ _. gives_fault _)))

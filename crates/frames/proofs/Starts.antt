-- Lemmas on START.
use Rattle.std.proofs.Common.{◌≡◌, ℕ, suc, ◌<◌, ◌≤◌, Bool, not, List, length, IfOk, Ok, sym, refl, ap, ◌∙◌, subst, arith}
use Rattle.std.specs.Str.{bytes_eq}
use Rattle.std.proofs.lemmas.Slice.Eq.{bytes_eq-Decides}
use Rattle.tokens.specs.declared.fault.FaultKind.TheVariants.{Version}
use Rattle.tokens.specs.declared.fault.Read.{Read}
use Rattle.tokens.specs.declared.text.StringRule.TheVariants.{Binary}
use Rattle.tokens.specs.Answers.{Answer, got, fault, then}
use Rattle.tokens.specs.Chains.{largest}
use Rattle.tokens.specs.Readers.{Made, Local}
use Rattle.tokens.specs.Texts.{text}
use Rattle.tokens.specs.Units.{unit}
use Rattle.tokens.proofs.Chaining.{going, same_got, passed}
use Rattle.tokens.proofs.Locals.{local_then, local_got, local_fault, local_cond, text_local, unit_local}
use Rattle.tokens.proofs.Mades.{made_got, made_fault, made_then, made_cond, made_less, made_by}
use Rattle.tokens.proofs.Texts.{text_made}
use Rattle.tokens.proofs.Units.{unit_made}
use Rattle.frames.specs.declared.start.Start.{Start}
use Rattle.frames.specs.Laws.{bit, TabledWhere, StartMade, StartLocal, Starts, StartExactly}
use Rattle.frames.specs.Starts.{version, version_at, start}
use Rattle.frames.specs.Tables.{switch, tables_where}
use Rattle.frames.proofs.Parts.{parted}
use Rattle.frames.proofs.Tables.{switch_made, where_made, switch_local, where_local, switch_parts, switch_from, where_stand, stand_where}

-- the version takes at least one byte
version_made : (file : List ℕ) (at : ℕ) → Made file (suc at) (version_at file at) (λ u n. Unit {0})
unfolding version_at
version_made file at =
    made_then _ (text_made Binary file at) (λ t n l h s. made_cond (bytes_eq t version) (λ e. made_got tt n (omega arith) h tt) (λ e. made_fault _))

-- what is made of START
pub start_made : StartMade
unfolding start
start_made file at =
    made_then _ (version_made file at) (λ _ n l h _.
    made_then _ (made_less (unit_made file n)) (λ u m i j p.
    made_then _ (made_less (switch_made file m)) (λ late k _ g _.
    made_then _ (where_made (not late) file k g) (λ _ q f e _. made_got (record { unit = u; late = late }) q (omega arith) e p))))

-- the version is read from no other bytes
version_local : Local version_at
unfolding version_at
version_local =
    local_then (text Binary) _ (text_local Binary) (λ at t. local_cond (bytes_eq t version) (λ file n. got tt n) (λ file n. fault Version at) (local_got tt) (local_fault _))

-- nor is START
pub start_local : StartLocal
unfolding start
start_local = local_then version_at (λ file at u n. from_unit file n) version_local (λ at u. local_then unit (λ file n v m. from_switch v file m) unit_local (λ n v. switched v))
  where
    from_tables : ℕ → Bool → List ℕ → ℕ → Answer Start
    from_tables v late file n = then (tables_where (not late) file n) (λ _ m. got (record { unit = v; late = late }) m)

    from_switch : ℕ → List ℕ → ℕ → Answer Start
    from_switch v file n = then (switch file n) (λ late m. from_tables v late file m)

    from_unit : List ℕ → ℕ → Answer Start
    from_unit file n = then (unit file n) (λ v m. from_switch v file m)

    tabled : (v : ℕ) (late : Bool) → Local (from_tables v late)
    tabled v late = local_then (tables_where (not late)) (λ file n u m. got (record { unit = v; late = late }) m) (where_local (not late)) (λ n u. local_got _)

    switched : (v : ℕ) → Local (from_switch v)
    switched v = local_then switch (λ file n late m. from_tables v late file m) switch_local (λ n late. tabled v late)

-- what the reader of START promises
pub start-within : (file : List ℕ) (at : ℕ) (r : Answer Start) → r ≡ start file at → IfOk r (λ x. (1 ≤ x.value.unit) × (x.value.unit ≤ largest) × (at < x.next) × (x.next ≤ length file))
start-within file at r e = made_by _ e (start_made file at) (λ x l h p. (p.0, p.1, l, h))

-- the version that was read
version_parts : (file : List ℕ) (at : ℕ) (x : Read (Unit {0})) → Ok x ≡ version_at file at → text Binary file at ≡ got version x.next
unfolding version_at
version_parts file at x e =
    let p = parted (text Binary file at) _ x e in
    let q = passed (bytes_eq p.0.value version) (got tt p.0.next) _ p.2 in
    sym p.1 ∙ ap (λ t. got t p.0.next) ((bytes_eq-Decides p.0.value version).0 q.0) ∙ ap (λ n. got version n) (sym (same_got q.1).1)

-- the version is read
version_from : (file : List ℕ) (at n : ℕ) → text Binary file at ≡ got version n → got tt n ≡ version_at file at
unfolding version_at
version_from file at n e = going _ (sym e) refl

-- a START that was read stands there
start_stands : (file : List ℕ) (at : ℕ) (s : Start) (n : ℕ) → got s n ≡ start file at → Starts file at s n
unfolding start
start_stands file at s n e =
    let y : Read Start = record { value = s; next = n } in
    let v = parted (version_at file at) _ y e in
    let u = parted (unit file v.0.next) _ y v.2 in
    let l = parted (switch file u.0.next) _ y u.2 in
    let t = parted (tables_where (not l.0.value) file l.0.next) _ y l.2 in
    let g = same_got t.2 in
    let a : s.unit ≡ u.0.value = ap (λ (x : Start). x.unit) g.0 in
    let b : s.late ≡ l.0.value = ap (λ (x : Start). x.late) g.0 in
    let w = where_stand (not l.0.value) file l.0.next t.0 t.1 in
    record {
      first = v.0.next;
      second = u.0.next;
      third = l.0.next;
      versioned = version_parts file at v.0 v.1;
      united = sym u.1 ∙ ap (λ k. got k u.0.next) (sym a);
      told = switch_parts file u.0.next l.0 l.1 ∙ ap (λ k. got (bit k) l.0.next) (sym b);
      tabled = subst (λ k. TabledWhere (not k) file l.0.next n) (sym b) (subst (λ k. TabledWhere (not l.0.value) file l.0.next k) (sym g.1) w);
    }

-- a START that stands there is read
starts_read : (file : List ℕ) (at : ℕ) (s : Start) (n : ℕ) → Starts file at s n → got s n ≡ start file at
unfolding start
starts_read file at s n h =
    going _ (version_from file at h.first h.versioned)
    (going _ (sym h.united)
    (going _ (switch_from file h.second s.late h.third h.told)
    (going _ (stand_where (not s.late) file h.third n h.tabled) refl)))

-- exactly those
pub start_exactly : StartExactly
start_exactly file at s n = ((λ e. start_stands file at s n (sym e)), λ h. sym (starts_read file at s n h))

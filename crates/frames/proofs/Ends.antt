-- Lemmas on END.
use Rattle.std.proofs.Common.{◌≡◌, ℕ, zero, suc, ◌+◌, ◌-◌, ◌<◌, ◌≤◌, Bool, true, false, cond, not, ◌&&◌, ◌||◌, eqb, leb, List, length, take, drop, IfOk, Ok, sym, refl, ap, ◌∙◌, subst, ⊎_elim, arith, length-drop}
use Rattle.std.specs.List.{between}
use Rattle.std.proofs.lemmas.List.{take_all}
use Rattle.std.proofs.lemmas.Bool.{and_parts, and_from, leb-true, eqb-true, eq-eqb, le-leb, cases_Bool, cond-true, cond-false, cond_both}
use Rattle.checksum.specs.Sums.{checksum_of}
use Rattle.tokens.specs.declared.fault.Read.{Read}
use Rattle.tokens.specs.declared.text.StringRule.TheVariants.{Binary}
use Rattle.tokens.specs.Answers.{Answer, got}
use Rattle.tokens.specs.Chains.{unsigned}
use Rattle.tokens.specs.Texts.{text}
use Rattle.tokens.proofs.ChainLaws.{unsigned_made}
use Rattle.tokens.proofs.Chaining.{going, first_way, other_way, same_got, passed}
use Rattle.tokens.proofs.Mades.{made_by}
use Rattle.tokens.proofs.Texts.{text_made}
use Rattle.frames.specs.declared.end.End.{End}
use Rattle.frames.specs.declared.end.End.TheVariants.{Unsigned, Crc32, Checksum32}
use Rattle.checksum.specs.Ends.{low_first}
use Rattle.frames.specs.Ends.{first_record, end_size, no_scheme, crc_scheme, sum_scheme, last_scheme, signature_size, scheme_of, signature_of, signed_by, signature_place, scheme_at, stored_at, signature_at, validation_at, sum_to, ended, end}
use Rattle.frames.specs.Tables.{tables_where}
use Rattle.frames.specs.Laws.{Sealed, EndMade, Ends, EndExactly}
use Rattle.frames.proofs.Parts.{parted}
use Rattle.frames.proofs.Tables.{where_local, where_stand, stand_where}

-- a scheme that was read
pub scheme_parts : (file : List ℕ) (at : ℕ) (x : Read ℕ) → Ok x ≡ scheme_at file at → (Ok x ≡ unsigned file at) × (x.value ≤ last_scheme)
unfolding scheme_at
scheme_parts file at x e =
    let p = parted (unsigned file at) _ x e in
    let q = passed (leb p.0.value last_scheme) (got p.0.value p.0.next) _ p.2 in
    let s : x ≡ p.0 = cc in
    (ap Ok s ∙ p.1, omega (arith, ap (λ (y : Read ℕ). y.value) s, leb-true _ _ q.0))

-- a scheme is read
scheme_from : (file : List ℕ) (at v n : ℕ) → unsigned file at ≡ got v n → v ≤ last_scheme → got v n ≡ scheme_at file at
unfolding scheme_at
scheme_from file at v n e h = going _ (sym e) (first_way _ (sym (le-leb _ _ h)) refl)

-- a signature of `size` bytes that was read
pub record Signed (file : List ℕ) (at size v n : ℕ) : Type 0 where
  pub after : n ≡ at + size
  pub inside : n ≤ length file
  pub stored : v ≡ low_first (take size (drop at file))

-- none is there, or four bytes are
signature_parts : (file : List ℕ) (at scheme : ℕ) (x : Read ℕ) → at ≤ length file → Ok x ≡ signature_at scheme file at → Signed file at (signature_size scheme) x.value x.next
unfolding signature_at stored_at
signature_parts file at scheme x h e = ⊎_elim none four (cases_Bool (eqb scheme no_scheme))
  where
    none : eqb scheme no_scheme ≡ true → Signed file at (signature_size scheme) x.value x.next
    none b =
        let g = same_got (e ∙ cond-true (eqb scheme no_scheme) _ _ b) in
        subst (λ t. Signed file at (cond t 0 4) x.value x.next) (sym b) (record { after = omega (arith, g.1); inside = omega (arith, g.1); stored = g.0 })

    four : eqb scheme no_scheme ≡ false → Signed file at (signature_size scheme) x.value x.next
    four b =
        let p = passed (leb 4 (length file - at)) (got (low_first (take 4 (drop at file))) (at + 4)) _ (e ∙ cond-false (eqb scheme no_scheme) _ _ b) in
        let g = same_got p.1 in
        subst (λ t. Signed file at (cond t 0 4) x.value x.next) (sym b) (record { after = g.1; inside = omega (arith, g.1, leb-true _ _ p.0); stored = g.0 })

-- the END of a scheme and a signature has that scheme
same_scheme : (e : End) (scheme v : ℕ) → e ≡ signed_by scheme v → scheme ≤ last_scheme → scheme_of e ≡ scheme
same_scheme e scheme v f h = ap scheme_of f ∙ by scheme h
  where
    by : (scheme : ℕ) → scheme ≤ last_scheme → scheme_of (signed_by scheme v) ≡ scheme
    by zero h = refl
    by (suc zero) h = refl
    by (suc (suc zero)) h = refl
    by (suc (suc (suc k))) h = absurd (omega (arith, h))

-- and that signature
same_signature : (e : End) (scheme v : ℕ) → e ≡ signed_by scheme v → (scheme ≡ no_scheme → v ≡ 0) → signature_of e ≡ v
same_signature e scheme v f h =
    ap signature_of f
    ∙ cond_both (eqb scheme no_scheme) Unsigned (cond (eqb scheme crc_scheme) (Crc32 v) (Checksum32 v)) (λ x. signature_of x ≡ v) (λ z. sym (h (eqb-true _ _ z)))
    (λ _. cond_both (eqb scheme crc_scheme) (Crc32 v) (Checksum32 v) (λ x. signature_of x ≡ v) (λ _. refl) (λ _. refl))

-- and each END is of its own
same_end : (e : End) → signed_by (scheme_of e) (signature_of e) ≡ e
same_end Unsigned = refl
same_end (Crc32 v) = refl
same_end (Checksum32 v) = refl

-- where its signature begins
same_place : (e : End) (scheme s n : ℕ) → scheme_of e ≡ scheme → n ≡ s + signature_size scheme → signature_place e n ≡ s
same_place e scheme s n k h = rw k (omega (arith, h))

-- what the last tests tell of the END y that was read
pub record Tested (file : List ℕ) (first : ℕ) (e : End) (n : ℕ) (y : Read End) : Type 0 where
  pub value_is : y.value ≡ e
  pub next_is : y.next ≡ n
  pub size : y.next ≡ first + end_size
  pub last : y.next ≡ length file
  pub sum : scheme_of y.value ≡ sum_scheme → signature_of y.value ≡ sum_to file (signature_place y.value y.next)

-- they tell it of a value
tested : (file : List ℕ) (first : ℕ) (e : End) (n : ℕ) (y : Read End) → Ok y ≡ ended file first e n → Tested file first e n y
unfolding ended
tested file first e n y h =
    let s = sum_to file (signature_place e n) in
    let p = passed (eqb n (first + end_size) && eqb n (length file)) _ _ h in
    let a = and_parts _ _ p.0 in
    let q = passed (not (eqb (scheme_of e) sum_scheme) || eqb (signature_of e) s) (got e n) _ p.1 in
    let g = same_got q.1 in
    record {
      value_is = g.0;
      next_is = g.1;
      size = g.1 ∙ eqb-true _ _ a.0;
      last = g.1 ∙ eqb-true _ _ a.1;
      sum = rw (g.0, g.1) (λ b. eqb-true _ _ (ap (λ t. not t || eqb (signature_of e) s) (sym (eq-eqb (scheme_of e) sum_scheme b)) ∙ q.0));
    }

-- the place of the tables' end
where_on : (late : Bool) (file : List ℕ) (at : ℕ) (x : Read (Unit {0})) → Ok x ≡ tables_where late file at → at ≤ x.next
where_on late file at x e = (where_local late).onward file at x e

-- what is left of a file where the signature ends it
rest_is : (file : List ℕ) (s k : ℕ) → length file ≡ s + k → take k (drop s file) ≡ drop s file
rest_is file s k e = take_all k (drop s file) (omega (arith, length-drop s file))

-- an END that was read stands there
pub stands : (file : List ℕ) (at first : ℕ) (late : Bool) (y : Read End) → Ok y ≡ end file at first late → Ends file at first late y.value × (y.next ≡ length file)
unfolding end validation_at sum_to
stands file at first late y e =
    let t = parted (tables_where late file at) _ y e in
    let x = parted (text Binary file t.0.next) _ y t.2 in
    let w = parted (validation_at file x.0.next) _ y x.2 in
    let c = parted (scheme_at file x.0.next) _ w.0 w.1 in
    let g = parted (signature_at c.0.value file c.0.next) _ w.0 c.2 in
    let i = same_got g.2 in
    let r = tested file first w.0.value w.0.next y w.2 in
    let p = scheme_parts file x.0.next c.0 c.1 in
    let u = (unsigned_made file x.0.next).on c.0 p.0 in
    let s = signature_parts file c.0.next c.0.value g.0 u.1 g.1 in
    let n : length file ≡ c.0.next + signature_size c.0.value = omega (arith, r.last, r.next_is, i.1, s.after) in
    let f : y.value ≡ signed_by c.0.value g.0.value = r.value_is ∙ i.0 in
    let k : scheme_of y.value ≡ c.0.value = same_scheme y.value _ _ f p.1 in
    let v : signature_of y.value ≡ g.0.value =
    same_signature y.value _ _ f (λ z. s.stored ∙ ap (λ l. low_first (take (signature_size l) (drop c.0.next file))) z) in (
      record {
        padding = t.0.next;
        scheme = x.0.next;
        signature = c.0.next;
        tabled = where_stand late file at t.0 t.1;
        filler = x.0.value;
        padded = sym x.1;
        told = sym p.0 ∙ ap (λ m. got m c.0.next) (sym k);
        known = omega (arith, k, p.1);
        last = n ∙ ap (λ m. c.0.next + signature_size m) (sym k);
        size = sym r.last ∙ r.size;
        stored = v ∙ s.stored ∙ ap low_first (rest_is file c.0.next (signature_size c.0.value) n);
        sum = λ b. r.sum b ∙ ap (sum_to file) (same_place y.value c.0.value c.0.next y.next k (r.last ∙ n));
      },
      r.last,
    )

-- the signature is read where the file ends with it
signature_from : (file : List ℕ) (at scheme : ℕ) → length file ≡ at + signature_size scheme → got (low_first (drop at file)) (length file) ≡ signature_at scheme file at
unfolding signature_at stored_at
signature_from file at scheme e = ⊎_elim none four (cases_Bool (eqb scheme no_scheme))
  where
    none : eqb scheme no_scheme ≡ true → got (low_first (drop at file)) (length file) ≡ signature_at scheme file at
    none b =
        let n : length file ≡ at + 0 = rw b at e in
        let m : length file ≡ at = omega arith in
        first_way _ (sym b) (ap (λ l. got (low_first l) (length file)) (sym (rest_is file at 0 n)) ∙ ap (λ k. got 0 k) m)

    four : eqb scheme no_scheme ≡ false → got (low_first (drop at file)) (length file) ≡ signature_at scheme file at
    four b =
        let n : length file ≡ at + 4 = rw b at e in
        other_way _ (sym b) (first_way _ (sym (le-leb 4 (length file - at) (omega arith))) (ap (λ l. got (low_first l) (length file)) (sym (rest_is file at 4 n)) ∙ ap (λ k. got (low_first (take 4 (drop at file))) k) n))

-- a checksum that has to be the file's only under one scheme
pub sum_test : (scheme v w : ℕ) → (scheme ≡ sum_scheme → v ≡ w) → (not (eqb scheme sum_scheme) || eqb v w) ≡ true
sum_test scheme v w h = ⊎_elim (λ (b : eqb scheme sum_scheme ≡ true). rw b (eq-eqb v w (h (eqb-true _ _ b)))) (λ (b : eqb scheme sum_scheme ≡ false). rw b) (cases_Bool (eqb scheme sum_scheme))

-- the last tests are passed
ended_from : (file : List ℕ) (first : ℕ) (e : End) → length file ≡ first + end_size → (scheme_of e ≡ sum_scheme → signature_of e ≡ sum_to file (signature_place e (length file))) → got e (length file) ≡ ended file first e (length file)
unfolding ended
ended_from file first e h k =
    first_way _ (sym (and_from _ _ (eq-eqb (length file) (first + end_size) h) (eq-eqb (length file) (length file) refl)))
    (first_way _ (sym (sum_test (scheme_of e) (signature_of e) (sum_to file (signature_place e (length file))) k)) refl)

-- an END that stands there is read
pub ends_read : (file : List ℕ) (at first : ℕ) (late : Bool) (e : End) → Ends file at first late e → end file at first late ≡ got e (length file)
unfolding end validation_at sum_to
ends_read file at first late e h =
    let g : got (signature_of e) (length file) ≡ signature_at (scheme_of e) file h.signature = ap (λ v. got v (length file)) h.stored ∙ signature_from file h.signature (scheme_of e) h.last in
    let s : h.signature ≡ signature_place e (length file) = omega (arith, h.last) in
    sym (going _ (stand_where late file at h.padding h.tabled)
    (going _ (sym h.padded)
    (going _ (going _ (scheme_from file h.scheme (scheme_of e) h.signature h.told h.known) (going _ g (ap (λ x. got x (length file)) (sym (same_end e)))))
    (ended_from file first e h.size (λ b. h.sum b ∙ ap (λ m. checksum_of (between first_record m file)) s)))))

-- exactly those
pub end_exactly : EndExactly
end_exactly file at first late e = ((λ r. (stands file at first late (record { value = e; next = length file }) (sym r)).0), ends_read file at first late e)

-- a checksum that stands in four bytes at the end of the file
sealed_by : (file : List ℕ) (s : ℕ) → length file ≡ s + 4 → low_first (drop s file) ≡ checksum_of (between first_record s file) → Sealed file
sealed_by file s e h =
    let n : s ≡ length file - 4 = omega arith in
    record { four = omega arith; sum = rw n at h }

-- how far an END that stands there goes
ends_on : (file : List ℕ) (at first : ℕ) (late : Bool) (e : End) → Ends file at first late e → at < length file
ends_on file at first late e h =
    let a = where_on late file at (record { value = tt; next = h.padding }) (stand_where late file at h.padding h.tabled) in
    let b = (text_made Binary file h.padding).on _ (sym h.padded) in
    let c = (unsigned_made file h.scheme).on _ (sym h.told) in
    omega (arith, b.0, c.0, h.last)

-- what is made of END
pub end_made : EndMade
end_made file at first late =
    record {
      on = λ y e.
          let w = stands file at first late y e in
          let h = w.0 in
          let l = ends_on file at first late y.value h in (
            omega (arith, w.1),
            omega (arith, w.1),
            record {
              last = w.1;
              size = w.1 ∙ h.size;
              known = h.known;
              sealed = λ b. sealed_by file h.signature (h.last ∙ ap (λ v. h.signature + signature_size v) b) (sym h.stored ∙ h.sum b);
            },
          );
    }

-- what the reader of END promises
pub end-within : (file : List ℕ) (at first : ℕ) (late : Bool) (r : Answer End) → r ≡ end file at first late → IfOk r (λ x. (scheme_of x.value ≤ last_scheme) × (at < x.next) × (x.next ≡ first + end_size) × (x.next ≡ length file))
end-within file at first late r e = made_by _ e (end_made file at first late) (λ x l h p. (p.known, l, p.size, p.last))

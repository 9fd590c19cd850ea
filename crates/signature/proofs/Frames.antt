-- A file has a signature just where it is the magic, a body and four bytes more.
use Rattle.std.proofs.Common.{◌≡◌, ℕ, ◌+◌, ◌-◌, ◌<◌, ◌≤◌, true, eqb, ltb, List, ◌++◌, length, take, drop, Ok, Err, sym, refl, ap, ◌∙◌, arith}
use Rattle.std.specs.List.{between}
use Rattle.std.proofs.lemmas.Slice.Eq.{bytes_eq-Decides}
use Rattle.std.proofs.lemmas.List.{length-append, length-drop, take_all, take_at, drop_at, drop-drop, take-append-drop}
use Rattle.std.proofs.lemmas.Bool.{cond-true, cond-false, le-ltb, lt-ltb, ne_eqb}
use Rattle.signature.specs.declared.report.Absence.TheVariants.{TooShort}
use Rattle.checksum.specs.Ends.{magic, has_magic, low_first}
use Rattle.signature.specs.Frames.{signed_by, Framed, signature_of, findings}

-- the last four bytes are all that stands from the fourth to last on
pub last_four : (file : List ℕ) → 4 ≤ length file → low_first (take 4 (drop (length file - 4) file)) ≡ low_first (drop (length file - 4) file)
last_four file h = ap low_first (take_all 4 (drop (length file - 4) file) (omega (arith, length-drop (length file - 4) file)))

module _ (file body mark : List ℕ) (f : Framed file body mark) where
  framed_length : length file ≡ length body + 17
  framed_length = let e = ap length f.parts in omega (arith, e, length-append body mark, f.four)

  pub framed_room : 17 ≤ length file
  framed_room = omega (arith, framed_length)

  framed_magic : has_magic file ≡ true
  framed_magic =
      (bytes_eq-Decides (take 13 file) magic).1 (ap (take 13) f.parts ∙ take_at magic (body ++ mark) 13 refl)

  -- what stands behind the magic
  rest : drop 13 file ≡ body ++ mark
  rest = ap (drop 13) f.parts ∙ drop_at magic (body ++ mark) 13 refl

  framed_body : between 13 (length file - 4) file ≡ body
  framed_body = ap (take (length file - 4 - 13)) rest ∙ take_at body mark (length file - 4 - 13) (omega (arith, framed_length))

  framed_mark : drop (length file - 4) file ≡ mark
  framed_mark =
      let e : 13 + length body ≡ length file - 4 = omega (arith, framed_length) in
      ap (λ n. drop n file) (sym e) ∙ sym (drop-drop (length body) 13 file) ∙ ap (drop (length body)) rest ∙ drop_at body mark (length body) refl

  pub framed_signature : signature_of file ≡ signed_by body mark
  framed_signature =
      ap (λ b. signed_by b (drop (length file - 4) file)) framed_body ∙ ap (λ m. signed_by body m) framed_mark

-- a file with the magic and room for a checksum has both
pub findings_both : (file : List ℕ) → 17 ≤ length file → has_magic file ≡ true → findings file ≡ Ok (signature_of file)
findings_both file room begins =
    cond-false (eqb (length file) 0) _ _ (ne_eqb (length file) 0 (omega arith))
    ∙ cond-false (ltb (length file) 17) _ _ (le-ltb (length file) 17 room)
    ∙ cond-true (has_magic file) _ _ begins

-- one with less room has none
pub findings_short : (file : List ℕ) → (length file ≡ 0 → ⊥) → length file < 17 → findings file ≡ Err TooShort
findings_short file some less =
    cond-false (eqb (length file) 0) _ _ (ne_eqb (length file) 0 some) ∙ cond-true (ltb (length file) 17) _ _ (lt-ltb (length file) 17 less)

-- a file with the magic and room for a checksum is framed
pub framed_by : (file : List ℕ) → 17 ≤ length file → has_magic file ≡ true → Framed file (between 13 (length file - 4) file) (drop (length file - 4) file)
framed_by file room begins =
    let e : length file - 4 ≡ 13 + (length file - 4 - 13) = omega arith in
    let back : drop (length file - 4) file ≡ drop (length file - 4 - 13) (drop 13 file) = ap (λ n. drop n file) e ∙ sym (drop-drop (length file - 4 - 13) 13 file) in
    record {
      parts = sym (
          ap (λ m. magic ++ (between 13 (length file - 4) file ++ m)) back
          ∙ ap (λ r. magic ++ r) (take-append-drop (length file - 4 - 13) (drop 13 file))
          ∙ ap (λ m. m ++ drop 13 file) (sym ((bytes_eq-Decides (take 13 file) magic).0 begins))
          ∙ take-append-drop 13 file
          );
      four = length-drop (length file - 4) file ∙ omega arith;
    }

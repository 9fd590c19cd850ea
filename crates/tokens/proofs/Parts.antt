-- Parts that hold the text of a string.
use Rattle.std.proofs.Common.{◌≡◌, ℕ, suc, ◌+◌, ◌-◌, List, length, Ok, Err, sym, refl, ap, ◌∙◌, arith, length-append}
use Rattle.std.specs.List.{between}
use Rattle.tokens.specs.declared.text.StringRule.{StringRule}
use Rattle.tokens.specs.Answers.{Answer, got, then}
use Rattle.tokens.specs.Encodings.{shortest, text_bytes}
use Rattle.tokens.specs.Laws.{PartMade, PartShows, PartBack}
use Rattle.tokens.specs.Parts.{bytes_in}
use Rattle.tokens.specs.Readers.{Made}
use Rattle.tokens.specs.Texts.{obeys, text, Stands}
use Rattle.tokens.proofs.Backs.{back_last}
use Rattle.tokens.proofs.Encodings.{text_back}
use Rattle.tokens.proofs.Mades.{made_got, made_then}
use Rattle.tokens.proofs.Texts.{text_made}

-- the bytes before the place after a text are the text
shows : (rule : StringRule) (file : List ℕ) (at : ℕ) (t : List ℕ) (n : ℕ) → Stands rule file at t n → bytes_in file (record { place = n - length t; size = length t }) ≡ t
shows rule file at t n s =
    let a = s.after in
    let e : n - length t + length t ≡ n = omega arith in
    ap (λ i. between (n - length t) i file) e ∙ sym s.here

-- the part is behind the string's first byte, and its bytes obey the rule
pub part_made : PartMade
part_made rule file at =
    made_then _ (text_made rule file at) (λ t n l h s.
    let a = s.after in
    made_got _ n (omega arith) h (record {
      after = omega arith;
      ends = omega arith;
      short = s.short;
      legal = ap (obeys rule) (shows rule file at t n s) ∙ s.legal;
    }))

-- its bytes are the text
pub part_shows : PartShows
part_shows rule file at = by (text rule file at) (text_made rule file at)
  where
    by : (r : Answer (List ℕ)) → Made file (suc at) r (Stands rule file at) → then (then r λ t n. got (record { place = n - length t; size = length t }) n) (λ p n. got (bytes_in file p) n) ≡ r
    by (Ok x) m = ap (λ b. got b x.next) (shows rule file at x.value x.next (m.on x refl).2)
    by (Err e) m = refl

-- the place of a text is what is left of its string's end
begins : (at : ℕ) (t : List ℕ) → at + length (text_bytes t) - length t ≡ at + length (shortest (length t))
begins at t = omega (arith, length-append (shortest (length t)) t)

-- a string that was written is read again as where its text stands
pub part_back : PartBack
part_back rule file at t h =
    back_last _ (text_back rule file at t h) (ap (λ i. got (record { place = i; size = length t }) (at + length (text_bytes t))) (begins at t))

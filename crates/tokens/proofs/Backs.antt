-- Bytes that stand in a file are read again.
use Rattle.std.proofs.Common.{◌≡◌, ℕ, ◌+◌, ◌-◌, List, [], ◌++◌, length, drop, sym, refl, ap, ◌∙◌, add-zero, arith, length-append, length-drop}
use Rattle.std.proofs.lemmas.List.{append_assoc, append-nil, drop-drop, drop_at}
use Rattle.tokens.specs.Answers.{Answer, got, then}
use Rattle.tokens.specs.Laws.{Distinct}
use Rattle.tokens.specs.Readers.{Back}
use Rattle.tokens.proofs.Chaining.{going, same_got}

-- what is left of the file after bytes that stand in it
pub after : (file : List ℕ) (at : ℕ) (a rest : List ℕ) → drop at file ≡ a ++ rest → drop (at + length a) file ≡ rest
after file at a rest e = sym (drop-drop (length a) at file) ∙ ap (drop (length a)) e ∙ drop_at a rest (length a) refl

-- how much is left where bytes stand
pub left : (file : List ℕ) (at : ℕ) (bs rest : List ℕ) → drop at file ≡ bs ++ rest → length file - at ≡ length bs + length rest
left file at bs rest e = sym (length-drop at file) ∙ ap length e ∙ length-append bs rest

-- one reader after another
pub back_then : {A B : Type 0} {file : List ℕ} {at : ℕ} {a b : List ℕ} {r : Answer A} {v : A} {w : B} (f : A → ℕ → Answer B) → Back file at a r v → Back file (at + length a) b (f v (at + length a)) w → Back file at (a ++ b) (then r f) w
back_then {file = file} {at = at} {a = a} {b = b} {w = w} f p q =
    record {
      again = λ rest e.
          let e1 = e ∙ append_assoc a b rest in
          let n : at + length (a ++ b) ≡ at + length a + length b = omega (arith, length-append a b) in
          going f (p.again (b ++ rest) e1) (ap (λ k. got w k) n ∙ q.again rest (after file at a (b ++ rest) e1));
    }

-- the last reader, and what is tested and made after it
pub back_last : {A B : Type 0} {file : List ℕ} {at : ℕ} {a : List ℕ} {r : Answer A} {v : A} {w : B} (f : A → ℕ → Answer B) → Back file at a r v → f v (at + length a) ≡ got w (at + length a) → Back file at a (then r f) w
back_last f p q = record { again = λ rest e. going f (p.again rest e) (sym q) }

-- a value that takes no byte
pub back_none : {A : Type 0} {file : List ℕ} {at : ℕ} {v : A} → Back file at [] (got v at) v
back_none {at = at} {v = v} = record { again = λ rest e. ap (λ n. got v n) (add-zero at) }

-- the same of an equal answer
pub back_is : {A : Type 0} {file : List ℕ} {at : ℕ} {bs : List ℕ} {r s : Answer A} {v : A} → r ≡ s → Back file at bs r v → Back file at bs s v
back_is e p = record { again = λ rest h. p.again rest h ∙ e }

-- values that are read again have bytes of their own
pub back_distinct : {A : Type 0} (reader : List ℕ → ℕ → Answer A) (P : A → Type 0) (bytes : A → List ℕ) → ((file : List ℕ) (at : ℕ) (v : A) → P v → Back file at (bytes v) (reader file at) v) → Distinct P bytes
back_distinct reader P bytes k v w p q e =
    let file : List ℕ = bytes v in
    let a = (k file 0 v p).again [] (sym (append-nil file)) in
    let b = (k file 0 w q).again [] (e ∙ sym (append-nil (bytes w))) in
    (same_got (a ∙ sym b)).0

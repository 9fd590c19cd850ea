-- The fields of a name record: what they are, that they are read again, and that they depend on nothing else.
use Rattle.std.proofs.Common.{ℕ, ◌+◌, ◌≤◌, Bool, true, false, List, length, Some, None, Option, refl, arith}
use Rattle.tokens.specs.Answers.{got}
use Rattle.tokens.specs.Chains.{unsigned}
use Rattle.tokens.specs.Encodings.{text_bytes}
use Rattle.tokens.specs.Readers.{Made, Back, Local}
use Rattle.tokens.specs.Parts.{part}
use Rattle.tokens.proofs.Backs.{back_then, back_last, back_none}
use Rattle.tokens.proofs.ChainLaws.{unsigned_made}
use Rattle.tokens.proofs.Encodings.{unsigned_back}
use Rattle.tokens.proofs.Locals.{local_then, local_got, unsigned_local, part_local}
use Rattle.tokens.proofs.Mades.{made_got, made_then, made_less}
use Rattle.tokens.proofs.Parts.{part_made, part_back}
use Rattle.names.specs.Fields.{number_at}
use Rattle.names.specs.Laws.{Numbered, NameMade, NameLocal, number_bytes, NameBack}

-- a number takes no step back, and is there exactly where it is given
number_made : (given : Bool) (file : List ℕ) (at : ℕ) → at ≤ length file → Made file at (number_at given file at) (λ k n. Numbered given k)
number_made true file at h = made_then _ (made_less (unsigned_made file at)) (λ k n _ i p. made_got (Some k) n (omega arith) i p)
number_made false file at h = made_got None at (omega arith) h tt

-- the name is a part of what was read, and obeys the rule
pub name_made : NameMade
name_made rule given file at =
    made_then _ (part_made rule file at) (λ p n l h s.
    made_then _ (number_made given file n h) (λ k m i j q.
    let e = s.ends in
    made_got (record { part = p; number = k }) m (omega arith) j
    (record { after = s.after; inside = omega arith; legal = s.legal; short = s.short; number = q })))

-- a number is read from no other bytes
number_local : (given : Bool) → Local (number_at given)
number_local true = local_then unsigned (λ file at k n. got (Some k) n) unsigned_local (λ at k. local_got _)
number_local false = local_got _

-- nor are the fields
pub name_local : NameLocal
name_local rule given =
    local_then (part rule) _ (part_local rule) (λ at p.
    local_then (number_at given) (λ file n k m. got (record { part = p; number = k }) m) (number_local given) (λ n k. local_got _))

-- the bytes of a number are read again
number_back : (given : Bool) (file : List ℕ) (at : ℕ) (number : Option ℕ) → Numbered given number → Back file at (number_bytes number) (number_at given file at) number
number_back true file at (Some k) p = back_last _ (unsigned_back file at k p) refl
number_back true file at None p = absurd p
number_back false file at (Some k) p = absurd p
number_back false file at None p = back_none

-- a name and its number that were written are read again
pub name_back : NameBack
name_back rule given file at t number f p =
    back_then _ (part_back rule file at t f)
    (back_last _ (number_back given file (at + length (text_bytes t)) number p) refl)

-- What is written of START and END is read again.
use Rattle.std.proofs.Common.{◌≡◌, ℕ, zero, suc, ◌+◌, ◌*◌, ◌/◌, ◌%◌, ◌^◌, ◌<◌, false, List, [], ◌∷◌, ◌++◌, length, drop, replicate, sum, sym, refl, ap, ◌∙◌, mod-lt, arith}
use Rattle.std.specs.List.{between}
use Rattle.checksum.specs.Sums.{checksum_of}
use Rattle.tokens.specs.declared.text.StringRule.TheVariants.{Binary}
use Rattle.tokens.specs.Encodings.{shortest, text_bytes}
use Rattle.tokens.specs.Readers.{Back}
use Rattle.tokens.proofs.Backs.{after, left, back_then, back_last, back_none}
use Rattle.tokens.proofs.Encodings.{small_back, text_back, unit_back}
use Rattle.frames.specs.declared.end.End.TheVariants.{Checksum32}
use Rattle.checksum.specs.Ends.{low_first}
use Rattle.frames.specs.Ends.{first_record, sum_scheme}
use Rattle.frames.specs.Laws.{StartBack, four_bytes, sum_before, EndBack}
use Rattle.frames.specs.Starts.{version, version_at, start}
use Rattle.frames.specs.Tables.{switch, table, table_count, tables}
use Rattle.frames.proofs.Ends.{ends_read}

-- the version is read again
version_back : (file : List ℕ) (at : ℕ) → Back file at (0x03 ∷ version) (version_at file at) tt
unfolding version_at shortest
version_back file at = back_last _ (text_back Binary file at version (omega arith, refl)) refl

-- a switch that is off
switch_off : (file : List ℕ) (at : ℕ) → Back file at (0 ∷ []) (switch file at) false
unfolding switch
switch_off file at = back_last _ (small_back file at 0 (omega arith)) refl

-- a table that is not there
table_off : (file : List ℕ) (at : ℕ) → Back file at (0 ∷ 0 ∷ []) (table file at) tt
unfolding table
table_off file at = back_then _ (switch_off file at) (back_last _ (small_back file _ 0 (omega arith)) refl)

-- the bytes of so many of them
abbrev offs : ℕ → List ℕ
offs zero = []
offs (suc k) = 0 ∷ 0 ∷ offs k

-- are read again
tables_off : (k : ℕ) (file : List ℕ) (at : ℕ) → Back file at (offs k) (tables k file at) tt
unfolding tables
tables_off zero file at = back_none
tables_off (suc k) file at = back_then _ (table_off file at) (tables_off k file _)

-- START is read again
pub start_back : StartBack
unfolding start
start_back file at u h =
    back_then _ (version_back file at)
    (back_then _ (unit_back file _ u h) (back_then _ (switch_off file _) (back_last _ (tables_off table_count file _) refl)))

-- four bytes hold a number of 32 bits
four_low : (n : ℕ) → n < 2 ^ 32 → low_first (four_bytes n) ≡ n
four_low n h =
    let a : n / 256 / 256 ≡ n / 65536 = omega arith in
    let b : n / 65536 / 256 ≡ n / 16777216 = omega arith in
    let c : n % 256 + 256 * (n / 256) ≡ n = omega arith in
    let d : n / 256 % 256 + 256 * (n / 256 / 256) ≡ n / 256 = omega arith in
    let e : n / 65536 % 256 + 256 * (n / 65536 / 256) ≡ n / 65536 = omega arith in
    let f : n / 16777216 % 256 ≡ n / 16777216 = omega arith in
    omega arith

-- END is read again
pub end_back : EndBack
unfolding shortest
end_back file first e =
    let v : ℕ = sum_before file first in
    let pad : List ℕ = replicate 248 0 in
    let p : ℕ = first + 1 in
    let q : ℕ = p + length (text_bytes pad) in
    let s : ℕ = q + 1 in
    let a = (text_back Binary file p pad (omega arith, refl)).again (sum_scheme ∷ four_bytes v) e in
    let f : drop q file ≡ (sum_scheme ∷ []) ++ four_bytes v = after file p (text_bytes pad) (sum_scheme ∷ four_bytes v) e in
    let b = (small_back file q sum_scheme (omega arith)).again (four_bytes v) f in
    let g : drop s file ≡ four_bytes v = after file q (sum_scheme ∷ []) (four_bytes v) f in
    let n = left file p (text_bytes pad) (sum_scheme ∷ four_bytes v) e in
    let m : s ≡ first + 252 = omega arith in
    ends_read file p first false (Checksum32 v)
    (record {
      padding = p;
      scheme = q;
      signature = s;
      tabled = refl;
      filler = pad;
      padded = sym a;
      told = sym b;
      known = omega arith;
      last = omega arith;
      size = omega arith;
      stored = sym (ap low_first g ∙ four_low v (mod-lt (sum (between first_record (first + 252) file)) (omega arith)));
      sum = λ _. ap (λ k. checksum_of (between first_record k file)) (sym m);
    })

-- Laws of running sums.
use Rattle.std.proofs.Common.{◌≡◌, ℕ, suc, ◌+◌, ◌*◌, ◌%◌, ◌^◌, ◌<◌, ◌≤◌, List, [], ◌∷◌, ◌++◌, length, get_or, fold, sum, Fits, w8, sym, ap, ◌∙◌, add-zero, add_assoc, mod-lt, mod-eq_of_lt, zero-add, arith}
use native.Mathlib.Nat.{mod-add-mod, add-mod}
use lib.Pow.{mod-mod-pow}
use Rattle.std.proofs.lemmas.List.Sums.{sum_by-append}
use Rattle.checksum.specs.Sums.{checksum_of, added, joined_checksum, Taken}

-- adding no bytes alters nothing
pub added_none : (s : ℕ) → s < 2 ^ 64 → s ≡ added s []
added_none s h = sym (rw add-zero (mod-eq_of_lt h))

-- adding bytes and then others is adding all of them
pub added_joined : (s : ℕ) (front back : List ℕ) → added (added s front) back ≡ added s (front ++ back)
added_joined s front back =
    mod-add-mod (s + sum front) (2 ^ 64) (sum back)
    ∙ ap (λ n. n % 2 ^ 64) (add_assoc s (sum front) (sum back) ∙ ap (λ n. s + n) (sym (sum_by-append (λ x. x) front back)))

-- one byte
pub added_one : (s b : ℕ) → (s + b) % 2 ^ 64 ≡ added s (b ∷ [])
added_one s b = ap (λ n. (s + n) % 2 ^ 64) (sym (zero-add b))

-- bytes behind those that were taken
pub taken_more : (s : ℕ) (past bytes : List ℕ) → Taken s past → added s bytes ≡ added 0 (past ++ bytes)
taken_more s past bytes before = ap (λ n. added n bytes) before ∙ added_joined 0 past bytes

-- adding byte by byte is adding the whole
pub added_bytewise : (s : ℕ) (bytes : List ℕ) → s < 2 ^ 64 → added s bytes ≡ fold (λ s b. added s (b ∷ [])) s bytes
added_bytewise s [] h = sym (added_none s h)
added_bytewise s (b ∷ bs) h =
    sym (added_joined s (b ∷ []) bs) ∙ added_bytewise (added s (b ∷ [])) bs (mod-lt (s + sum (b ∷ [])) (omega arith))

-- from zero, a sum that fits 64 bits is not cut
pub added_uncut : (bytes : List ℕ) → sum bytes < 2 ^ 64 → added 0 bytes ≡ sum bytes
added_uncut bytes h = rw zero-add (mod-eq_of_lt h)

-- 64 bits are cut to 32 as the whole sum is
pub cut_added : (bytes : List ℕ) → added 0 bytes % 2 ^ 32 ≡ checksum_of bytes
cut_added bytes = mod-mod-pow (0 + sum bytes) 32 32 ∙ ap (λ n. n % 2 ^ 32) (zero-add (sum bytes))

-- the sum of a concatenation is the sum of the sums
pub checksum_joined : (front back : List ℕ) → checksum_of (front ++ back) ≡ joined_checksum (checksum_of front) (checksum_of back)
checksum_joined front back =
    ap (λ n. n % 2 ^ 32) (sum_by-append (λ x. x) front back) ∙ add-mod (sum front) (sum back) (2 ^ 32)

-- no byte adds more than 255
pub sum_small : (bytes : List ℕ) → ((i : ℕ) → Fits w8 (get_or bytes i 0)) → sum bytes ≤ length bytes * 255
sum_small [] fits = omega arith
sum_small (b ∷ bs) fits =
    let f : Fits w8 b = fits 0 in
    omega (arith, f.fits, sum_by-append (λ x. x) (b ∷ []) bs, sum_small bs (λ i. fits (suc i)))

-- The sum that END stores, by the bytes before it.
use Rattle.std.proofs.Common.{◌≡◌, ℕ, ◌+◌, ◌-◌, ◌*◌, ◌/◌, ◌%◌, ◌^◌, ◌<◌, ◌≤◌, List, ◌++◌, length, take, drop, sum, sym, refl, ap, ◌∙◌, arith, take-add}
use native.Mathlib.Nat.{add-mul-div_left, add-mul-mod_self_left}
use Rattle.std.specs.List.{between}
use Rattle.std.proofs.lemmas.List.{drop-drop, take_at}
use Rattle.std.proofs.lemmas.List.Sums.{sum_by-append}
use Rattle.frames.specs.Laws.{four_bytes}

-- bytes that stand at a place come behind those before it
pub grown : (file : List ℕ) (at : ℕ) (a rest : List ℕ) → 13 ≤ at → drop at file ≡ a ++ rest → between 13 (at + length a) file ≡ between 13 at file ++ a
grown file at a rest low e =
    let n : at + length a - 13 ≡ (at - 13) + length a = omega arith in
    let m : 13 + (at - 13) ≡ at = omega arith in
    ap (λ k. take k (drop 13 file)) n
    ∙ take-add (at - 13) (length a) (drop 13 file)
    ∙ ap (λ l. between 13 at file ++ l)
    (ap (take (length a)) (drop-drop (at - 13) 13 file ∙ ap (λ k. drop k file) m ∙ e) ∙ take_at a rest (length a) refl)

-- so does their sum
pub sum-grown : (file : List ℕ) (at s : ℕ) (a rest : List ℕ) → 13 ≤ at → drop at file ≡ a ++ rest → s ≡ sum (between 13 at file) → s + sum a ≡ sum (between 13 (at + length a) file)
sum-grown file at s a rest low e h =
    ap (λ k. k + sum a) h ∙ sym (sum_by-append (λ b. b) (between 13 at file) a) ∙ ap sum (sym (grown file at a rest low e))

-- a byte of a number does not depend on what is above the lowest 32 bits
byte_cut : (d e n r q : ℕ) → 0 < d → n ≡ r + d * (256 * (e * q)) → n / d % 256 ≡ r / d % 256
byte_cut d e n r q h k =
    ap (λ x. x / d % 256) k ∙ ap (λ x. x % 256) (add-mul-div_left r (256 * (e * q)) h) ∙ add-mul-mod_self_left (r / d) 256 (e * q)

-- the four bytes of a number are those of its lowest 32 bits
pub four_cut : (n : ℕ) → four_bytes n ≡ four_bytes (n % 2 ^ 32)
four_cut n =
    let r : ℕ = n % 4294967296 in
    let q : ℕ = n / 4294967296 in
    let a : n % 256 ≡ r % 256 = let k : n ≡ r + 256 * (16777216 * q) = omega arith in ap (λ x. x % 256) k ∙ add-mul-mod_self_left r 256 (16777216 * q) in
    let b : n / 256 % 256 ≡ r / 256 % 256 = byte_cut 256 65536 n r q (omega arith) (omega arith) in
    let c : n / 65536 % 256 ≡ r / 65536 % 256 = byte_cut 65536 256 n r q (omega arith) (omega arith) in
    let d : n / 16777216 % 256 ≡ r / 16777216 % 256 = byte_cut 16777216 1 n r q (omega arith) (omega arith) in
    cc

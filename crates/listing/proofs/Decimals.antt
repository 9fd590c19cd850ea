-- Numbers, digit by digit.
use Rattle.std.proofs.Common.{◌≡◌, ℕ, zero, suc, ◌+◌, ◌*◌, ◌/◌, ◌%◌, ◌^◌, ◌<◌, ◌≤◌, [], ◌∷◌, length, decimal, ℤ, pos, negsuc, ◌<ℤ◌, unsigned_abs, sym, ap, ◌∙◌, arith, length-append}
use Rattle.std.specs.Fmt.{signed_decimal}
use Rattle.std.proofs.lemmas.Int.{ints}
use Rattle.std.proofs.lemmas.Fmt.{decimal_digit, decimal_step}
use Rattle.std.proofs.Math.Nat.{pow-suc, one-le-pow}

-- a last digit
pub one_digit : (n : ℕ) → n < 10 → (48 + n % 10) ∷ [] ≡ decimal n
one_digit n h = let e : n % 10 ≡ n = omega arith in ap (λ d. (48 + d) ∷ []) e ∙ sym (decimal_digit n h)

pub one_length : (n : ℕ) → n < 10 → length (decimal n) ≡ 1
one_length n h = ap length (decimal_digit n h)

-- a digit more
pub more_length : (n : ℕ) → 10 ≤ n → n < 2 ^ 64 → length (decimal n) ≡ length (decimal (n / 10)) + 1
more_length n h s = ap length (decimal_step n h s) ∙ length-append (decimal (n / 10)) ((48 + n % 10) ∷ [])

-- a logarithm tells how many digits there are
pub log_length : (k n : ℕ) → 10 ^ k ≤ n → n < 10 * 10 ^ k → n < 2 ^ 64 → length (decimal n) ≡ k + 1
log_length zero n low high h = one_length n (omega arith)
log_length (suc k) n low high h =
    let e : 10 ^ suc k ≡ 10 ^ k * 10 = pow-suc 10 k in
    let some : 0 < 10 ^ k = one-le-pow k 10 (omega arith) in
    let r = log_length k (n / 10) (omega arith) (omega arith) (omega arith) in
    omega (arith, more_length n (omega arith) h, r)

-- a minus sign, and then the digits
pub minus_first : (z : ℤ) (n : ℕ) → z <ℤ pos 0 → n ≡ unsigned_abs z → 45 ∷ decimal n ≡ signed_decimal z
minus_first (pos m) n h e = absurd (omega (arith, ints))
minus_first (negsuc m) n h e = ap (λ k. 45 ∷ decimal k) e

-- Lemmas on signed integers and displacements.
use Rattle.std.proofs.Common.{◌≡◌, ℕ, zero, suc, ◌/◌, ◌%◌, ◌≤◌, List, [], ◌∷◌, get_or, ℤ, pos, neg_ℤ, nat_abs, refl, arith}
use Rattle.std.specs.List.{AllByRecursion as Every}
use Rattle.std.proofs.lemmas.Bool.{cond_both}
use Rattle.tokens.specs.Answers.{got, then}
use Rattle.tokens.specs.Chains.{largest, unsigned}
use Rattle.tokens.specs.Deltas.{largest_size, Sizes, even, signed_of, signed, straight_ways, all_ways, toward, straight, octangular, two_delta, three_delta, g_delta}
use Rattle.tokens.specs.Laws.{SignedMade, DeltaMade}
use Rattle.tokens.specs.Readers.{Made}
use Rattle.tokens.proofs.ChainLaws.{unsigned_made}
use Rattle.tokens.proofs.Mades.{made_got, made_then, made_cond, made_less}

-- a number and its negative have one size
pub size_neg : (n : ℕ) → nat_abs (neg_ℤ (pos n)) ≡ n
size_neg zero = refl
size_neg (suc n) = refl

-- half a code is the size
pub size_signed : (v s : ℕ) → v / 2 ≤ s → nat_abs (signed_of v) ≤ s
size_signed v s h = cond_both (even v) (pos (v / 2)) (neg_ℤ (pos (v / 2))) (λ z. nat_abs z ≤ s) (λ e. h) (λ e. omega (arith, size_neg (v / 2)))

-- what holds of each displacement of a list holds of the one at d
sizes_at : (s : ℕ) (ps : List (ℤ × ℤ)) (d : ℕ) → Every (Sizes s) ps → Sizes s (get_or ps d (pos 0, pos 0))
sizes_at s [] d h = (omega arith, omega arith)
sizes_at s (p ∷ ps) zero h = h.0
sizes_at s (p ∷ ps) (suc d) h = sizes_at s ps d h.1

-- steps in any direction have their number as size
pub size_toward : (d m s : ℕ) → m ≤ s → Sizes s (toward d (pos m))
size_toward d m s h =
    let o : 0 ≤ s = omega arith in
    let n : nat_abs (neg_ℤ (pos m)) ≤ s = omega (arith, size_neg m) in
    let p : ℤ = pos m in
    let q : ℤ = neg_ℤ p in
    let z : ℤ = pos 0 in
    sizes_at s ((p, z) ∷ (z, p) ∷ (q, z) ∷ (z, q) ∷ (p, p) ∷ (q, p) ∷ (q, q) ∷ (p, q) ∷ []) d
    ((h, o), ((o, h), ((n, o), ((o, n), ((h, h), ((n, h), ((n, n), ((h, n), tt))))))))

-- what is made of one unsigned integer
from_one : {A : Type 0} (file : List ℕ) (at : ℕ) (f : ℕ → A) (P : A → Type 0) → ((v : ℕ) → v ≤ largest → P (f v)) → Made file (suc at) (then (unsigned file at) (λ v n. got (f v) n)) (λ v n. P v)
from_one file at f P k = made_then _ (unsigned_made file at) (λ v n l h p. made_got (f v) n (omega arith) h (k v p))

-- what is made of signed integers
pub signed_made : SignedMade
unfolding signed
signed_made file at = from_one file at signed_of (λ z. nat_abs z ≤ largest_size) (λ v h. size_signed v largest_size (omega arith))

-- of 2-deltas
pub two_delta_made : DeltaMade two_delta
unfolding two_delta
two_delta_made file at = from_one file at straight (Sizes largest_size) (λ v h. size_toward (v % straight_ways) (v / straight_ways) largest_size (omega arith))

-- of 3-deltas
pub three_delta_made : DeltaMade three_delta
unfolding three_delta
three_delta_made file at = from_one file at octangular (Sizes largest_size) (λ v h. size_toward (v % all_ways) (v / all_ways) largest_size (omega arith))

-- and of g-deltas
pub g_delta_made : DeltaMade g_delta
unfolding g_delta
g_delta_made file at =
    made_then _ (unsigned_made file at) (λ v n l h p.
    made_cond (even v)
    (λ e. made_got (octangular (v / 2)) n (omega arith) h (size_toward (v / 2 % all_ways) (v / 2 / all_ways) largest_size (omega arith)))
    (λ e.
    made_then _ (made_less (signed_made file n)) (λ y m k i q.
    made_got (signed_of (v / 2), y) m (omega arith) i (size_signed (v / 2) largest_size (omega arith), q))))

-- Things read one after the other.
use Rattle.std.specs.Prelude.{ℕ, zero, suc, List, [], ◌∷◌, fold}
use Rattle.tokens.specs.Answers.{Answer, got, then}

-- the states after each of n steps from the state s, where f reads one step at a place
unfoldable pub unrolled : {S : Type 0} → (ℕ → S → Answer S) → ℕ → ℕ → S → Answer (List S)
unrolled f zero at s = got [] at
unrolled f (suc n) at s = then (f at s) λ t m. then (unrolled f n m t) λ ts k. got (t ∷ ts) k

-- what was read, in short: folded from t by g
abbrev pub tally : {S T : Type 0} → (T → S → T) → T → Answer (List S) → Answer T
tally g t r = then r λ ss n. got (fold g t ss) n

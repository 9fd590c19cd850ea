-- The spaces of a repetition, as they stand in a file.
use Rattle.std.specs.Prelude.{ℕ, zero, suc, List, [], ◌∷◌, pos}
use Rattle.tokens.specs.Answers.{Answer, got, then}
use Rattle.tokens.specs.Chains.{unsigned}
use Rattle.tokens.specs.Deltas.{g_delta}
use Rattle.bounds.specs.declared.point.Point.{Point}
use Rattle.bounds.specs.Points.{point}
use Rattle.repetitions.specs.declared.space.Axis.{Axis}
use Rattle.repetitions.specs.declared.space.Axis.TheVariants.{Across, Up, Both}

-- an unsigned integer along x, one along y, and a displacement
abbrev pub across_at : List ℕ → ℕ → Answer Point
across_at file at = then (unsigned file at) λ s n. got (point (pos s) (pos 0)) n

abbrev pub up_at : List ℕ → ℕ → Answer Point
up_at file at = then (unsigned file at) λ s n. got (point (pos 0) (pos s)) n

abbrev pub both_at : List ℕ → ℕ → Answer Point
both_at file at = then (g_delta file at) λ d n. got (point d.0 d.1) n

-- the space at the place `at`
unfoldable pub space_at : Axis → List ℕ → ℕ → Answer Point
space_at Across file at = across_at file at
space_at Up file at = up_at file at
space_at Both file at = both_at file at

-- so many things, one after the other
unfoldable pub series : {A : Type 0} → (List ℕ → ℕ → Answer A) → ℕ → List ℕ → ℕ → Answer (List A)
series reader zero file at = got [] at
series reader (suc k) file at = then (reader file at) λ v n. then (series reader k file n) λ vs m. got (v ∷ vs) m

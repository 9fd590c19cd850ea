-- What a displacement and a step of a walk make: progress, and sizes in bounds.
use Rattle.std.proofs.Common.{◌≡◌, ℕ, suc, ◌*◌, ◌≤◌, Bool, true, false, List, ℤ, ◌+ℤ◌, nat_abs, refl, arith}
use Rattle.std.proofs.lemmas.Int.{ints}
use Rattle.tokens.specs.Answers.{Answer}
use Rattle.tokens.specs.Chains.{largest}
use Rattle.tokens.specs.Deltas.{largest_size, two_delta, three_delta, g_delta}
use Rattle.tokens.specs.Laws.{DeltaMade}
use Rattle.tokens.specs.Readers.{Made}
use Rattle.tokens.proofs.Deltas.{signed_made, two_delta_made, three_delta_made, g_delta_made}
use Rattle.tokens.proofs.Mades.{made_then, made_cond, made_got, made_fault}
use Rattle.bounds.specs.declared.point.Point.{Point}
use Rattle.bounds.specs.Points.{far_reach, sum, Near, within}
use Rattle.bounds.proofs.Fitting.{within_near}
use Rattle.point_lists.specs.declared.kind.ListKind.{ListKind}
use Rattle.point_lists.specs.declared.kind.ListKind.TheVariants.{AcrossFirst, UpFirst, Manhattan, Octangular, General, Changing}
use Rattle.point_lists.specs.declared.walk.Walk.{Walk}
use Rattle.point_lists.specs.Kinds.{is_zero}
use Rattle.point_lists.specs.Walks.{one_way, pair_of, alternate, paired, displacement, vector_by, moved, advanced, start, Steady}

-- a displacement along one axis is as near as its size
one_way_near : (across : Bool) (z : ℤ) → nat_abs z ≤ largest_size → Near largest (one_way across z)
one_way_near true z h = record { x = omega arith; y = omega arith }
one_way_near false z h = record { x = omega arith; y = omega arith }

-- a displacement of two components
paired_made : (file : List ℕ) (at : ℕ) (reader : List ℕ → ℕ → Answer (ℤ × ℤ)) → DeltaMade reader → Made file (suc at) (paired (reader file at)) (λ d n. Near largest d)
paired_made file at reader m =
    made_then _ (m file at) (λ z n l h s. made_got (pair_of z) n (omega arith) h (record { x = omega (arith, s.0); y = omega (arith, s.1) }))

-- a displacement along one axis
alternate_made : (across : Bool) (file : List ℕ) (at : ℕ) → Made file (suc at) (alternate across file at) (λ d n. Near largest d)
alternate_made across file at =
    made_then _ (signed_made file at)
    (λ z n l h s. made_cond (is_zero z) (λ e. made_fault _) (λ e. made_got (one_way across z) n (omega arith) h (one_way_near across z s)))

-- a displacement goes on, and is at most L in size
pub displacement_made : (k : ListKind) (across : Bool) (file : List ℕ) (at : ℕ) → Made file (suc at) (displacement k across file at) (λ d n. Near largest d)
displacement_made AcrossFirst across file at = alternate_made across file at
displacement_made UpFirst across file at = alternate_made across file at
displacement_made Manhattan across file at = paired_made file at two_delta two_delta_made
displacement_made Octangular across file at = paired_made file at three_delta three_delta_made
displacement_made General across file at = paired_made file at g_delta g_delta_made
displacement_made Changing across file at = paired_made file at g_delta g_delta_made

-- between two offsets in far reach
between : (a v : ℤ) → nat_abs a ≤ far_reach → nat_abs (a +ℤ v) ≤ far_reach → nat_abs v ≤ 2 * far_reach
between a v h k = omega (arith, ints)

moved_steady : (w : Walk) (d : Point) → Steady w → Near far_reach (moved w d).at → Steady (moved w d)
unfolding moved
moved_steady w d s n =
    record {
      at = n;
      vector = record {
        x = between w.at.x (vector_by w.kind w.vector d).x s.at.x n.x;
        y = between w.at.y (vector_by w.kind w.vector d).y s.at.y n.y;
      };
    }

-- what a step of a walk does: it stays steady, and the vertex is that displacement from the last
pub record Stepped (w v : Walk) : Type 0 where
  pub steady : Steady v
  pub from : v.at ≡ sum w.at v.vector

moved-stepped : (w : Walk) (d : Point) → Steady w → Near far_reach (moved w d).at → Stepped w (moved w d)
unfolding moved
moved-stepped w d s n = record { steady = moved_steady w d s n; from = refl }

pub advanced_made : (file : List ℕ) (at : ℕ) (w : Walk) → Steady w → Made file (suc at) (advanced file at w) (λ v n. Stepped w v)
unfolding advanced
advanced_made file at w s =
    made_then _ (displacement_made w.kind w.across file at)
    (λ d n l h near. made_cond (within far_reach (moved w d).at) (λ e. made_got (moved w d) n (omega arith) h (moved-stepped w d s (within_near far_reach (moved w d).at e))) (λ e. made_fault _))

-- a walk begins steady
pub start_steady : (k : ListKind) → Steady (start k)
start_steady k = record { at = record { x = omega arith; y = omega arith }; vector = record { x = omega arith; y = omega arith } }

-- A list depends only on the bytes that it takes.
use Rattle.std.proofs.Common.{ℕ, zero, suc, Bool, cond, List, [], Some, None, Option}
use Rattle.tokens.specs.declared.fault.FaultKind.TheVariants.{BadList}
use Rattle.tokens.specs.Answers.{Answer, got, fault, then}
use Rattle.tokens.specs.Chains.{unsigned}
use Rattle.tokens.specs.Readers.{Local}
use Rattle.tokens.proofs.Locals.{local_then, local_cond, local_got, local_fault, unsigned_local, signed_local, two_delta_local, three_delta_local, g_delta_local}
use Rattle.bounds.specs.Points.{far_reach, origin, within, path}
use Rattle.point_lists.specs.declared.kind.ListKind.{ListKind}
use Rattle.point_lists.specs.declared.kind.ListKind.TheVariants.{AcrossFirst, UpFirst, Manhattan, Octangular, General, Changing}
use Rattle.point_lists.specs.declared.read.Head.{Head}
use Rattle.point_lists.specs.declared.walk.Walk.{Walk}
use Rattle.point_lists.specs.Kinds.{is_zero, list_kind, good_count, closes}
use Rattle.point_lists.specs.Walks.{displacement, moved, advanced, start}
use Rattle.point_lists.specs.Rolls.{unrolled}
use Rattle.point_lists.specs.Lists.{last_of, vectors, kind_or, list_head, point_list}
use Rattle.point_lists.specs.Laws.{ListLocal}

displacement_local : (k : ListKind) (across : Bool) → Local (λ file at. displacement k across file at)
displacement_local AcrossFirst across = local_then _ _ signed_local (λ at z. local_cond (is_zero z) _ _ (local_fault _) (local_got _))
displacement_local UpFirst across = local_then _ _ signed_local (λ at z. local_cond (is_zero z) _ _ (local_fault _) (local_got _))
displacement_local Manhattan across = local_then _ _ two_delta_local (λ at d. local_got _)
displacement_local Octangular across = local_then _ _ three_delta_local (λ at d. local_got _)
displacement_local General across = local_then _ _ g_delta_local (λ at d. local_got _)
displacement_local Changing across = local_then _ _ g_delta_local (λ at d. local_got _)

advanced_local : (w : Walk) → Local (λ file at. advanced file at w)
unfolding advanced
advanced_local w = local_then _ _ (displacement_local w.kind w.across) (λ at d. local_cond (within far_reach (moved w d).at) _ _ (local_got _) (local_fault _))

-- steps one after the other
unrolled_local : {S : Type 0} (f : List ℕ → ℕ → S → Answer S) → ((s : S) → Local (λ file at. f file at s)) → (n : ℕ) (s : S) → Local (λ file at. unrolled (f file) n at s)
unfolding unrolled
unrolled_local f h zero s = local_got []
unrolled_local f h (suc n) s = local_then _ _ (h s) (λ at t. local_then _ _ (unrolled_local f h n t) (λ at ts. local_got _))

head_local : (closed : Bool) → Local (λ file at. list_head file at closed)
unfolding list_head
head_local closed = local_then _ _ unsigned_local (λ at code. by_kind at (list_kind code))
  where
    by_kind : (at : ℕ) (o : Option ListKind) → Local {A = Head} (λ file n. kind_or o at λ k. then (unsigned file n) λ count m. cond (good_count k closed count) (got (record { kind = k; count = count }) m) (fault BadList n))
    by_kind at (Some k) = local_then _ _ unsigned_local (λ n count. local_cond (good_count k closed count) _ _ (local_got _) (local_fault _))
    by_kind at None = local_fault _

pub list_local : ListLocal
unfolding point_list
list_local closed =
    local_then _ _ (head_local closed)
    (λ at h. local_then _ _ (unrolled_local advanced advanced_local h.count (start h.kind))
    (λ n ws. local_cond (closes h.kind closed (last_of origin (path origin (vectors ws)))) _ _ (local_got _) (local_fault _)))

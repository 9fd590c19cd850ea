-- The beginning of a list.
use Rattle.std.proofs.Common.{◌≡◌, ℕ, suc, ◌≤◌, Bool, true, leb, List, Some, None, Ok, Err, Option, Result, ok_or, refl, ap, ◌∙◌, arith}
use Rattle.std.specs.Result.{result_ok}
use Rattle.std.proofs.lemmas.Bool.{and_parts, leb-true}
use Rattle.tokens.specs.declared.fault.FaultKind.TheVariants.{BadType}
use Rattle.tokens.specs.Answers.{Answer, fault}
use Rattle.tokens.specs.Chains.{largest}
use Rattle.tokens.specs.Readers.{Made}
use Rattle.tokens.proofs.ChainLaws.{unsigned_made}
use Rattle.tokens.proofs.Mades.{made_then, made_cond, made_got, made_fault, made_weaken}
use Rattle.point_lists.specs.declared.kind.ListKind.{ListKind}
use Rattle.point_lists.specs.declared.kind.ListKind.TheVariants.{AcrossFirst, UpFirst, Manhattan, Octangular, General, Changing}
use Rattle.point_lists.specs.declared.kind.UnknownListType.{UnknownListType}
use Rattle.point_lists.specs.declared.read.Head.{Head}
use Rattle.point_lists.specs.Kinds.{list_kind, decoded, good_count}
use Rattle.point_lists.specs.Lists.{kind_or, list_head}

result_ok-ok_or : {A E : Type 0} (o : Option A) (e : E) → result_ok (ok_or o e) ≡ o
result_ok-ok_or None e = refl
result_ok-ok_or (Some x) e = refl

-- what the type decodes to says how the beginning goes on
kind_is : {A : Type 0} {r : Answer A} (d : Result ListKind UnknownListType) (code at : ℕ) (f : ListKind → Answer A) → d ≡ decoded code → r ≡ kind_or (result_ok d) at f → r ≡ kind_or (list_kind code) at f
kind_is d code at f e h = h ∙ ap (λ x. kind_or x at f) (ap result_ok e ∙ result_ok-ok_or (list_kind code) _)

-- the type is one of a list
pub kind_there : {A : Type 0} {k : ListKind} {r : Answer A} (code at : ℕ) (f : ListKind → Answer A) → Ok k ≡ decoded code → r ≡ f k → r ≡ kind_or (list_kind code) at f
kind_there code at f e h = kind_is _ code at f e h

-- it is not
pub kind_missing : {A : Type 0} {u : UnknownListType} {r : Answer A} (code at : ℕ) (f : ListKind → Answer A) → Err u ≡ decoded code → r ≡ fault BadType at → r ≡ kind_or (list_kind code) at f
kind_missing code at f e h = kind_is _ code at f e h

-- what holds of a list's beginning at each type holds of it
made_kind : {A : Type 0} {file : List ℕ} {least : ℕ} {P : A → ℕ → Type 0} (o : Option ListKind) (at : ℕ) {f : ListKind → Answer A} → ((k : ListKind) → Made file least (f k) P) → Made file least (kind_or o at f) P
made_kind (Some k) at p = p k
made_kind None at p = made_fault _

-- what holds of the beginning of a list
pub record Begun (closed : Bool) (h : Head) : Type 0 where
  pub few : h.count ≤ largest
  pub good : good_count h.kind closed h.count ≡ true

-- the beginning of a list goes on, and its count is one that its type may have
pub head_made : (file : List ℕ) (at : ℕ) (closed : Bool) → Made file (suc at) (list_head file at closed) (λ h n. Begun closed h)
unfolding list_head
head_made file at closed =
    made_then _ (unsigned_made file at)
    (λ code n l i b. made_kind (list_kind code) at
    (λ k. made_weaken {least = suc n} (omega arith) (λ v m h p. p)
    (made_then _ (unsigned_made file n)
    (λ count m l j c. made_cond (good_count k closed count) (λ e. made_got (record { kind = k; count = count }) m (omega arith) j (record { few = c; good = e })) (λ e. made_fault _)))))

-- a polygon has two displacements at least
pub good_many : (k : ListKind) (n : ℕ) → good_count k true n ≡ true → 2 ≤ n
good_many AcrossFirst n e = leb-true 2 n (and_parts (leb 2 n) _ e).0
good_many UpFirst n e = leb-true 2 n (and_parts (leb 2 n) _ e).0
good_many Manhattan n e = leb-true 2 n e
good_many Octangular n e = leb-true 2 n e
good_many General n e = leb-true 2 n e
good_many Changing n e = leb-true 2 n e

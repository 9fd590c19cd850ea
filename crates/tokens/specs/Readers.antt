-- Three things that are said of readers: what they make, what they read again, and that they read nothing else.
use Rattle.std.specs.Prelude.{◌≡◌, ℕ, ◌+◌, ◌<◌, ◌≤◌, List, ◌++◌, length, drop, Ok}
use Rattle.std.specs.List.{between}
use Rattle.tokens.specs.declared.fault.Read.{Read}
use Rattle.tokens.specs.Answers.{Answer}

-- an answer that is a value stops in the file, at the place `least` or after it, and P holds of its value and of the place after that
pub record Made {A : Type 0} (file : List ℕ) (least : ℕ) (r : Answer A) (P : A → ℕ → Type 0) : Type 0 where
  pub on : (x : Read A) → Ok x ≡ r → (least ≤ x.next) × (x.next ≤ length file) × P x.value x.next

-- a reader at the place `at` went on, and stopped in the file
abbrev pub GoesOn : {A : Type 0} → List ℕ → ℕ → Read A → Type 0
GoesOn file at x = (at < x.next) × (x.next ≤ length file)

-- where the bytes bs stand at the place `at`, the answer is the value v and the place after them
pub record Back {A : Type 0} (file : List ℕ) (at : ℕ) (bs : List ℕ) (r : Answer A) (v : A) : Type 0 where
  pub again : (rest : List ℕ) → drop at file ≡ bs ++ rest → Ok (record { value = v; next = at + length bs }) ≡ r

-- a reader goes on, and reads the same in another file that has the same bytes from its place to where it stopped
pub record Local {A : Type 0} (reader : List ℕ → ℕ → Answer A) : Type 0 where
  pub onward : (file : List ℕ) (at : ℕ) (x : Read A) → Ok x ≡ reader file at → at ≤ x.next
  pub same : (file other : List ℕ) (at : ℕ) (x : Read A) → Ok x ≡ reader file at → x.next ≤ length other → between at x.next file ≡ between at x.next other → Ok x ≡ reader other at

-- What a value that was read tells of the steps that led to it.
use Rattle.std.proofs.Common.{◌≡◌, ℕ, Ok, Err, refl}
use Rattle.tokens.specs.declared.fault.Read.{Read}
use Rattle.tokens.specs.Answers.{Answer, then}
use Rattle.tokens.proofs.Chaining.{not_fault}

-- a value comes of a value of the first reader, and then of the second
pub parted : {A B : Type 0} (a : Answer A) (f : A → ℕ → Answer B) (y : Read B) → Ok y ≡ then a f → (x : Read A) × (Ok x ≡ a) × (Ok y ≡ f x.value x.next)
parted (Ok x) f y e = (x, refl, e)
parted (Err d) f y e = not_fault e

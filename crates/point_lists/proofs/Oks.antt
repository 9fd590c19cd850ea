-- What `ok()` of an answer tells of the answer.
use Rattle.std.proofs.Common.{◌≡◌, Some, None, Ok, Err, Result, refl}
use Rattle.std.specs.Result.{result_ok}

pub ok_some : {A E : Type 0} {x : A} (r : Result A E) → Some x ≡ result_ok r → Ok x ≡ r
ok_some (Ok y) e = cc
ok_some (Err d) e = cc

pub ok_none : {A E : Type 0} (r : Result A E) → None ≡ result_ok r → (d : E) × (Err d ≡ r)
ok_none (Ok y) e = cc
ok_none (Err d) e = (d, refl)

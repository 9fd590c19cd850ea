-- Steps that may be refused: what a step tells, what it leaves, and what follows it.
use Rattle.std.specs.Prelude.{Ok, Err, Result}

module _ {S E : Type 0} where
  -- what the caller of a step is told
  abbrev pub told : Result S E → Result (Unit {0}) E
  told (Ok s) = Ok tt
  told (Err e) = Err e

  -- the state that a step leaves: a refused one leaves the old state
  abbrev pub left_by : S → Result S E → S
  left_by old (Ok new) = new
  left_by old (Err e) = old

  -- what follows a step that came well
  abbrev pub on_ok : {T : Type 0} → Result S E → (S → Result T E) → Result T E
  on_ok (Ok s) f = f s
  on_ok (Err e) f = Err e

-- What each call of a walk means for the records that are left.
use Rattle.std.proofs.Common.{◌≡◌, ℕ, ◌<◌, ◌≤◌, List, length, Some, None, Ok, Err, Option, Result, sym, refl, ap, ◌∙◌, subst}
use Rattle.steps.specs.declared.fault.Fault.{Fault}
use Rattle.steps.specs.declared.state.Position.{Position}
use Rattle.steps.specs.declared.state.RecordAt.{RecordAt}
use Rattle.steps.specs.declared.state.Step.{Step}
use Rattle.runs.specs.Runs.{more, done, broken, turn, given_by, landing, follow, walked}
use Rattle.runs.proofs.Progress.{turn_lands, walked_on}

-- the walk went over the record r, from the position p to the position q
pub record Went (file : List ℕ) (p q : Position) (r : RecordAt) : Type 0 where
  pub on : walked file p ≡ more r (walked file q)
  pub up : p.at < q.at
  pub inside : q.at ≤ length file

-- what was left at the position p, of which a call gave this and left the walk at q
abbrev Left : List ℕ → Position → Position → Result (Option RecordAt) Fault → Type 0
Left file p q (Ok (Some r)) = Went file p q r
Left file p q (Ok None) = walked file p ≡ done
Left file p q (Err x) = walked file p ≡ broken x

-- each turn tells it
left_by : (file : List ℕ) (p : Position) (t : Result (Option Step) Fault) → t ≡ turn file p → Left file p (landing p t) (given_by t)
left_by file p (Ok (Some s)) g =
    let l = turn_lands file p s g in record { on = walked_on file p ∙ ap (λ t. follow t (walked file)) (sym g); up = l.0; inside = l.1 }
left_by file p (Ok None) g = walked_on file p ∙ ap (λ t. follow t (walked file)) (sym g)
left_by file p (Err x) g = walked_on file p ∙ ap (λ t. follow t (walked file)) (sym g)

-- so does what a call gave by the turn in the file that it was lent
left_of : (file lent : List ℕ) (p : Position) (o : Result (Option RecordAt) Fault) → lent ≡ file → o ≡ given_by (turn lent p) → Left file p (landing p (turn lent p)) o
left_of file lent p o same e = rw (e, same) (left_by file p (turn file p) refl)

-- a call that gave a record
pub went : (file lent : List ℕ) (p q : Position) (r : RecordAt) (o : Option RecordAt) → lent ≡ file → o ≡ Some r → Ok o ≡ given_by (turn lent p) → q ≡ landing p (turn lent p) → Went file p q r
went file lent p q r o same is e moved = rw moved (left_of file lent p (Ok (Some r)) same (ap Ok (sym is) ∙ e))

-- a call that gave none
pub stopped : (file lent : List ℕ) (p : Position) (o : Option RecordAt) → lent ≡ file → o ≡ None → Ok o ≡ given_by (turn lent p) → walked file p ≡ done
stopped file lent p o same is e = left_of file lent p (Ok None) same (ap Ok (sym is) ∙ e)

-- a call that met a fault
pub broke : (file lent : List ℕ) (p : Position) (x : Fault) → lent ≡ file → Err x ≡ given_by (turn lent p) → walked file p ≡ broken x
broke file lent p x same e = left_of file lent p (Err x) same e

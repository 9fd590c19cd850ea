-- One step over a file.
use Rattle.std.specs.Prelude.{ℕ, List, Ok, Err, Result}
use Rattle.tokens.specs.declared.fault.FaultKind.{FaultKind}
use Rattle.tokens.specs.declared.fault.Read.{Read}
use Rattle.tokens.specs.declared.fault.TokenFault.{TokenFault}
use Rattle.tokens.specs.Answers.{Answer, fault}
use Rattle.tokens.specs.Chains.{unsigned}
use Rattle.tokens.specs.Outcomes.{on_ok}
use Rattle.steps.specs.declared.dispatch.Action.{Action}
use Rattle.steps.specs.declared.fault.Fault.{Fault}
use Rattle.steps.specs.declared.state.Found.{Found}
use Rattle.steps.specs.declared.state.Position.{Position}
use Rattle.steps.specs.declared.state.Step.{Step}
use Rattle.steps.specs.Contents.{performed}
use Rattle.steps.specs.Standings.{allowed}

-- a fault of a token becomes one of the record with this ID whose first byte is at `first`
abbrev pub enclosed : {A : Type 0} → (first id : ℕ) → Result A TokenFault → Result A Fault
enclosed first id (Ok a) = Ok a
enclosed first id (Err e) = Err (record { kind = e.kind; place = e.place; first = first; id = id })

-- what is allowed is read, and what is not is a fault at the record's first byte
abbrev pub if_allowed : Result Action FaultKind → (first : ℕ) → (Action → Answer Found) → Answer Found
if_allowed (Ok a) first f = f a
if_allowed (Err k) first f = fault k first

-- the record with this ID at a position, whose fields stand from the place n on
abbrev pub body : List ℕ → Position → (id n : ℕ) → Answer Found
body file p id n = if_allowed (allowed p.context.state id) p.at (performed file n p.at p.context id)

-- a record that was found, and the position after it
abbrev pub step_of : (place id : ℕ) → Read Found → Step
step_of place id r =
    record {
      found = record { place = place; id = id; content = r.value.content };
      after = record { at = r.next; context = r.value.context };
    }

-- the ID, then the record; an ID at fault counts as 0
abbrev pub stepped : List ℕ → Position → Result Step Fault
stepped file p =
    on_ok (enclosed p.at 0 (unsigned file p.at)) λ id.
    on_ok (enclosed p.at id.value (body file p id.value id.next)) λ r. Ok (step_of p.at id.value r)

use Rattle.std.proofs.Common.{true, Some, None, Ok, Err, refl, ◌∙◌}
use Rattle.runs.specs.Walks.{left}
use Rattle.runs.proofs.Turns.{first_progress, turned, turned_first}
use Rattle.runs.proofs.walk.WalkIterator.next.Goals as goal

pub returns-in-Ok-Some : goal.returns-in-Ok-Some
returns-in-Ok-Some c =
    let next = c.in-Ok-Some.ensures in
    let item = Some (Ok c.in-Ok-Some.found) in
    let t = turned c.args.self.now c.next.new.self (Ok (Some c.in-Ok-Some.found)) c.if-self.false (rw c.in-Ok-Some.field-0-is at next.answer) next.moved next.same (next.keeps ∙ c.if-self.false) in
    let first = turned_first c.args.self.now c.next.new.self item t in
    record { steps = first; goes = first_progress left c.args.self.now _ item first; answer = t.answer; moved = t.moved; waits = t.waits; stays = t.stays }

pub returns-in-Ok-None : goal.returns-in-Ok-None
returns-in-Ok-None c =
    let next = c.in-Ok-None.ensures in
    let t = turned c.args.self.now c.next.new.self (Ok None) c.if-self.false (rw c.in-Ok-None.field-0-is at next.answer) next.moved next.same (next.keeps ∙ c.if-self.false) in
    let first = turned_first c.args.self.now c.next.new.self None t in
    record { steps = first; goes = first_progress left c.args.self.now _ None first; answer = t.answer; moved = t.moved; waits = t.waits; stays = t.stays }

pub returns-in-Err : goal.returns-in-Err
returns-in-Err c =
    let next = c.in-Err.ensures in
    let item = Some (Err c.in-Err.fault) in
    let marked = record c.next.new.self { faulted = true } in
    let t = turned c.args.self.now marked (Err c.in-Err.fault) c.if-self.false next.answer next.moved next.same refl in
    let first = turned_first c.args.self.now marked item t in
    record { steps = first; goes = first_progress left c.args.self.now _ item first; answer = t.answer; moved = t.moved; waits = t.waits; stays = t.stays }

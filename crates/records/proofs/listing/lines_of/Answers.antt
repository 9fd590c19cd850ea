use Rattle.std.proofs.Common.{◌≡◌, Some, None, Ok, vec_items, sym, refl, ap, ◌∙◌, arith, rules}
use Rattle.runs.specs.Runs.{walked}
use Rattle.runs.proofs.Calls.{Went, went, stopped, broke}
use Rattle.records.proofs.Listings.{line_more, line_last, no_line}
use Rattle.records.proofs.listing.lines_of.Goals as goal

moved : (c : goal.In_ok-append_line-in-Ok-Some) → Went c.args.file.now c.loop-found.walk.position c.next.new.self.position c.in-Ok-Some.found
moved c =
    let came : c.next.result ≡ Ok (Some c.in-Ok-Some.found) = search rules in
    went _ c.loop-found.walk.file.now c.loop-found.walk.position _ _ _ c.loop-found.invariant.1 refl (sym came ∙ c.next.ensures.answer) c.next.ensures.moved

pub loop-found-smaller : goal.loop-found-smaller
loop-found-smaller c = let w = moved c in omega (arith, w.up, w.inside)

pub loop-found-preserved : goal.loop-found-preserved
loop-found-preserved c = (
  line_more c.args.file.now _ (vec_items c.loop-found.out) _ c.in-Ok-Some.found _ (walked c.args.file.now c.next.new.self.position)
      c.in_ok-append_line-in-Ok-Some.ensures.grows (moved c).on c.loop-found.invariant.0,
  ap (λ r. r.now) c.next.ensures.same ∙ c.loop-found.invariant.1,
)

pub returns-in-Ok-None : goal.returns-in-Ok-None
returns-in-Ok-None c =
    let came : c.next.result ≡ Ok None = search rules in
    record {
      lines = no_line c.args.file.now _ (vec_items c.loop-found.out) _
          (stopped _ c.loop-found.walk.file.now c.loop-found.walk.position _ c.loop-found.invariant.1 refl (sym came ∙ c.next.ensures.answer)) c.loop-found.invariant.0;
    }

pub returns-in-Err-next : goal.returns-in-Err-next
returns-in-Err-next c =
    record {
      lines = line_last c.args.file.now _ (vec_items c.loop-found.out) _ c.in-Err-next.fault _ c.in_ok-append_fault-in-Err-next.ensures.grows
          (broke _ c.loop-found.walk.file.now c.loop-found.walk.position _ c.loop-found.invariant.1 c.in-Err-next.ensures.answer) c.loop-found.invariant.0;
    }

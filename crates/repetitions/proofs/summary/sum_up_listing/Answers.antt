use Rattle.std.proofs.Common.{◌≡◌, ℕ, ◌+◌, Some, None, Ok, Err, Option, ok_or, ◌∙◌}
use Rattle.tokens.specs.declared.fault.FaultKind.TheVariants.{Reach}
use Rattle.tokens.specs.declared.fault.TokenFault.{TokenFault}
use Rattle.tokens.specs.Answers.{got}
use Rattle.tokens.proofs.Chaining.{going, ending, exited}
use Rattle.bounds.specs.declared.bounds.Bounds.{Bounds}
use Rattle.repetitions.proofs.Listings.{listed-in_short}
use Rattle.repetitions.proofs.Reaches.{summed}
use Rattle.repetitions.proofs.summary.sum_up_listing.Goals as goal

-- the box is there, or a copy is out of reach
module _ (at copies n : ℕ) where
  boxed : (o : Option Bounds) (b : Bounds) → Ok b ≡ ok_or {E = TokenFault} o (record { kind = Reach; place = at }) → got (record { copies = copies; bounds = b }) n ≡ summed at copies o n
  boxed (Some b) c e = cc
  boxed None c e = cc

  unboxed : (o : Option Bounds) (d : TokenFault) → Err d ≡ ok_or o (record { kind = Reach; place = at }) → Err d ≡ summed at copies o n
  unboxed (Some b) d e = cc
  unboxed None d e = cc

pub returns-in_err-spread : goal.returns-in_err-spread
returns-in_err-spread c =
    ending _ c.in_err-spread.ensures.reads (exited _ c.from_residual.ensures.1)
    ∙ listed-in_short c.args.file.now c.args.at c.args.listing c.args.next

pub returns-in_err-bounds : goal.returns-in_err-bounds
returns-in_err-bounds c =
    let spread = c.in_ok-spread.spread in
    going _ c.in_ok-spread.ensures.reads
    (exited _ c.from_residual-in_err-bounds.ensures.1 ∙ unboxed c.args.at (c.args.listing.spaces + 1) spread.next spread.value _ c.in_err-bounds.ensures.value)
    ∙ listed-in_short c.args.file.now c.args.at c.args.listing c.args.next

pub returns : goal.returns
returns c =
    let spread = c.in_ok-spread.spread in
    going _ c.in_ok-spread.ensures.reads (boxed c.args.at (c.args.listing.spaces + 1) spread.next spread.value _ c.in_ok-bounds.ensures.value)
    ∙ listed-in_short c.args.file.now c.args.at c.args.listing c.args.next

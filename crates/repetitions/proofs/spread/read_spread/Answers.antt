use Rattle.std.proofs.Common.{sym, ◌∙◌, arith}
use Rattle.tokens.proofs.Chaining.{exited}
use Rattle.repetitions.specs.Spaces.{space_at}
use Rattle.repetitions.proofs.Series.{series_more, series_stop, series_none}
use Rattle.repetitions.proofs.Mades.{space_made, sum_near}
use Rattle.repetitions.proofs.spread.read_spread.Goals as goal

pub returns-in_err-space : goal.returns-in_err-space
returns-in_err-space c =
    record {
      reads = exited _ c.from_residual.ensures.1
          ∙ sym (series_stop (space_at c.args.listing.axis) _ c.args.file.now c.args.listing.spaces c.loop-i._i c.loop-i.place _ (omega arith) c.in_err-space.ensures.reads)
          ∙ c.loop-i.invariant.1;
    }

pub add-whole-requires : goal.add-whole-requires
add-whole-requires c =
    let h = c.loop-i.invariant.0 in
    let k = ((space_made c.args.listing.axis c.args.file.now c.loop-i.place).on _ c.in_ok-space.ensures.reads).2 in
    (record { x = omega (arith, h.x, c.requires); y = omega (arith, h.y, c.requires) }, record { x = omega (arith, k.x); y = omega (arith, k.y) })

pub loop-i-preserved : goal.loop-i-preserved
loop-i-preserved c =
    let k = ((space_made c.args.listing.axis c.args.file.now c.loop-i.place).on _ c.in_ok-space.ensures.reads).2 in
    rw (c.grow_reached-bounds.ensures, c.on_grid.ensures.stands, c.add-whole.ensures) (
      sum_near c.loop-i._i _ _ c.loop-i.invariant.0 k,
      sym (series_more (space_at c.args.listing.axis) _ c.args.file.now c.args.listing.spaces c.loop-i._i c.loop-i.place _ (omega arith) c.in_ok-space.ensures.reads)
          ∙ c.loop-i.invariant.1,
    )

pub returns : goal.returns
returns c =
    record {
      reads = sym (series_none (space_at c.args.listing.axis) _ c.args.file.now c.args.listing.spaces c.loop-i._i c.loop-i.place (omega arith)) ∙ c.loop-i.invariant.1;
    }

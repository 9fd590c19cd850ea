use Rattle.std.proofs.Common.{◌≡◌, ◌*◌, sym, ap, ◌∙◌, pow-suc, add-one, arith}
use Rattle.std.proofs.lemmas.Nat.{mul-le}
use Rattle.tokens.specs.Chains.{placed, radix}
use Rattle.tokens.proofs.Chains.{last_here, more_here, scale_small}
use Rattle.tokens.proofs.integer.read_chain.Goals as goal

pub overflow_mul-value : goal.overflow_mul-value
overflow_mul-value c = omega (arith, scale_small c.loop-k.k (omega arith), mul-le c.from.result c.loop-k.scale 127 c.loop-k.scale (omega arith) (omega arith))

pub overflow_add-value : goal.overflow_add-value
overflow_add-value c = omega (arith, scale_small c.loop-k.k (omega arith), mul-le c.from.result c.loop-k.scale 127 c.loop-k.scale (omega arith) (omega arith))

pub returns-then-byte-lt-RADIX : goal.returns-then-byte-lt-RADIX
returns-then-byte-lt-RADIX c =
    let here = c.in-Some.ensures.lookup.3 in
    let f = sym (here.1 0) in
    let e = last_here c.loop-k.value c.loop-k.scale c.loop-k.k c.args.rest.now (omega arith) c.loop-k.invariant.2 here.0 (rw (← f) at c.if-byte-lt-RADIX.true) in
    c.limited.ensures ∙ sym (ap (placed c.args.at) (rw (f, ← c.from.ensures) at e))

pub overflow_mul-scale : goal.overflow_mul-scale
overflow_mul-scale c =
    let s : c.loop-k.scale * c.from-scale.result ≡ c.loop-k.scale * radix = ap (λ n. c.loop-k.scale * n) c.from-scale.ensures in
    omega (arith, scale_small c.loop-k.k (omega arith))

pub loop-k-preserved : goal.loop-k-preserved
loop-k-preserved c =
    let here = c.in-Some.ensures.lookup.3 in
    let f = sym (here.1 0) in
    let e = more_here c.loop-k.value c.loop-k.scale c.loop-k.k c.args.rest.now (omega arith) c.loop-k.invariant.2 here.0 (rw (← f) at c.if-byte-lt-RADIX.false) in
    let s : c.loop-k.scale * c.from-scale.result ≡ c.loop-k.scale * radix = ap (λ n. c.loop-k.scale * n) c.from-scale.ensures in (
      rw (add-one, pow-suc) (s ∙ ap (λ n. n * radix) c.loop-k.invariant.0),
      omega (arith, mul-le c.from.result c.loop-k.scale 127 c.loop-k.scale (omega arith) (omega arith)),
      rw s (rw (f, ← c.from.ensures) at e),
    )

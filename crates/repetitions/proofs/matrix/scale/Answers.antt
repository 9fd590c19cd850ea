use Rattle.repetitions.proofs.Products.{mul_room, mul_back, mul_small}
use Rattle.repetitions.proofs.matrix.scale.Goals as goal

pub overflow_mul-result : goal.overflow_mul-result
overflow_mul-result c = mul_room c.args.k c.args.p.x c.requires.0 c.requires.1.x

pub overflow_mul-result-2 : goal.overflow_mul-result-2
overflow_mul-result-2 c = mul_room c.args.k c.args.p.y c.requires.0 c.requires.1.y

pub returns : goal.returns
returns c =
    let e = mul_back c.args.k c.args.p.x c.requires.0 c.requires.1.x in
    let f = mul_back c.args.k c.args.p.y c.requires.0 c.requires.1.y in
    record {
      value = cc;
      near = record { x = rw e (mul_small c.args.k c.args.p.x c.requires.0 c.requires.1.x); y = rw f (mul_small c.args.k c.args.p.y c.requires.0 c.requires.1.y) };
    }

use Rattle.std.proofs.Common.{refl, arith}
use Rattle.encoding.proofs.Laying.{laid_one}
use Rattle.encoding.proofs.put.Buffer.put_byte.Goals as goal

pub returns : goal.returns
returns c =
    let b = c.args.self.now in
    record {
      puts = record { fits = omega (arith, c.requires); memory = laid_one b.bytes.now b.at c.args.byte c.requires; next = refl; lender = refl };
    }

use Rattle.std.proofs.Common.{◌+◌, ◌-◌, length, refl, arith}
use Rattle.encoding.proofs.Laying.{part_set}
use Rattle.encoding.proofs.put.Buffer.put_bytes.Goals as goal

pub returns : goal.returns
returns c =
    let b = c.args.self.now in
    let s = c.args.bytes.now in
    record {
      puts = record {
        fits = c.requires;
        memory = rw c.copy_from_slice.ensures.after (part_set b.bytes.now b.at (b.at + length s - b.at) s c.requires (omega arith));
        next = refl;
        lender = refl;
      };
    }

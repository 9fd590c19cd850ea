use Rattle.std.proofs.Common.{◌+◌, ◌%◌, ◌^◌, [], ◌∷◌, ap, ◌∙◌}
use Rattle.checksum.proofs.Running.{added_one, taken_more}
use Rattle.checksum.proofs.sum.Checksum.add_byte.Goals as goal

pub returns : goal.returns
returns c =
    let sum =
    ap (λ n. (n + c.from.result) % 2 ^ 64) c.whole.ensures.same
    ∙ ap (λ n. (c.args.self.now.sum + n) % 2 ^ 64) c.from.ensures
    ∙ added_one c.args.self.now.sum c.args.byte in
    record { sum = sum; taken = λ past before. sum ∙ taken_more _ past (c.args.byte ∷ []) before }

use Rattle.std.proofs.Common.{◌%◌, ◌^◌, ap, ◌∙◌}
use Rattle.checksum.proofs.Running.{cut_added}
use Rattle.checksum.proofs.sum.Checksum.value.Goals as goal

pub returns : goal.returns
returns c =
    let cut = ap (λ s. s % 2 ^ 32) c.whole.ensures.same in
    record { cut = cut; taken = λ past before. cut ∙ ap (λ s. s % 2 ^ 32) before ∙ cut_added past }

use Rattle.std.proofs.Common.{◌%◌, ◌^◌, ap, ◌∙◌}
use Rattle.checksum.specs.Sums.{checksum_of, added}
use Rattle.checksum.proofs.Running.{cut_added, checksum_joined}
use Rattle.checksum.proofs.sum.checksum32.Goals as goal

pub returns : goal.returns
returns c =
    let all = c.add_slice.ensures.sum ∙ ap (λ s. added s c.args.bytes.now) c.new-checksum.ensures.zero in
    let value = c.value.ensures.cut ∙ ap (λ s. s % 2 ^ 32) all ∙ cut_added c.args.bytes.now in
    record { value = value; parts = λ front back e. value ∙ ap checksum_of e ∙ checksum_joined front back }

use Rattle.std.proofs.Common.{◌+◌, min, length, sym, ap, ◌∙◌, length-append}
use Rattle.tokens.specs.Encodings.{shortest}
use Rattle.encoding.proofs.size.string_size.Goals as goal

pub returns : goal.returns
returns c =
    let t = c.args.bytes.now in
    record {
      bytes = c.saturating_add.ensures
          ∙ ap (λ n. min (n + length t) 18446744073709551615) c.unsigned_size.ensures.bytes
          ∙ ap (λ n. min n 18446744073709551615) (sym (length-append (shortest (length t)) t));
    }

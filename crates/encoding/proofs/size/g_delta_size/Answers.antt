use Rattle.std.proofs.Common.{◌+◌, ◌*◌, length, ap, ◌∙◌, arith, length-append}
use Rattle.tokens.specs.Encodings.{shortest, code_of, signed_bytes}
use Rattle.encoding.proofs.Signs.{same_sign, first_code}
use Rattle.encoding.proofs.size.g_delta_size.Goals as goal

pub returns : goal.returns
returns c =
    let z = c.args.delta in
    let code = first_code z c.code_of.result c.requires c.code_of.ensures.code in
    let first = c.unsigned_size.ensures.bytes ∙ ap (λ k. length (shortest (2 * k + 1))) code in
    let second = c.signed_size.ensures.bytes ∙ ap (λ y. length (signed_bytes y)) (same_sign z.1 c.requires.1) in
    record {
      bytes = omega (arith, first, second, length-append (shortest (2 * code_of z.0 + 1)) (signed_bytes z.1));
      few = (
        omega (arith, c.unsigned_size.ensures.few.0, c.signed_size.ensures.few.0),
        omega (arith, c.unsigned_size.ensures.few.2 (omega (arith, code, c.requires.0)), c.signed_size.ensures.few.1),
      );
    }

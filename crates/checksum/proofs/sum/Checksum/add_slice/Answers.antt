use Rattle.std.proofs.Common.{◌≡◌, [], ◌∷◌, fold, sym, ap, ◌∙◌, arith, rules}
use Rattle.checksum.specs.Sums.{added}
use Rattle.checksum.proofs.Running.{added_bytewise, added_uncut, sum_small, taken_more}
use Rattle.checksum.proofs.sum.Checksum.add_slice.Goals as goal

pub returns : goal.returns
returns c =
    let s = c.args.self.now.sum in
    let bytewise : c.fold-self.result ≡ fold (λ s b. added s (b ∷ [])) s c.args.bytes.now = search rules in
    let sum = bytewise ∙ sym (added_bytewise s c.args.bytes.now (omega (arith, c.whole.ensures.same, c.whole.type_inv))) in
    record {
      sum = sum;
      taken = λ past before. sum ∙ taken_more _ past c.args.bytes.now before;
      bytewise = bytewise;
      uncut = λ zero short.
          let small = sum_small c.args.bytes.now c.type_inv.bytes in
          let whole = sum ∙ ap (λ n. added n c.args.bytes.now) zero ∙ added_uncut c.args.bytes.now (omega (arith, small)) in
          (whole, omega (arith, whole, small));
    }

use Rattle.tokens.proofs.Mades.{made_by}
use Rattle.point_lists.proofs.Shapes.{summarised_made}
use Rattle.point_lists.proofs.read.read_list.Goals as goal

pub returns : goal.returns
returns c =
    record {
      reads = c.summarise.ensures;
      within = made_by _ c.summarise.ensures (summarised_made c.args.file.now c.args.at c.args.closed) (λ x l h p. (l, h));
    }

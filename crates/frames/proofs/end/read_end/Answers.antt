use Rattle.std.proofs.Common.{◌≡◌, rules}
use Rattle.frames.specs.Ends.{end}
use Rattle.frames.proofs.Ends.{end-within}
use Rattle.frames.proofs.end.read_end.Goals as goal

pub returns-clause-within : goal.returns-clause-within
unfolding end
returns-clause-within c =
    let reads : c.finish.result ≡ end c.args.file.now c.args.at c.args.first c.args.late = search rules in
    end-within c.args.file.now c.args.at c.args.first c.args.late _ reads

use Rattle.std.proofs.Common.{◌≡◌, Ok, rules}
use Rattle.frames.specs.Starts.{start}
use Rattle.frames.proofs.Starts.{start-within}
use Rattle.frames.proofs.start.read_start.Goals as goal

pub returns-clause-within : goal.returns-clause-within
unfolding start
returns-clause-within c =
    let reads : Ok c.with.result ≡ start c.args.file.now c.args.at = search rules in
    start-within c.args.file.now c.args.at _ reads

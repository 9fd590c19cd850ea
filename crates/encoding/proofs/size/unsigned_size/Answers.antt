use Rattle.std.proofs.Common.{◌≡◌, length, arith, rules}
use Rattle.tokens.specs.Encodings.{shortest}
use Rattle.tokens.proofs.Encodings.{shortest_sizes}
use Rattle.encoding.proofs.Shortest.{log_length, zero_length}
use Rattle.encoding.proofs.size.unsigned_size.Goals as goal

pub returns : goal.returns
returns c =
    let bytes : c.map_or.result ≡ length (shortest c.args.n) = search (rules, log_length, zero_length) in
    let sizes = shortest_sizes c.args.n in
    record { bytes = bytes; few = (omega (arith, bytes, sizes.0), omega (arith, bytes, sizes.1), λ h. omega (arith, bytes, sizes.2 h)) }

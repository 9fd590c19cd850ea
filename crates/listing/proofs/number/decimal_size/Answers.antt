use Rattle.std.proofs.Common.{rules}
use Rattle.listing.proofs.Decimals.{log_length, one_length}
use Rattle.listing.proofs.number.decimal_size.Goals as goal

pub returns-clause-digits : goal.returns-clause-digits
returns-clause-digits c = search (rules, log_length, one_length)

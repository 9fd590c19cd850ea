use Rattle.items.proofs.Orders.{in_sequence, beginning, whole}
use Rattle.items.proofs.laws.laws_of_sequences.Goals as goal

pub returns : goal.returns
returns c = record { order = in_sequence; beginning = beginning; whole = whole }

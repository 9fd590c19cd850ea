use Rattle.tokens.proofs.ChainLaws.{reads_chains, chains_are_read, cuts_exactly, wide_exactly, no_other_answer}
use Rattle.tokens.proofs.laws.laws_of_chains.Goals as goal

pub returns : goal.returns
returns c = record { sound = reads_chains; complete = chains_are_read; cut = cuts_exactly; wide = wide_exactly; only = no_other_answer }

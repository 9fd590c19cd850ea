use Rattle.names.proofs.Fields.{name_made, name_local, name_back}
use Rattle.names.proofs.laws.laws_of_name_records.Goals as goal

pub returns : goal.returns
returns c = record { made = name_made; local = name_local; back = name_back }

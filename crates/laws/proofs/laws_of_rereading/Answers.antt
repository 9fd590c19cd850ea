use Rattle.laws.proofs.Rereading.{reread, forms_distinct}
use Rattle.laws.proofs.laws_of_rereading.Goals as goal

pub returns : goal.returns
returns c = record { reread = reread; distinct = forms_distinct }

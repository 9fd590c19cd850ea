use Rattle.elements.proofs.Onwards.{elements_go_on}
use Rattle.elements.proofs.laws.laws_of_elements.Goals as goal

pub returns : goal.returns
returns c = record { onward = elements_go_on }

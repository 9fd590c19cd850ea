use Rattle.repetitions.proofs.Examples.{examples_hold}
use Rattle.repetitions.proofs.Locals.{repetition_local}
use Rattle.repetitions.proofs.Mades.{repetition_made}
use Rattle.repetitions.proofs.Matrices.{rows_length}
use Rattle.repetitions.proofs.Orders.{matrix_in_order, list_in_order}
use Rattle.repetitions.proofs.Reaches.{spread-length}
use Rattle.repetitions.proofs.laws.laws_of_repetitions.Goals as goal

pub returns : goal.returns
returns c =
    record {
      made = repetition_made;
      local = repetition_local;
      matrix_order = matrix_in_order;
      matrix_whole = λ columns rows across up. rows_length across up columns 0 rows;
      list_order = list_in_order;
      list_whole = spread-length;
      examples = examples_hold;
    }

use Rattle.explicit.proofs.Bytes.{records_are_bytes}
use Rattle.explicit.proofs.Elements.{placement_back, label_back, rectangle_back, polygon_back, path_back}
use Rattle.explicit.proofs.Examples.{examples_hold}
use Rattle.explicit.proofs.Records.{start_read, cells_read, placement_read, text_read, rectangle_read, polygon_read, path_read, end_read}
use Rattle.explicit.proofs.Shown.{texts_shown, vertices-shown}
use Rattle.explicit.proofs.laws.laws_of_explicit_bytes.Goals as goal

pub returns : goal.returns
returns c =
    record {
      placement_back = placement_back;
      text_back = label_back;
      rectangle_back = rectangle_back;
      polygon_back = polygon_back;
      path_back = path_back;
      start_read = start_read;
      cell_read = cells_read;
      placement_read = placement_read;
      text_read = text_read;
      rectangle_read = rectangle_read;
      polygon_read = polygon_read;
      path_read = path_read;
      end_read = end_read;
      texts = texts_shown;
      vertices = vertices-shown;
      bytes = records_are_bytes;
      examples = examples_hold;
    }

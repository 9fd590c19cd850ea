use Rattle.tokens.proofs.Bytes.{byte_made}
use Rattle.tokens.proofs.ChainLaws.{unsigned_made}
use Rattle.tokens.proofs.Deltas.{signed_made, two_delta_made, three_delta_made, g_delta_made}
use Rattle.tokens.proofs.Locals.{reads_nothing_else}
use Rattle.tokens.proofs.Parts.{part_made, part_shows}
use Rattle.tokens.proofs.Texts.{text_made}
use Rattle.tokens.proofs.Units.{unit_made}
use Rattle.tokens.proofs.laws.laws_of_readers.Goals as goal

pub returns : goal.returns
returns c =
    record {
      local = reads_nothing_else;
      unsigned = unsigned_made;
      signed = signed_made;
      two_delta = two_delta_made;
      three_delta = three_delta_made;
      g_delta = g_delta_made;
      byte = byte_made;
      text = text_made;
      part = part_made;
      shows = part_shows;
      unit = unit_made;
    }

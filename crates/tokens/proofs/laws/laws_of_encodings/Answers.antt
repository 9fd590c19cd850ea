use Rattle.tokens.proofs.Encodings.{unsigned_back, signed_back, g_delta_back, byte_back, text_back, unit_back, bytes_are_distinct, shortest_is_chain, shortest_sizes, shortest-bytes}
use Rattle.tokens.proofs.Parts.{part_back}
use Rattle.tokens.proofs.laws.laws_of_encodings.Goals as goal

pub returns : goal.returns
returns c =
    record {
      unsigned = unsigned_back;
      signed = signed_back;
      g_delta = g_delta_back;
      byte = byte_back;
      text = text_back;
      part = part_back;
      unit = unit_back;
      distinct = bytes_are_distinct;
      shortest = shortest_is_chain;
      sizes = shortest_sizes;
      bytes = shortest-bytes;
    }

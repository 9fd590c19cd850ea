-- The bytes of these values fit the buffer.
use Rattle.std.proofs.Common.{rules}
use Rattle.tokens.specs.Encodings.{shortest}
use Rattle.encoding.proofs.Laying.{put-length}
use Rattle.token_examples.proofs.tests.what_is_put_is_read_again.Goals as goal

pub put_unsigned-requires : goal.put_unsigned-requires
unfolding shortest
put_unsigned-requires g c = search rules

pub put_signed-requires-clause-room : goal.put_signed-requires-clause-room
unfolding shortest
put_signed-requires-clause-room g c = search (rules, put-length)

pub put_g_delta-requires-clause-room : goal.put_g_delta-requires-clause-room
unfolding shortest
put_g_delta-requires-clause-room g c = search (rules, put-length)

pub put_string-requires : goal.put_string-requires
unfolding shortest
put_string-requires g c = search (rules, put-length)

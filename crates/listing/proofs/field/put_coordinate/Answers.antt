use Rattle.encoding.proofs.Laying.{put_then, put_is, room_then}
use Rattle.listing.proofs.Fields.{one_coordinate}
use Rattle.listing.proofs.field.put_coordinate.Goals as goal

pub put_integer-requires : goal.put_integer-requires
put_integer-requires c = room_then _ (one_coordinate c.args.z c.ranges.z) c.put_byte.ensures.puts c.requires

pub returns : goal.returns
returns c = put_is (one_coordinate c.args.z c.ranges.z) (put_then c.put_byte.ensures.puts c.put_integer.ensures.puts)

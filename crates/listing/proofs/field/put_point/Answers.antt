use Rattle.std.proofs.Common.{rules}
use Rattle.encoding.proofs.Laying.{put_then, put_is, room_then}
use Rattle.listing.proofs.Fields.{one_point}
use Rattle.listing.proofs.field.put_point.Goals as goal

pub put_coordinate-requires-2 : goal.put_coordinate-requires-2
put_coordinate-requires-2 c = room_then _ (one_point c.args.p (search rules) (search rules)) c.put_coordinate.ensures c.requires

pub returns : goal.returns
returns c = put_is (one_point c.args.p (search rules) (search rules)) (put_then c.put_coordinate.ensures c.put_coordinate-2.ensures)

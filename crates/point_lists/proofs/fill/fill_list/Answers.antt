use Rattle.std.proofs.Common.{sym, ap, ◌∙◌}
use Rattle.std.specs.Result.{result_ok}
use Rattle.point_lists.specs.Lists.{point_list}
use Rattle.point_lists.proofs.Oks.{ok_some}
use Rattle.point_lists.proofs.Opens.{all_laid}
use Rattle.point_lists.proofs.fill.fill_list.Goals as goal

pub returns : goal.returns
returns c =
    let both = all_laid c.args.first c.args.out.now (point_list c.args.file.now c.args.at c.args.closed) c.in_ok-list.list c.write_list.result c.write_list.new.out (ok_some _ (c.in_ok-list.ensures.value ∙ ap result_ok c.read_list.ensures.reads)) c.if-list-out.false (sym c.if-not-reaches.ensures.tells) c.write_list.ensures in
    record { counts = both.0; writes = both.1 }

use Rattle.std.proofs.Common.{◌≡◌, ℕ, ◌+◌, ◌-◌, List, Ok, length, take, drop, set, sym, ap, ◌∙◌, arith, length-set}
use Rattle.std.specs.Result.{result_ok}
use borrow.Rule.Slice.PartMut.{put_mid, same_len_mid}
use Rattle.bounds.specs.declared.point.Point.{Point}
use Rattle.point_lists.specs.Kinds.{implied}
use Rattle.point_lists.specs.Lists.{walked, list_head}
use Rattle.point_lists.specs.Fills.{filled}
use Rattle.point_lists.proofs.Oks.{ok_some, ok_none}
use Rattle.point_lists.proofs.Fills.{Walked, behind-length, walked-laid}
use Rattle.point_lists.proofs.Opens.{Opened, headed, opened, not_stopped, opened-length, opened_last, laid_given, laid-implied}
use Rattle.point_lists.proofs.fill.write_list.Goals as goal
use Rattle.point_lists.proofs.fill.write_list.Goals.{In_ok-head, In_ok-walk}

-- the beginning was read
begun : (c : In_ok-head) → Ok c.in_ok-head.head ≡ list_head c.args.file.now c.args.at c.args.closed
begun c = ok_some _ (c.in_ok-head.ensures.value ∙ ap result_ok c.read_head.ensures)

-- the walk is written behind the first vertex
along : (c : In_ok-walk) (ps : List Point) (n : ℕ) (o : Opened c.args.file.now c.args.closed ps n c.in_ok-head.head) → Walked c.args.first c.args.out.now o.walk (put_mid 1 (c.in_ok-head.head.value.count + 1 - 1) (set c.args.out.now 0 c.args.first) c.write_walk.new.out) c.in_ok-walk.walk.at
along c ps n o =
    let x = c.in_ok-head.head in
    let f = c.in_ok-walk.ensures.writes in
    walked-laid c.args.first c.args.out.now _ o.walk n x.value.count (λ j. walked x.value.kind j c.args.file.now x.next) c.write_walk.new.out c.in_ok-walk.walk.at f.0 f.1 o.rolled.many (behind-length c.args.first c.args.out.now x.value.count (omega arith)) (omega arith) o.along f.2

pub returns-in_err-head : goal.returns-in_err-head
returns-in_err-head c =
    λ ps n e fits.
    let stop = ok_none (list_head c.args.file.now c.args.at c.args.closed) (c.in_err-head.ensures.value ∙ ap result_ok c.read_head.ensures) in
    headed c.args.file.now c.args.at c.args.closed ps n e stop.0 stop.1

pub returns-then-head-out : goal.returns-then-head-out
returns-then-head-out c =
    λ ps n e fits.
    let o = opened c.args.file.now c.args.at c.args.closed ps n e c.in_ok-head.head (begun (goal.at.returns-then-head-out c).In_ok-head) in
    absurd (omega (arith, fits, c.if-head-out.true, opened-length c.args.file.now c.args.closed ps n c.in_ok-head.head o))

pub returns-in_err-walk : goal.returns-in_err-walk
returns-in_err-walk c =
    λ ps n e fits.
    let x = c.in_ok-head.head in
    let o = opened c.args.file.now c.args.at c.args.closed ps n e x (begun (goal.at.returns-in_err-walk c).In_ok-head) in
    let slots = take (x.value.count + 1 - 1) (drop 1 (set c.args.out.now 0 c.args.first)) in
    let f = c.in_err-walk.ensures.writes in
    not_stopped c.args.file.now c.args.closed ps n x o c.args.first slots f.0
    (ap (λ j. filled c.args.first slots (walked x.value.kind j c.args.file.now x.next)) (sym (behind-length c.args.first c.args.out.now x.value.count (omega arith))) ∙ f.1)

pub returns-in_default : goal.returns-in_default
returns-in_default c =
    λ ps n e fits.
    let o = opened c.args.file.now c.args.at c.args.closed ps n e c.in_ok-head.head (begun (goal.at.returns-in_default c).In_ok-head) in
    let w = along (goal.at.returns-in_default c).In_ok-walk ps n o in
    laid_given c.args.file.now c.args.closed ps n c.in_ok-head.head o c.args.first c.args.out.now _ _ w c.in_default.ensures

pub returns-then-count-out : goal.returns-then-count-out
returns-then-count-out c =
    λ ps n e fits.
    let o = opened c.args.file.now c.args.at c.args.closed ps n e c.in_ok-head.head (begun (goal.at.returns-then-count-out c).In_ok-head) in
    let w = along (goal.at.returns-then-count-out c).In_ok-walk ps n o in
    let last = opened_last c.args.file.now c.args.closed ps n c.in_ok-head.head o c.args.first c.args.out.now _ _ w in
    let one = ap (λ p. length (implied c.in_ok-head.head.value.kind c.args.closed p)) (sym last) ∙ ap length c.in-Some.ensures in
    let long = same_len_mid 1 (c.in_ok-head.head.value.count + 1 - 1) (set c.args.out.now 0 c.args.first) c.write_walk.new.out c.write_walk.auto.out in
    absurd (omega (arith, fits, one, c.if-count-out.true, long, length-set c.args.out.now 0 c.args.first, opened-length c.args.file.now c.args.closed ps n c.in_ok-head.head o))

pub returns : goal.returns
returns c =
    λ ps n e fits.
    let o = opened c.args.file.now c.args.at c.args.closed ps n e c.in_ok-head.head (begun (goal.at.returns c).In_ok-head) in
    let w = along (goal.at.returns c).In_ok-walk ps n o in
    let laid = laid-implied c.args.file.now c.args.closed ps n c.in_ok-head.head o c.args.first c.args.out.now _ _ w c.in-Some.vertex fits c.in-Some.ensures in
    record {
      count = laid.count;
      memory = ap (λ q. set (put_mid 1 (c.in_ok-head.head.value.count + 1 - 1) (set c.args.out.now 0 c.args.first) c.write_walk.new.out) (c.in_ok-head.head.value.count + 1) q) c.add.ensures ∙ laid.memory;
    }

use Rattle.std.specs.Vec.Iter.{into_iter_items}
use Rattle.tg_threads.specs.Boxes.{boxed}
use Rattle.tg_threads.proofs.ShareLaws.{boxed_all, boxed_more}
use Rattle.tg_threads.proofs.sharing.box_lines.Goals as goal

pub loop-line-preserved : goal.loop-line-preserved
loop-line-preserved g c =
    let line = c.line-item.result in
    boxed_more (boxed c.args.stock.items c.args.lines.now) c.loop-line.tasks.items c.push.new.self.items (record { line = line; draft = c.take_box-draft.result }) (into_iter_items c.loop-line.left) (into_iter_items c.take_box-draft.new.left)
    c.args.lines.now c.loop-line.line-index line c.loop-line-test.true c.line-item.is c.loop-line.invariant (λ i. record { line = line; value = c.take_box-draft.ensures.first i }) c.take_box-draft.ensures.left c.in_ok-push.ensures.items

pub returns : goal.returns
returns g c =
    boxed_all (boxed c.args.stock.items c.args.lines.now) c.loop-line.tasks.items (into_iter_items c.loop-line.left) c.args.lines.now c.loop-line.line-index c.loop-line-test.false c.loop-line.invariant

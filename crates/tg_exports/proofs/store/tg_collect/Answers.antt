use Rattle.tg_c.specs.Calls.{CollectsHeap}
use Rattle.tg_c.specs.Forms.{kind_at}
use Rattle.tg_c.specs.Statuses.{TellsNumber, of_collect}
use Rattle.tg_c.proofs.CallLaws.{hears_at}
use Rattle.tg_exports.proofs.store.tg_collect.Goals as goal

pub returns-in-Some-clause-collected : goal.returns-in-Some-clause-collected
returns-in-Some-clause-collected c asked is =
    hears_at of_collect CollectsHeap (kind_at c.args.kind) c.in-Some.kind asked c.args.store.now c.collect.new.place c.collect.result
    (TellsNumber c.tell_number.result c.args.left.now c.tell_number.new.out) c.in-Some.ensures is c.collect.ensures c.tell_number.ensures

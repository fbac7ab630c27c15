use Rattle.std.proofs.Common.{◌≡◌, ◌++◌, map}
use Rattle.tg_threads.specs.Boxes.{boxed_of}
use Rattle.tg_threads.specs.Shares.{lines_in}
use Rattle.tg_threads.proofs.ShareLaws.{IsDealt}
use Rattle.tg_threads.proofs.sharing.deal.Given as goal

abbrev pub invariant-loop-task : goal.invariant-loop-task
invariant-loop-task g l = record {
  left : l.yielded ++ l.task-iterator.rest.items ≡ l.fn.tasks.items;
  dealt : IsDealt l.names (map boxed_of l.yielded) (map lines_in l.works.items);
  sessions : map (λ w. w.session) l.works.items ≡ map (λ w. w.session) l.fn.works.items;
}

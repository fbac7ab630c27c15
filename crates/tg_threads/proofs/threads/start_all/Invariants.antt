use Rattle.std.proofs.Common.{◌≡◌, ◌++◌, map}
use Rattle.std.specs.List.{All}
use Rattle.tg_threads.specs.Tasks.{assigned_of, promised_by}
use Rattle.tg_threads.proofs.threads.start_all.Given as goal

abbrev pub invariant-loop-work : goal.invariant-loop-work
invariant-loop-work g l = record {
  left : l.yielded ++ l.work-iterator.rest.items ≡ l.fn.works.items;
  promises : map promised_by l.handles.items ≡ map assigned_of l.yielded;
  helpers : All (λ h. h.promise.helpers ≡ l.fn.context.helpers) l.handles.items;
}

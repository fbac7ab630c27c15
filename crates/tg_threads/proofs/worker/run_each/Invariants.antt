use Rattle.std.proofs.Common.{◌≡◌, ◌≤◌, ◌+◌, ◌++◌, ℕ, Bool, true, map}
use Rattle.std.specs.List.{All, count_by}
use Rattle.std.specs.Vec.{vec_len, vec_capacity}
use Rattle.tg_shared.specs.Sessions.{AreFresh}
use Rattle.tg_threads.specs.Boxes.{boxed_of}
use Rattle.tg_threads.specs.Tasks.{IsRunFor, may_make_subject, subjects_spawned}
use Rattle.tg_threads.proofs.RunLaws.{HasRunSo}
use Rattle.tg_threads.proofs.worker.run_each.Given as goal

abbrev pub invariant-loop-task : goal.invariant-loop-task
invariant-loop-task g l = record {
  left : l.yielded ++ l.task-iterator.rest.items ≡ l.fn.tasks.items;
  spawned : AreFresh (subjects_spawned l.finished.session.receipts) l.finished.spawned.items;
  room : vec_len l.finished.spawned + count_by may_make_subject l.task-iterator.rest.items ≤ vec_capacity l.finished.spawned;
  runs : (first : ℕ → Bool) → first l.fn.finished.session.worker ≡ true → All (λ b. IsRunFor l.fn.finished.session.worker b.line) (map boxed_of l.fn.tasks.items) →
      HasRunSo g.L.Round.start l.fn.context.helpers first l.fn.finished.session.worker l.served (map boxed_of l.yielded) l.finished.told.items l.finished.session;
}

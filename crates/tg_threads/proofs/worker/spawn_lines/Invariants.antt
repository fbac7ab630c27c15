use Rattle.std.proofs.Common.{◌≡◌, ◌≤◌, take}
use Rattle.std.specs.List.{count_by}
use Rattle.tg_threads.specs.Tasks.{may_make_subject}
use Rattle.tg_threads.proofs.worker.spawn_lines.Given as goal

abbrev pub invariant-loop-task : goal.invariant-loop-task
invariant-loop-task g l = record {
  count : l.count ≡ count_by may_make_subject (take l.task-index l.tasks);
  few : l.count ≤ l.task-index;
}

use Rattle.std.proofs.Common.{List, ap, ◌∙◌}
use Rattle.std.specs.List.{count_by}
use Rattle.std.proofs.lemmas.List.{take_all}
use Rattle.tg_threads.specs.declared.task.Task.{Task}
use Rattle.tg_threads.specs.Tasks.{may_make_subject}
use Rattle.tg_threads.proofs.worker.spawn_lines.Goals as goal

pub returns : goal.returns
returns g c = c.loop-task.invariant.count ∙ ap (λ (ts : List (Task _)). count_by may_make_subject ts) (take_all c.loop-task.task-index c.args.tasks.now c.loop-task-test.false)

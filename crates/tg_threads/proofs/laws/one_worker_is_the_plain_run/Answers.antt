use Rattle.tg_threads.specs.Output.{has_thread}
use Rattle.tg_script.specs.Script.{commands_of, scene_of}
use Rattle.tg_threads.proofs.OneLaws.{plain_run}
use Rattle.tg_threads.proofs.laws.one_worker_is_the_plain_run.Goals as goal

pub returns : goal.returns
returns c = λ start arena lines entries made replies legal told each one. plain_run (commands_of lines) (scene_of start lines) arena (has_thread start.workers) entries made replies legal told each one

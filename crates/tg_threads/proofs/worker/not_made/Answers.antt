use Rattle.tg_threads.proofs.RunLaws.{never_collected}
use Rattle.tg_threads.proofs.worker.not_made.Goals as goal

pub unreachable-requires : goal.unreachable-requires
unreachable-requires g c = never_collected c.args.why _ c.in-Collected.ensures

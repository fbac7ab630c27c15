use Rattle.std.proofs.Common.{◌≡◌, map, take}
use Rattle.tg_threads.proofs.race.names_of.Given as goal

abbrev pub invariant-loop-session : goal.invariant-loop-session
invariant-loop-session g l = l.names.items ≡ map (λ s. s.worker) (take l.session-index l.sessions)

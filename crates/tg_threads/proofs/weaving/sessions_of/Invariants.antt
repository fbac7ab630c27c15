use Rattle.std.proofs.Common.{◌≡◌, ◌++◌}
use Rattle.tg_threads.specs.Shares.{all_sessions}
use Rattle.tg_threads.proofs.weaving.sessions_of.Given as goal

abbrev pub invariant-loop-one : goal.invariant-loop-one
invariant-loop-one g l = record {
  left : l.yielded ++ l.one-iterator.rest.items ≡ l.fn.finished.items;
  sessions : l.sessions.items ≡ all_sessions l.yielded;
}

use Rattle.std.proofs.Common.{◌≡◌, ◌++◌, [], map}
use Rattle.std.specs.List.{All}
use Rattle.tg_threads.proofs.sharing.works_of.Given as goal

abbrev pub invariant-loop-session : goal.invariant-loop-session
invariant-loop-session g l = record {
  left : l.yielded ++ l.session-iterator.rest.items ≡ l.fn.sessions.items;
  sessions : map (λ w. w.session) l.works.items ≡ l.yielded;
  none : All (λ w. w.tasks.items ≡ []) l.works.items;
}

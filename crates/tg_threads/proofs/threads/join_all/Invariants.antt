use Rattle.std.proofs.Common.{◌≡◌, ◌++◌, ℕ, map}
use Rattle.std.specs.List.{All}
use Rattle.tg_threads.specs.Tasks.{AllBring, promised_by}
use Rattle.tg_threads.proofs.threads.join_all.Given as goal

abbrev pub invariant-loop-handle : goal.invariant-loop-handle
invariant-loop-handle g l = record {
  left : l.yielded ++ l.handle-iterator.rest.items ≡ l.fn.handles.items;
  brings : (helpers : ℕ) → All (λ h. h.promise.helpers ≡ helpers) l.fn.handles.items → AllBring g.L.Round.start helpers (map promised_by l.yielded) l.all.items;
}

use Rattle.std.proofs.Common.{◌≡◌, take}
use Rattle.tg_store.specs.Batch.{Applies}
use Rattle.tg_store.proofs.store.Store.apply_all.Given as goal

-- the commands so far were taken, and before the first nothing was done
abbrev pub invariant-loop-done : goal.invariant-loop-done
invariant-loop-done g l = record {
  applies : Applies l.worker (take l.done l.commands) l.fn.self l.self;
  untouched : l.done ≡ 0 → l.self ≡ l.fn.self;
}

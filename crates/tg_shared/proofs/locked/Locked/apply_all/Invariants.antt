use Rattle.std.proofs.Common.{◌≡◌, ◌+◌, take}
use Rattle.tg_shared.specs.Batch.{ServesAll}
use Rattle.tg_shared.specs.Serving.{KeepsNumbers}
use Rattle.tg_shared.proofs.locked.Locked.apply_all.Given as goal

-- the commands so far were taken, each took the room of one receipt, and no session was made
abbrev pub invariant-loop-done : goal.invariant-loop-done
invariant-loop-done g l = record {
  served : ServesAll (take l.done l.commands) l.fn.self l.self l.fn.session l.session;
  spare : l.session.spare + l.done ≡ l.fn.session.spare;
  numbers : KeepsNumbers l.fn.self l.self;
}

use Rattle.std.proofs.Common.{◌≡◌, ◌+◌, ◌++◌, map, take}
use Rattle.tg_store.specs.Unparking.{taking}
use Rattle.tg_store.proofs.unparking.enter_takes.Given as goal

-- the edges before this one were entered
abbrev pub invariant-loop-edge : goal.invariant-loop-edge
invariant-loop-edge l = record {
  entries : l.journal.entries ≡ l.initial.journal.entries ++ map (taking l.parking) (take l.edge-index l.row);
  start : l.journal.start ≡ l.initial.journal.start;
  spare : l.journal.spare + l.edge-index ≡ l.initial.journal.spare;
}

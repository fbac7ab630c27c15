use Rattle.std.proofs.Common.{◌≡◌, take}
use Rattle.tg_kept.specs.Runs.{ServesInTurn}
use Rattle.tg_kept.proofs.kept.Kept.serve_all.Given as goal

abbrev pub invariant-loop-asked : goal.invariant-loop-asked
invariant-loop-asked g l = record {
  served : ServesInTurn (take l.asked-index l.batches) l.fn.self.store l.kept.store;
  count : l.answered ≡ l.asked-index;
  calm : g.D.Disk.is_clean l.kept.file.disk ≡ g.D.Disk.is_clean l.fn.self.file.disk;
}

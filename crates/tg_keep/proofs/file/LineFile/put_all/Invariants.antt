use Rattle.std.proofs.Common.{◌≡◌, drop, take}
use Rattle.std.specs.Prelude.{IsTrue, ◌++◌}
use Rattle.tg_keep.specs.Files.{AwaitsBatch}
use Rattle.tg_keep.specs.Lines.{history_of}
use Rattle.tg_keep.specs.Runs.{FollowOn, all_texts}
use Rattle.tg_keep.proofs.file.LineFile.put_all.Given as goal

abbrev pub invariant-loop-batch : goal.invariant-loop-batch
invariant-loop-batch g l = record {
  settled : AwaitsBatch g.D.Disk l.self;
  count : l.answered ≡ l.batch-index;
  texts : IsTrue (g.D.Disk.is_clean l.self.disk) → history_of (g.D.Disk.seen l.self.disk) ≡ history_of (g.D.Disk.seen l.fn.self.disk) ++ all_texts (take l.batch-index l.batches);
  follow : FollowOn l.self.sum (drop l.batch-index l.batches);
  calm : g.D.Disk.is_clean l.self.disk ≡ g.D.Disk.is_clean l.fn.self.disk;
}

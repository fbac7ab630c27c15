use Rattle.std.proofs.Common.{◌≡◌, ◌*◌, length}
use Rattle.std.specs.Prelude.{IsTrue}
use Rattle.sqlite_disk.specs.Disk.{Follows}
use Rattle.tg_keep.specs.Zeros.{AddsZeros, KeepsBelow}
use Rattle.tg_keep.proofs.zeros.write_zeros.Given as goal

abbrev pub invariant-loop-page : goal.invariant-loop-page
invariant-loop-page g l = record {
  usable : IsTrue (g.D.Disk.is_usable l.disk);
  zeros : l.end ≡ length (g.D.Disk.seen l.fn.disk) → AddsZeros (4096 * l.page) (g.D.Disk.seen l.fn.disk) (g.D.Disk.seen l.disk);
  crash : Follows (KeepsBelow l.end) (g.D.Disk.may_leave l.fn.disk) (g.D.Disk.may_leave l.disk);
  faults : g.D.Disk.faults l.disk ≡ g.D.Disk.faults l.fn.disk;
  calm : g.D.Disk.is_clean l.disk ≡ g.D.Disk.is_clean l.fn.disk;
}

-- A disk whose file was just opened.
use Rattle.std.specs.Prelude.{◌≡◌, List, ℕ}
use Rattle.sqlite_disk.specs.Disk.{Only}
use Rattle.sqlite_disk.specs.declared.Disk as disk
use Rattle.tg_keep.specs.Files.{MayUseDisk}

-- The disk may be used, and mixes bytes. Its file has these bytes, and a crash leaves them.
pub record IsAsFound {D : Type 0} (g : disk.Ghosts D) (bytes : List ℕ) (it : D) : Type 0 where
  pub usable : MayUseDisk g it
  pub seen : g.seen it ≡ bytes
  pub durable : Only bytes (g.may_leave it)

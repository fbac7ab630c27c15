use Rattle.std.proofs.Common.{◌≡◌}
use Rattle.std.proofs.lemmas.Result.{IfOk-weaker, on_ok_weaker}
use Rattle.std.specs.Prelude.{IsTrue}
use Rattle.tg_keep.specs.Closed.{is_closed}
use Rattle.tg_keep.specs.Opened.{ComesBack, HasOpened, ReportsLeft}
use Rattle.tg_keep.specs.declared.open.OpenedFile.{OpenedFile}
use Rattle.tg_keep.proofs.file.LineFile.crash_and_open.Goals as goal

pub open-requires : goal.open-requires
open-requires g c = record { usable = c.crash.ensures.usable; mixing = c.requires.mixing }

pub returns-clause-back : goal.returns-clause-back
returns-clause-back g c =
    let old = c.args.self.now in
    let mid = c.crash.new.self in
    let new = c.open.new.self in
    let back : HasOpened g.D.Disk (record old { disk = mid }) new → ComesBack g.D.Disk old new = λ opened. record {
      settled = opened.settled;
      says = λ clean. (g.D.Disk.seen mid, c.crash.ensures.left, opened.texts clean);
    } in
    on_ok_weaker c.open.result back c.open.ensures.opened

pub returns-clause-ended : goal.returns-clause-ended
returns-clause-ended g c =
    let old = c.args.self.now.disk in
    let mid = c.crash.new.self in
    let new = c.open.new.self.disk in
    let reports : (opened : OpenedFile) → (IsTrue (g.D.Disk.is_clean new) → opened.was_closed ≡ is_closed (g.D.Disk.seen mid)) → IsTrue (g.D.Disk.is_clean new) → ReportsLeft g.D.Disk.may_leave old opened.was_closed = λ opened is clean.
    (g.D.Disk.seen mid, c.crash.ensures.left, is clean) in
    IfOk-weaker c.open.result _ _ reports c.open.ensures.ended

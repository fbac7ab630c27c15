use Rattle.std.proofs.Common.{◌≡◌, true, ◌∙◌}
use Rattle.std.proofs.lemmas.Result.{IfOk-weaker, on_ok_weaker}
use Rattle.std.specs.Prelude.{IsTrue}
use Rattle.tg_keep.specs.Files.{StaysReady}
use Rattle.tg_keep.specs.Opened.{ComesBack, ReportsLeft}
use Rattle.tg_keep.specs.declared.open.OpenedFile.{OpenedFile}
use Rattle.tg_keep.proofs.file.LineFile.close_until_crash.Goals as goal

pub returns-clause-back : goal.returns-clause-back
returns-clause-back g c =
    let old = c.args.self.now in
    let mid = c.close.new.self in
    let new = c.crash_and_open.new.self in
    let back : ComesBack g.D.Disk mid new → StaysReady g.D.Disk old new = λ came. record {
      settled = came.settled;
      texts = λ clean. let from = came.says clean in from.2 ∙ c.close.ensures.left.crash (c.crash_and_open.ensures.clean clean) from.0 from.1;
    } in
    on_ok_weaker c.crash_and_open.result back c.crash_and_open.ensures.back

pub returns-clause-ended : goal.returns-clause-ended
returns-clause-ended g c =
    let mid = c.close.new.self.disk in
    let new = c.crash_and_open.new.self.disk in
    let reports : (opened : OpenedFile) → (IsTrue (g.D.Disk.is_clean new) → ReportsLeft g.D.Disk.may_leave mid opened.was_closed) → IsTrue (g.D.Disk.is_clean new) → opened.was_closed ≡ true = λ opened is clean.
    let from = is clean in
    from.2 ∙ c.in_ok-close.ensures.closed.closed (c.crash_and_open.ensures.clean clean) from.0 from.1 in
    IfOk-weaker c.crash_and_open.result _ _ reports c.crash_and_open.ensures.ended

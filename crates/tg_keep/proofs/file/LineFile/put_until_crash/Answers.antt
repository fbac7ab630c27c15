use Rattle.std.proofs.Common.{◌≡◌, false, ◌∙◌}
use Rattle.std.proofs.lemmas.Result.{IfOk-weaker, on_ok_weaker}
use Rattle.std.specs.Prelude.{IsTrue}
use Rattle.tg_keep.specs.Lines.{history_of}
use Rattle.tg_keep.specs.Opened.{ComesBack, ReportsLeft}
use Rattle.tg_keep.specs.Runs.{ComesBackFrom}
use Rattle.tg_keep.specs.declared.open.OpenedFile.{OpenedFile}
use Rattle.tg_keep.proofs.Running.{says_as}
use Rattle.tg_keep.proofs.file.LineFile.put_until_crash.Goals as goal

pub returns-clause-back : goal.returns-clause-back
returns-clause-back g c =
    let seen = g.D.Disk.seen in
    let batches = c.args.batches.now in
    let old = c.args.self.now in
    let mid = c.put_all.new.self in
    let new = c.crash_and_open.new.self in
    let answered = c.put_all.new.answered in
    let back : ComesBack g.D.Disk mid new → ComesBackFrom g.D.Disk batches answered old new = λ came. record {
      settled = came.settled;
      says = λ clean.
          let from = came.says clean in
          says_as (history_of (seen old.disk)) batches answered from.0 (seen new.disk) from.2 (c.put_all.ensures.left.crash (c.crash_and_open.ensures.clean clean) from.0 from.1);
    } in
    on_ok_weaker c.crash_and_open.result back c.crash_and_open.ensures.back

pub returns-clause-ended : goal.returns-clause-ended
returns-clause-ended g c =
    let mid = c.put_all.new.self.disk in
    let new = c.crash_and_open.new.self.disk in
    let reports : (opened : OpenedFile) → (IsTrue (g.D.Disk.is_clean new) → ReportsLeft g.D.Disk.may_leave mid opened.was_closed) → IsTrue (g.D.Disk.is_clean new) → opened.was_closed ≡ false = λ opened is clean.
    let from = is clean in
    from.2 ∙ c.put_all.ensures.left.unclosed (c.crash_and_open.ensures.clean clean) from.0 from.1 in
    IfOk-weaker c.crash_and_open.result _ _ reports c.crash_and_open.ensures.ended

use Rattle.std.proofs.Common.{◌≡◌, inl, inr, refl, sym, ◌∙◌, ap, subst, arith}
use Rattle.std.specs.Prelude.{IsTrue}
use Rattle.std.proofs.lemmas.Result.{err_from_is_err_and}
use Rattle.tg_keep.specs.Closed.{is_closed}
use Rattle.tg_keep.specs.Lines.{first_sum, history_of, last_sum_after, said_by}
use Rattle.tg_keep.specs.Opened.{HasLinesTo, MayOpen}
use Rattle.tg_keep.proofs.Mending.{ended_says, ended_synced}
use Rattle.tg_keep.proofs.Opening.{caused_by_text, lines_to}
use Rattle.tg_keep.proofs.file.LineFile.open.Goals as goal

pub returns-in_err-bytes-clause-crash : goal.returns-in_err-bytes-clause-crash
returns-in_err-bytes-clause-crash g c clean f left = inl (c.read_synced.ensures.crash f left)

pub returns-in_err-lines-clause-crash : goal.returns-in_err-lines-clause-crash
returns-in_err-lines-clause-crash g c clean f left = inl (c.read_synced.ensures.crash f left)

pub returns-in_err-end_lines-clause-crash : goal.returns-in_err-end_lines-clause-crash
returns-in_err-end_lines-clause-crash g c clean f left =
    let same = c.deref.ensures.value ∙ c.in_ok-bytes.ensures.bytes (subst IsTrue c.end_lines.ensures.calm clean) ∙ sym c.read_synced.ensures.seen in
    let lines = lines_to g.D.Disk.seen g.D.Disk.may_leave c.in_ok-lines.lines.at c.args.self.now.disk c.read_synced.new.disk c.deref.result.now c.in_ok-lines.ensures.at same c.read_synced.ensures.seen c.in_ok-bytes.ensures.durable in
    inr (c.end_lines.ensures.crash c.requires.mixing lines f left ∙ ap history_of c.read_synced.ensures.seen)

pub returns-clause-crash : goal.returns-clause-crash
returns-clause-crash g c clean f left =
    let same = c.deref.ensures.value ∙ c.in_ok-bytes.ensures.bytes (subst IsTrue c.end_lines.ensures.calm clean) ∙ sym c.read_synced.ensures.seen in
    let lines = lines_to g.D.Disk.seen g.D.Disk.may_leave c.in_ok-lines.lines.at c.args.self.now.disk c.read_synced.new.disk c.deref.result.now c.in_ok-lines.ensures.at same c.read_synced.ensures.seen c.in_ok-bytes.ensures.durable in
    inr (c.end_lines.ensures.crash c.requires.mixing lines f left ∙ ap history_of c.read_synced.ensures.seen)

pub returns-clause-bytes : goal.returns-clause-bytes
returns-clause-bytes g c clean = c.in_ok-bytes.ensures.bytes (subst IsTrue c.end_lines.ensures.calm clean)

pub returns-clause-ended : goal.returns-clause-ended
returns-clause-ended g c clean = c.in_ok-lines.ensures.closed ∙ ap is_closed (c.deref.ensures.value ∙ c.in_ok-bytes.ensures.bytes (subst IsTrue c.end_lines.ensures.calm clean))

pub returns-clause-opened : goal.returns-clause-opened
returns-clause-opened g c =
    let old = c.args.self.now.disk in
    let mid = c.read_synced.new.disk in
    let seen = g.D.Disk.seen in
    let e = c.in_ok-end_lines.ensures.ended in
    let read : IsTrue (g.D.Disk.is_clean c.end_lines.new.disk) → c.deref.result.now ≡ seen old = λ clean.
    c.deref.ensures.value ∙ c.in_ok-bytes.ensures.bytes (subst IsTrue c.end_lines.ensures.calm clean) in
    let lines : IsTrue (g.D.Disk.is_clean c.end_lines.new.disk) → HasLinesTo seen g.D.Disk.may_leave c.in_ok-lines.lines.at mid = λ clean.
    lines_to seen g.D.Disk.may_leave c.in_ok-lines.lines.at old mid c.deref.result.now c.in_ok-lines.ensures.at (read clean ∙ sym c.read_synced.ensures.seen) c.read_synced.ensures.seen c.in_ok-bytes.ensures.durable in
    record {
      settled = record {
        usable = e.usable;
        room = omega arith;
        synced = λ clean.
            ended_synced (seen mid) c.in_ok-lines.lines.at (lines clean).lines seen g.D.Disk.may_leave _ refl refl (c.in_ok-lines.ensures.sum ∙ ap (last_sum_after first_sum) (read clean ∙ sym c.read_synced.ensures.seen))
            (e.ended (lines clean)) e.durable;
      };
      texts = λ clean.
          ap said_by (ended_says (seen mid) c.in_ok-lines.lines.at (lines clean).lines (seen c.end_lines.new.disk) (e.ended (lines clean))) ∙ ap history_of c.read_synced.ensures.seen;
      opens = λ clean. subst MayOpen (read clean) c.in_ok-lines.ensures.opens;
    }

pub returns-in_err-lines-clause-cause : goal.returns-in_err-lines-clause-cause
returns-in_err-lines-clause-cause g c =
    let given = err_from_is_err_and c.from_residual-in_err-lines.result c.from_residual-in_err-lines.ensures.1 in
    caused_by_text c.from_residual-in_err-lines.result given.0 c.in_err-lines.field-0.0 (g.D.Disk.faults c.args.self.now.disk) (g.D.Disk.faults c.read_synced.new.disk) given.1 given.2 c.in_err-lines.ensures.own c.in_ok-bytes.ensures.cause

pub returns-in_err-end_lines-clause-clean : goal.returns-in_err-end_lines-clause-clean
returns-in_err-end_lines-clause-clean g c clean = c.read_synced.ensures.clean (subst IsTrue c.end_lines.ensures.calm clean)

pub returns-clause-clean : goal.returns-clause-clean
returns-clause-clean g c clean = c.read_synced.ensures.clean (subst IsTrue c.end_lines.ensures.calm clean)

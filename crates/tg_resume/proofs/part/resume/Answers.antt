use Rattle.std.proofs.Common.{◌≡◌, List, length, sym, subst}
use Rattle.tg_journal.specs.declared.entry.Entry.{Entry as EntryOf}
use Rattle.tg_resume.specs.Resuming.{IsStopped}
use Rattle.tg_resume.proofs.Replaying.{no_bad_place}
use Rattle.tg_resume.proofs.part.resume.Goals as goal

pub returns-in-Err-clause-stopped : goal.returns-in-Err-clause-stopped
returns-in-Err-clause-stopped g c =
    let old = c.args.store in
    let es : List EntryOf = c.args.part.entries.now in
    let place : c.args.part.from ≡ length old.entries = cc in
    subst (λ n. IsStopped n es old c.stopped.result) (sym place) (c.stopped.ensures es old c.in-Err.ensures.halted)

pub returns-in-Err-clause-place : goal.returns-in-Err-clause-place
returns-in-Err-clause-place g c =
    let old = c.args.store in
    let place : c.args.part.from ≡ length old.entries = cc in (
      λ told _. no_bad_place {P = g.row.P.Denot} old old c.args.part.entries.now (length old.entries) c.args.part.from c.stopped.result (c.stopped.ensures c.args.part.entries.now old c.in-Err.ensures.halted) told,
      λ other. absurd (other place),
    )

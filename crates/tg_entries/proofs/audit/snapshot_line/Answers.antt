use Rattle.std.proofs.Common.{◌++◌, subst}
use Rattle.tg_saved.specs.Read.{HasReadSnapshot}
use Rattle.tg_entries.proofs.audit.snapshot_line.Goals as goal

pub returns-in_ok-reopen-in-Whole : goal.returns-in_ok-reopen-in-Whole
returns-in_ok-reopen-in-Whole g c = λ text was.
    let all = text ++ c.args.line.now in
    c.in_ok-reopen-in-Whole.ensures all (subst (HasReadSnapshot all) c.in-Whole.is (c.in_ok-next.ensures text was))

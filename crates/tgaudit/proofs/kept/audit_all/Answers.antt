use Rattle.std.proofs.Common.{◌++◌, ℕ, subst}
use Rattle.tg_entries.specs.Texts.{IsAudited, end_text}
use Rattle.tg_found.specs.Kept.{text_before_end}
use Rattle.tgaudit.proofs.kept.audit_all.Goals as goal

pub returns-in-Ok-true-clause-legal : goal.returns-in-Ok-true-clause-legal
returns-in-Ok-true-clause-legal g c =
    let entries = c.in_ok-passed.passed.entries in
    let ended : IsAudited (text_before_end c.args.file.now ++ end_text entries) entries = c.in-Ok-true.ensures (text_before_end c.args.file.now) c.in_ok-passed.ensures.read c.in-Ok-true.field-0-test in
    subst (λ (n : ℕ). IsAudited (text_before_end c.args.file.now ++ end_text n) entries) c.in_ok-passed.ensures.entries ended

use Rattle.std.proofs.Common.{subst}
use Rattle.std.proofs.lemmas.Result.{IfOk-weaker}
use Rattle.tg_model.specs.Opened.{start_of}
use Rattle.tg_snapshot.specs.Snapshot.{graph_shown}
use Rattle.tg_plain.specs.Inner.Past.{AfterLegal}
use Rattle.tg_plain.proofs.PastLaws.{after_shown, opened_last, shown_last}
use Rattle.tg_plain.proofs.past.last_picture.Goals as goal

pub returns-in-Opened : goal.returns-in-Opened
returns-in-Opened c =
    IfOk-weaker c.after_opening.result _ _
    (λ p after.
    opened_last c.args.history.now c.in-Opened.opening p c.in-Opened.is
    (subst (λ es. AfterLegal (start_of c.in-Opened.opening) es p) c.as_slice-entries.ensures.value after))
    c.after_opening.ensures

pub returns-in-Shown : goal.returns-in-Shown
returns-in-Shown c =
    IfOk-weaker c.picture_after.result _ _
    (λ p after.
    shown_last c.args.history.now c.in-Shown.snapshot p c.in-Shown.is
    (subst (λ es. AfterLegal (graph_shown c.in-Shown.snapshot) es p) c.as_slice-entries.ensures.value
    (after_shown c.in-Shown.snapshot c.picture.result.now p c.as_slice-entries.result.now c.picture.ensures.picture after)))
    c.picture_after.ensures

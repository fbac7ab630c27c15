use Rattle.std.proofs.Common.{◌∙◌}
use Rattle.std.proofs.lemmas.Result.{err_from_is_err_and}
use Rattle.tg_c.specs.Forms.{AreValues, HaveLabels}
use Rattle.tg_c.specs.declared.refusal.CallRefusal.TheVariants as refusal
use Rattle.tg_c.proofs.OpenLaws.{no_plan_fault, want_else, wants}
use Rattle.tg_c.proofs.opening.asked_for.Goals as goal

pub returns-in_err-drafts-clause-refused : goal.returns-in_err-drafts-clause-refused
returns-in_err-drafts-clause-refused c =
    let given = err_from_is_err_and c.from_residual-in_err-drafts.result c.from_residual-in_err-drafts.ensures.1 in
    wants c.args.workers.now c.args.edges.now c.args.limits.now c.from_residual-in_err-drafts.result _ c.in_ok-blocks.ensures.met.0 given.1
    (given.2 ∙ want_else refusal.BadLaw c.in_err-drafts.field-0.0 (¬ AreValues c.args.workers.now) (λ none. none c.in_ok-blocks.ensures.met.0.0) c.in_err-drafts.ensures.refused)

pub returns-in_err-edges-clause-refused : goal.returns-in_err-edges-clause-refused
returns-in_err-edges-clause-refused c =
    let given = err_from_is_err_and c.from_residual-in_err-edges.result c.from_residual-in_err-edges.ensures.1 in
    wants c.args.workers.now c.args.edges.now c.args.limits.now c.from_residual-in_err-edges.result _ c.in_ok-blocks.ensures.met.0 given.1
    (given.2 ∙ want_else refusal.BadRights c.in_err-edges.field-0.0 (¬ HaveLabels c.args.edges.now) (λ none. none c.in_ok-blocks.ensures.met.0.1.0) c.in_err-edges.ensures.refused)

pub returns-in_err-opening-clause-refused : goal.returns-in_err-opening-clause-refused
returns-in_err-opening-clause-refused c =
    let met = c.in_ok-blocks.ensures.met.0 in
    absurd (no_plan_fault c.args.workers.now c.args.edges.now c.args.limits.now c.in_ok-values.values.items c.in_ok-edges.edges.items c.in_err-opening.field-0.0
    met (c.in_ok-values.ensures.values ∙ c.as_slice.ensures.value ∙ c.in_ok-drafts.ensures.drafts.1) c.in_ok-edges.ensures.edges.1 c.in_err-opening.ensures.refused)

use Rattle.std.proofs.Common.{◌∙◌, ℕ, ap, sym, arith}
use Rattle.tg_rights.specs.RightSet.{RightSet, is_none_held}
use Rattle.tg_model.proofs.LabelLaws.{targets_in}
use Rattle.tg_journal.proofs.live.LiveGraph.open.Goals as goal

pub invariant_of-result : goal.invariant_of-result
invariant_of-result c = λ x y edge.
    let p = c.args.opening.now in
    let below =
    targets_in p.edges p.workers c.workers.ensures.plan.edges x y
    (sym (ap (λ (f : ℕ → ℕ → RightSet). is_none_held (f x y)) c.in_ok-vertices.ensures.labels) ∙ edge) in
    omega (arith, below, c.workers-2.ensures.number)

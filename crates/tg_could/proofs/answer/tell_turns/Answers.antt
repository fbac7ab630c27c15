use Rattle.std.proofs.Common.{◌≡◌, ◌+◌, ℕ, List, subst, arith}
use Rattle.tg_could.specs.Turns.{Turn, LeadThere, with_names}
use Rattle.tg_could.proofs.answer.tell_turns.Goals as goal

pub returns-then-names-eq0 : goal.returns-then-names-eq0
returns-then-names-eq0 c g picture =
    let names = c.saturating_sub-names.result in
    let leads = c.in_ok-leads.ensures c.if-not-leads.false g picture in
    let none : g.limit + names ≡ g.limit = omega (arith, c.if-names-eq0.true) in
    subst (λ (n : ℕ). LeadThere c.args.scene.now.silent.now (record g { limit = n }) c.turns_to-planned.result.turns.items c.args.question.x c.args.question.right c.args.question.y) none
    (subst (λ (l : List Turn). LeadThere c.args.scene.now.silent.now (with_names g names) l c.args.question.x c.args.question.right c.args.question.y) c.as_slice.ensures.value leads)

pub returns-then-is_short : goal.returns-then-is_short
returns-then-is_short c g picture =
    let names = c.saturating_sub-names.result in
    let leads = c.in_ok-leads.ensures c.if-not-leads.false g picture in (
      subst (λ (l : List Turn). LeadThere c.args.scene.now.silent.now (with_names g names) l c.args.question.x c.args.question.right c.args.question.y) c.as_slice.ensures.value leads,
      c.is_short.ensures c.if-is_short.true g picture,
    )

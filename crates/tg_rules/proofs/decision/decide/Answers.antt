use Rattle.std.proofs.Common.{ℕ, ap, ◌∙◌}
use Rattle.tg_model.specs.Rules.{denial_of}
use Rattle.tg_graph.specs.Heap.{content_of}
use Rattle.tg_rules.specs.Verdict.{verdict_of}
use Rattle.tg_rules.proofs.decision.decide.Goals as goal

pub returns-in-Err : goal.returns-in-Err
returns-in-Err g c =
    let content = content_of c.args.heap.now in
    ap verdict_of (c.in-Err.ensures.denial ∙ ap (λ (x : ℕ). denial_of content.label content.value x c.args.command.now) c.subject_of.ensures.name)

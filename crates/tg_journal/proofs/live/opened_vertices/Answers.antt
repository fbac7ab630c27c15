use Rattle.std.proofs.Common.{◌≡◌, ℕ, List, Option, subst}
use Rattle.std.specs.Prelude.{IfOk}
use Rattle.tg_model.specs.declared.edge.Edge.{Edge}
use Rattle.tg_model.specs.declared.value.Value.{Value}
use Rattle.tg_model.specs.Opened.{label_in}
use Rattle.tg_journal.specs.Live.{label_between, value_of}
use Rattle.tg_journal.proofs.live.opened_vertices.Goals as goal

pub returns-clause-labels : goal.returns-clause-labels
returns-clause-labels c = subst (λ (es : List Edge). IfOk c.with_edges.result (λ vs. label_between vs ≡ label_in es)) c.edges.ensures c.with_edges.ensures.labels

pub returns-clause-values : goal.returns-clause-values
returns-clause-values c = subst (λ (f : ℕ → Option Value). IfOk c.with_edges.result (λ vs. value_of vs ≡ f)) c.in_ok-bare.ensures.values c.with_edges.ensures.values

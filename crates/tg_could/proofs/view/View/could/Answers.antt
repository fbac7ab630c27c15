use Rattle.std.proofs.Common.{◌≡◌, [], subst}
use Rattle.tg_rights.proofs.RightLaws.{union_none}
use Rattle.tg_model.specs.Graph.{ProtectionGraph}
use Rattle.tg_could.specs.Reached.{with_edges}
use Rattle.tg_could.specs.Turns.{NeverHolds}
use Rattle.tg_could.proofs.view.View.could.Goals as goal

pub returns : goal.returns
returns c silent shown g view picture never =
    let q = c.args.question in
    let same : with_edges g [] ≡ g = λ i. record g { label = λ a b. union_none (g.label a b) i } in
    subst (λ (h : ProtectionGraph). NeverHolds silent h q.x q.right q.y) same (c.could_as_if.ensures silent shown g view picture never)

use Rattle.std.proofs.Common.{◌≡◌, ◌∙◌, ap, rules, List, ℕ}
use Rattle.std.proofs.lemmas.Fn.{filter_same}
use Rattle.tg_model.specs.Graph.{without_subject}
use Rattle.tg_model.specs.Plain.{PlainGraph, graph_of}
use Rattle.tg_model.proofs.PlainLaws.{retired_plain}
use Rattle.tg_model.proofs.graph.Graph.retire.Goals as goal

pub invariant_of-self : goal.invariant_of-self
invariant_of-self c =
    retired_plain c.self.inside.subjects.items c.retain.new.self.items c.self.inside.max_vertices c.args.worker c.self.inside.rows.items c.self.inside.values.items c.self.invariant
    (filter_same _ _ _ (λ x b f' k. search rules) _ _ c.retain.ensures.filtered)

pub returns : goal.returns
returns c =
    let left : c.retain.new.self.items ≡ without_subject c.self.inside.subjects.items c.args.worker = filter_same _ _ _ (λ x b f' k. search rules) _ _ c.retain.ensures.filtered in
    ap (λ (subjects : List ℕ). record (graph_of (record { subjects = c.self.inside.subjects.items; limit = c.self.inside.max_vertices; rows = c.self.inside.rows.items; values = c.self.inside.values.items })) { subjects = subjects }) left
    ∙ ap (λ (p : PlainGraph). record (graph_of p) { subjects = without_subject p.subjects c.args.worker }) c.self.view_is

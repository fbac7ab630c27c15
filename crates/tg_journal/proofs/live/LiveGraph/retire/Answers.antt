use Rattle.std.proofs.Common.{◌≡◌, ◌∙◌, ap, rules}
use Rattle.std.proofs.lemmas.Fn.{filter_same}
use Rattle.tg_model.specs.Graph.{without_subject}
use Rattle.tg_journal.specs.Live.{KeptGraph, graph_kept, label_between, value_of}
use Rattle.tg_journal.proofs.live.LiveGraph.retire.Goals as goal

pub returns : goal.returns
returns c =
    let left : c.retain.new.self.items ≡ without_subject c.self.inside.subjects.items c.args.worker = filter_same _ _ _ (λ x b f' k. search rules) _ _ c.retain.ensures.filtered in
    (λ i. record {
      subjects = left i;
      made = c.self.inside.made;
      limit = c.self.inside.max_vertices;
      label = label_between c.self.inside.vertices;
      value = value_of c.self.inside.vertices;
    })
    ∙ ap (λ (k : KeptGraph). record (graph_kept k) { subjects = without_subject k.subjects c.args.worker }) c.self.view_is

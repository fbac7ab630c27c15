use Rattle.std.proofs.Common.{◌∙◌, ap, ℕ}
use Rattle.tg_model.specs.Graph.{without_rights}
use Rattle.tg_graph.specs.Heap.{content_of}
use Rattle.tg_rebuild.proofs.BareLaws.{dropped}
use Rattle.tg_rebuild.proofs.bare.let_go.Goals as goal

pub returns-clause-bare : goal.returns-clause-bare
returns-clause-bare g c =
    let old = content_of c.args.heap.now in
    let gone = c.drop_rights.ensures.dropped in
    record {
      names = gone.names;
      labels = λ a b. gone.labels a b
          ∙ ap (λ (n : ℕ). without_rights old.label n c.args.name c.args.held a b) c.worker_place-from.ensures.vertex.named
          ∙ dropped old c.args.holder c.args.name c.args.held c.requires.edge a b;
      values = gone.values;
    }

pub returns-clause-vertex : goal.returns-clause-vertex
returns-clause-vertex g c = c.drop_rights.ensures.kept.vertices c.args.name c.in-Some.found.place c.in-Some.ensures.place

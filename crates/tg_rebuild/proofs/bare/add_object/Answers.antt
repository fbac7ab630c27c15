use Rattle.std.proofs.Common.{◌∙◌}
use Rattle.tg_rebuild.proofs.EdgeLaws.{kept_both}
use Rattle.tg_rebuild.proofs.bare.add_object.Goals as goal

pub returns-in-Ok-clause-added : goal.returns-in-Ok-clause-added
returns-in-Ok-clause-added g c =
    let made = c.in-Ok.ensures.made in
    let bare = c.let_go.ensures.bare in
    record {
      names = λ x. (λ named. (made.names x).0 ((bare.names x).0 named), λ is. (bare.names x).1 ((made.names x).1 is));
      labels = bare.labels;
      values = λ x. bare.values x ∙ made.values x;
    }

pub returns-in-Ok-clause-kept : goal.returns-in-Ok-clause-kept
returns-in-Ok-clause-kept g c = kept_both c.args.heap.now c.new_vertex.new.self c.let_go.new.heap c.in-Ok.ensures.kept c.let_go.ensures.kept

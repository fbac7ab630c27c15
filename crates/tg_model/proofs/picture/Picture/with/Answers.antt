use Rattle.std.proofs.Common.{[], ◌∷◌, ◌++◌, ap, ◌∙◌}
use Rattle.tg_model.specs.declared.edge.Edge.{Edge}
use Rattle.tg_model.specs.Picture.{Shown}
use Rattle.tg_model.proofs.PictureLaws.{with_edge-pictured}
use Rattle.tg_model.proofs.picture.Picture.with.Goals as goal

pub returns : goal.returns
returns c g picture from_made to_made =
    let is = c.picture.view_is in
    let e : Edge = record { from = c.args.from; to = c.args.to; label = c.args.rights } in
    with_edge-pictured c.args.self _ g e (ap (λ (s : Shown). s.subjects) is) (ap (λ (s : Shown). s.made) is) (ap (λ (s : Shown). s.limit) is)
    (c.in_ok-push.ensures.items ∙ ap (λ (s : Shown). s.edges ++ e ∷ []) is) picture from_made to_made

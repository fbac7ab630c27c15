use Rattle.std.proofs.Common.{List, subst}
use Rattle.std.specs.List.{All}
use Rattle.tg_model.specs.declared.edge.Edge.{Edge}
use Rattle.tg_could.specs.Separation.{sides_against}
use Rattle.tg_could.specs.Listed.{ListsEdge}
use Rattle.tg_could.proofs.ListedLaws.{unlisted-never}
use Rattle.tg_could.proofs.what.Listed.leaves_out.Goals as goal

pub returns : goal.returns
returns c t g picture right y untold =
    let listed = c.args.self.now in
    let s = sides_against c.args.sides.now in
    unlisted-never c.args.scene.now.silent.now c.args.scene.now.picture.now g picture listed c.args.x right y untold s
    (subst (λ (es : List Edge). All (ListsEdge s listed c.args.x) es) c.edges.ensures (c.has_edges.ensures t))
    (c.has_actors.ensures c.if-not-has_actors.false) (c.has_alone.ensures c.if-not-has_alone.false)

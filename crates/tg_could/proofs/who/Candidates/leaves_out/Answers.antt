use Rattle.std.proofs.Common.{List, subst}
use Rattle.std.specs.List.{All}
use Rattle.tg_model.specs.declared.edge.Edge.{Edge}
use Rattle.tg_could.specs.Separation.{sides_of}
use Rattle.tg_could.specs.Told.{TellsHolder, TellsOf}
use Rattle.tg_could.proofs.ToldLaws.{left_out, alone-left_out}
use Rattle.tg_could.proofs.who.Candidates.leaves_out.Goals as goal

pub returns-then-is_alone : goal.returns-then-is_alone
returns-then-is_alone c t g picture x untold =
    let told = c.args.self.now in
    alone-left_out c.args.scene.now.silent.now c.args.scene.now.picture.now g picture told c.args.right c.args.y x untold
    (subst (λ (es : List Edge). All (TellsHolder told c.args.right c.args.y) es) c.edges.ensures (c.has_holders.ensures c.if-not-has_holders.false))
    (c.is_alone.ensures.many c.if-is_alone.true) (c.is_alone.ensures.alone c.if-is_alone.true)

pub returns : goal.returns
returns c t g picture x untold =
    let told = c.args.self.now in
    let s = sides_of c.args.sides.now in
    left_out c.args.scene.now.silent.now c.args.scene.now.picture.now g picture told c.args.right c.args.y x untold
    (subst (λ (es : List Edge). All (TellsHolder told c.args.right c.args.y) es) c.edges.ensures (c.has_holders.ensures c.if-not-has_holders.false))
    s
    (subst (λ (es : List Edge). All (TellsOf s told c.args.right c.args.y) es) c.edges-2.ensures (c.has_gifts.ensures t))
    (c.has_actors.ensures c.if-not-has_actors.false)

use Rattle.std.proofs.Common.{refl}
use Rattle.tg_model.specs.Graph.{ProtectionGraph}
use Rattle.tg_could.specs.Reached.{with_edges}
use Rattle.tg_store.proofs.StandLaws.{sound_of}
use Rattle.tg_store.specs.Store.{graph_of_store}
use Rattle.examples.proofs.stand_in.foresight.never_after.Goals as goal

pub returns : goal.returns
returns g c never =
    let s = c.args.store.now in
    let h : ProtectionGraph = graph_of_store s in
    let sound = sound_of s c.journal.ensures.faithful in
    let picture = c.in_ok-picture.ensures h refl in
    c.is_never.ensures never c.args.silent.now (with_edges h c.args.grants.now) c.args.question.x c.args.question.right c.args.question.y
    (c.in_ok-answer.ensures h sound picture ((c.join_reached.ensures h picture).0 c.if-not-join_reached.false))

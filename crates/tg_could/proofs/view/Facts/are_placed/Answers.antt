use Rattle.std.proofs.Common.{ℕ}
use Rattle.tg_could.specs.View.{IsPlaced}
use Rattle.tg_could.proofs.MarkLaws.{one-more}
use Rattle.tg_could.proofs.view.Facts.are_placed.Goals as goal

pub loop-actor-preserved : goal.loop-actor-preserved
loop-actor-preserved c =
    let P : ℕ → Type 0 = IsPlaced c.args.self.now c.args.x c.args.y c.args.word in
    one-more P c.as_slice-actor-items.result.now c.args.self.now.actors.items c.loop-actor.actor-index 0 c.as_slice-actor-items.ensures.value c.loop-actor-test.true
    c.loop-actor.invariant (c.is_placed.ensures c.if-not-is_placed.false)

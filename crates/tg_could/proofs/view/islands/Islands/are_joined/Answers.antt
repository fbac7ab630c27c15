use Rattle.std.proofs.lemmas.List.Elements.{AllWithin-more, at_read}
use Rattle.std.proofs.lemmas.Bool.{false≢true}
use Rattle.tg_could.specs.declared.view.entries.PackedEdge.{PackedEdge}
use Rattle.tg_could.specs.View.{JoinsEntry}
use Rattle.tg_could.proofs.view.islands.Islands.are_joined.Goals as goal

pub loop-entry-preserved : goal.loop-entry-preserved
loop-entry-preserved c =
    let P : PackedEdge → Type 0 = JoinsEntry c.args.self.now in
    AllWithin-more P c.args.entries.now 0 c.loop-entry.entry-index c.loop-entry.invariant
    (at_read c.args.entries.now P c.loop-entry.entry-index c.entry-item.result c.loop-entry-test.true c.entry-item.is (c.is_joined.ensures c.if-not-is_joined.false))

pub returns-then-not-is_joined : goal.returns-then-not-is_joined
returns-then-not-is_joined c t = absurd (false≢true t)

use Rattle.std.proofs.Common.{List, ℕ, ◌∙◌, subst}
use Rattle.tg_text.specs.Texts.{edge_text}
use Rattle.tg_entries.specs.Pieces.{Loses}
use Rattle.tg_entries.proofs.PieceLaws.{loses_each}
use Rattle.tg_entries.proofs.listing.are_next.Goals as goal

pub loop-edge-preserved : goal.loop-edge-preserved
loop-edge-preserved g c =
    let left = g.R.Read.remaining in
    loses_each edge_text c.args.edges.now c.loop-edge.edge-index c.edge-item.result c.args.line.now.items c.loop-edge.line.items c.takes.new.line.items
    (left c.args.reader.now) (left c.loop-edge.reader) (left c.takes.new.reader) c.loop-edge-test.true c.edge-item.is c.loop-edge.invariant
    (subst (λ (t : List ℕ). Loses c.loop-edge.line.items (left c.loop-edge.reader) t c.takes.new.line.items (left c.takes.new.reader))
    (c.as_slice.ensures.value ∙ c.in_ok-write_again.ensures) (c.in_ok-takes.ensures c.if-not-branch.false))

use Rattle.std.proofs.Common.{take}
use Rattle.std.specs.List.{flat_map}
use Rattle.tg_text.specs.Texts.{edge_text}
use Rattle.tg_entries.specs.Pieces.{Loses}
use Rattle.tg_entries.proofs.listing.are_next.Given as goal

abbrev pub invariant-loop-edge : goal.invariant-loop-edge
invariant-loop-edge g l =
    let left = g.R.Read.remaining in
    Loses l.fn.line.items (left l.fn.reader) (flat_map edge_text (take l.edge-index l.edges)) l.line.items (left l.reader)

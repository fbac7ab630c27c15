use Rattle.std.proofs.Common.{◌≡◌, ℕ, take}
use Rattle.tg_model.specs.Opened.{label_in}
use Rattle.tg_journal.specs.Live.{label_between, value_of}
use Rattle.tg_journal.proofs.live.with_edges.Given as goal

abbrev pub invariant-loop-edge : goal.invariant-loop-edge
invariant-loop-edge l = record {
  labels : (x y : ℕ) → label_between l.vertices x y ≡ label_in (take l.edge-index l.edges) x y;
  values : value_of l.vertices ≡ value_of l.fn.bare;
}

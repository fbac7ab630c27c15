use Rattle.std.proofs.Common.{◌≡◌, ℕ, take}
use Rattle.tg_rights.specs.RightSet.{no_rights}
use Rattle.tg_snapshot.specs.Snapshot.{value_shown}
use Rattle.tg_journal.specs.Live.{label_between, value_of}
use Rattle.tg_journal.proofs.vertices.Vertices.from_shown.Given as goal

abbrev pub invariant-loop-vertex : goal.invariant-loop-vertex
invariant-loop-vertex l = record {
  values : (y : ℕ) → value_of l.vertices y ≡ value_shown (take l.vertex-index l.shown) y;
  labels : (x y : ℕ) → label_between l.vertices x y ≡ no_rights;
}

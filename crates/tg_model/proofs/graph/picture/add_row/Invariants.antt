use Rattle.std.proofs.Common.{ℕ, ◌≡◌}
use Rattle.std.specs.List.{All, AllWithin}
use Rattle.tg_rights.specs.RightSet.{RightSet}
use Rattle.tg_rights.specs.declared.Right.{Right}
use Rattle.tg_model.specs.Opened.{label_in}
use Rattle.tg_model.specs.Picture.{Holds, StandsIn, AreAmong}
use Rattle.tg_model.proofs.graph.picture.add_row.Given as goal

abbrev pub invariant-loop-edge : goal.invariant-loop-edge
invariant-loop-edge l = record {
  all : AllWithin (StandsIn l.edges.items l.from) l.listing 0 l.edge-index;
  kept : (a b : ℕ) (q : Right) → Holds (label_in l.fn.edges.items) a q b → Holds (label_in l.edges.items) a q b;
  only : (label : ℕ → ℕ → RightSet) → All (λ (edge : ℕ × RightSet). edge.1 ≡ label l.from edge.0) l.listing → AreAmong l.fn.edges.items label → AreAmong l.edges.items label;
}

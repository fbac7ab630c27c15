use Rattle.std.proofs.Common.{ℕ, ◌<◌}
use Rattle.tg_rights.specs.declared.Right.{Right}
use Rattle.tg_model.specs.Plain.{graph_of}
use Rattle.tg_model.specs.Opened.{label_in}
use Rattle.tg_model.specs.Picture.{Holds, AreAmong}
use Rattle.tg_model.proofs.graph.picture.edges_of.Given as goal

-- the rights of all vertices before this one are in the list, and no others
abbrev pub invariant-loop-from : goal.invariant-loop-from
invariant-loop-from l = record {
  all : (a b : ℕ) (q : Right) → a < l.from → Holds (graph_of l.graph).label a q b → Holds (label_in l.edges.items) a q b;
  only : AreAmong l.edges.items (graph_of l.graph).label;
}

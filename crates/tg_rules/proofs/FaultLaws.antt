-- For which vertices there is no room.
use Rattle.std.proofs.Common.{◌≡◌, ℕ, subst, ◌∙◌}
use Rattle.tg_graph.specs.Heap.{HeapState, name_of}
use Rattle.tg_rows.specs.Spots.{LacksCellsFor}
use Rattle.tg_rules.specs.declared.vertex.Vertex.{Vertex}
use Rattle.tg_rules.specs.Verdict.{HasVertex}

-- the vertices at two places are those with these names
pub lacks_by_name : (s : HeapState) (space x y : ℕ) (from to : Vertex) → HasVertex s from → HasVertex s to → from.name ≡ x → to.name ≡ y →
    LacksCellsFor s.table space 0 (name_of s from.place) (name_of s to.place) → LacksCellsFor s.table space 0 x y
lacks_by_name s space x y from to there target named target_named lacks =
    subst (λ n. LacksCellsFor s.table space 0 x n) (target.named ∙ target_named)
    (subst (λ n. LacksCellsFor s.table space 0 n (name_of s to.place)) (there.named ∙ named) lacks)

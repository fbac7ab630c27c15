-- Which rows have an index after a command that adds an edge.
use Rattle.std.proofs.Common.{◌≡◌, ◌⊎◌, inl, inr, ℕ, subst, sym}
use Rattle.tg_rights.specs.RightSet.{RightSet}
use Rattle.tg_model.specs.declared.command.Command.{Command}
use Rattle.tg_model.specs.declared.command.Command.TheVariants.{Take, Grant}
use Rattle.tg_graph.specs.Heap.{HeapState, KeepsIndexes}
use Rattle.tg_rows.specs.Rows.{IsVertexAt}
use Rattle.tg_rules.specs.Effect.{AddsEdge, IndexesAfter}
use Rattle.tg_rules.specs.Parties.{AreParties, owner_of_row}
use Rattle.tg_rules.specs.declared.vertex.Parties.{Parties}

-- a take or a grant does
pub adds_edge : (command : Command) (rights : RightSet) → ((x : ℕ) × (y : ℕ) × (command ≡ Take rights x y)) ⊎ ((x : ℕ) × (y : ℕ) × (command ≡ Grant rights x y)) → AddsEdge command
adds_edge command rights (inl is) = subst AddsEdge (sym is.2) tt
adds_edge command rights (inr is) = subst AddsEdge (sym is.2) tt

pub indexes_added : (old new : HeapState) (x : ℕ) (command : Command) (p : Parties) → AddsEdge command → AreParties old x command p → KeepsIndexes old new p.from.place → IndexesAfter old new x command
indexes_added old new x command p adds parties keeps =
    let at : IsVertexAt old.table.spaces (owner_of_row x command) p.from.place = subst (λ (name : ℕ). IsVertexAt old.table.spaces name p.from.place) parties.from_name parties.from in
    record { added = λ given. (p.from.place, at, keeps); others = λ none. absurd (none adds) }

-- How a worker leaves: the entries by which it does, and the graph that it has left.
use Rattle.std.specs.Prelude.{◌≡◌, ℕ, ◌==◌, List, [], ◌∷◌, ◌++◌, map, if◌then◌else◌}
use Rattle.tg_rights.specs.RightSet.{RightSet, no_rights}
use Rattle.tg_model.specs.declared.command.Command.TheVariants.{Remove, Retire}
use Rattle.tg_model.specs.declared.command.Deed.TheVariants.{Plain}
use Rattle.tg_model.specs.declared.reply.Reply.TheVariants.{Done}
use Rattle.tg_model.specs.Graph.{ProtectionGraph, listing_of, without_subject}
use Rattle.tg_model.specs.Rules.{step}
use Rattle.tg_journal.specs.declared.entry.Entry.{Entry}
use Rattle.tg_journal.specs.History.{graph_after}
use Rattle.tg_store.specs.Store.{StoreState, graph_of_store}

-- x gives up an edge
abbrev pub removal : ℕ → ℕ × RightSet → Entry
removal x edge = record { worker = x; deed = Plain (Remove edge.1 edge.0); reply = Done }

-- x retires
abbrev pub retiring : ℕ → Entry
retiring x = record { worker = x; deed = Plain Retire; reply = Done }

-- x leaves: it gives up each of its edges, by rising name, and retires
abbrev pub leaving : ProtectionGraph → ℕ → List Entry
leaving g x = map (removal x) (listing_of g.label g.made x) ++ retiring x ∷ []

-- the graph after x has given up the edges of this row, and retired
abbrev pub graph_after_leave : ProtectionGraph → ℕ → List (ℕ × RightSet) → ProtectionGraph
graph_after_leave g x row = step (graph_after g (map (removal x) row)) x (Plain Retire)

-- the graph that x has left: it holds nothing, and is no subject
abbrev pub left_by : ProtectionGraph → ℕ → ProtectionGraph
left_by g x = record g { subjects = without_subject g.subjects x; label = λ a b. if a == x then no_rights else g.label a b }

-- The worker has left the store: exactly these entries were added, and the store represents the graph that it has left.
pub record HasLeft (worker : ℕ) (old new : StoreState) : Type 0 where
  pub entries : new.entries ≡ old.entries ++ leaving (graph_of_store old) worker
  pub graph : graph_of_store new ≡ left_by (graph_of_store old) worker
  pub opening : new.opening ≡ old.opening
  pub handed : new.handed ≡ old.handed
  pub limits : new.heap.table.limits ≡ old.heap.table.limits
  pub collections : new.collections ≡ old.collections

-- What a store has once a vertex was made, and what is told at a limit.
use Rattle.std.specs.Prelude.{◌≡◌, ◌⊎◌, ◌<◌, ◌≤◌, ℕ, Option, Some, None, length}
use Rattle.tg_rights.specs.RightSet.{RightSet}
use Rattle.tg_model.specs.declared.reply.Reply.{Reply}
use Rattle.tg_model.specs.declared.reply.Reply.TheVariants.{VerticesFull, WorkersFull}
use Rattle.tg_model.specs.declared.value.Value.{Value}
use Rattle.tg_model.specs.declared.opening.TheConstants.{MAX_WORKERS}
use Rattle.tg_model.specs.Graph.{ProtectionGraph, with_rights}
use Rattle.tg_model.specs.Rules.{with_value}
use Rattle.tg_rows.specs.Content.{Content, IsContent, IsNamed}
use Rattle.tg_store.specs.declared.fault.CreateFault.{CreateFault}
use Rattle.tg_store.specs.declared.fault.CreateFault.TheVariants as fault
use Rattle.tg_model.specs.declared.making.Making.{Making}
use Rattle.tg_model.specs.declared.making.Making.TheVariants.{Subject}
use Rattle.tg_store.specs.declared.making.Limit.{Limit}
use Rattle.tg_store.specs.declared.making.Limit.TheVariants.{Vertices, Subjects}

-- the content has a new vertex with a name, over which x has the rights of the label
abbrev pub IsCreated : Content → Content → ℕ → ℕ → RightSet → Value → Type 0
IsCreated old new x name label value = IsContent new (λ y. IsNamed old y ⊎ (y ≡ name)) (with_rights old.label x name label) (with_value old.value name value)

-- what the graph answers at a limit
abbrev pub reply_at : Limit → Reply
reply_at Vertices = VerticesFull
reply_at Subjects = WorkersFull

-- what the worker that asks gets of it
abbrev pub fault_at : Limit → CreateFault
fault_at Vertices = fault.VerticesFull
fault_at Subjects = fault.WorkersFull

-- The first limit on a graph that is in the way of one more vertex of a kind: that of vertices, and then for a subject that of
-- subjects; or none does.
abbrev pub IsLimitMet : ProtectionGraph → Making → Option Limit → Type 0
IsLimitMet g kind None = (g.made < g.limit) × (kind ≡ Subject → length g.subjects < MAX_WORKERS)
IsLimitMet g kind (Some Vertices) = g.limit ≤ g.made
IsLimitMet g kind (Some Subjects) = (kind ≡ Subject) × (g.made < g.limit) × (MAX_WORKERS ≤ length g.subjects)

-- When a heap's content represents a graph, and what a collection may drop.
use Rattle.std.specs.Prelude.{◌≡◌, ◌↔◌, ℕ, ◌<◌, List}
use Rattle.std.specs.List.{Contains}
use Rattle.tg_model.specs.Graph.{ProtectionGraph, HasEdge, IsReachable}
use Rattle.tg_model.specs.Walks.{Walk}
use Rattle.tg_space.specs.declared.kind.Kind.{Kind}
use Rattle.tg_space.specs.declared.kind.Kind.TheVariants.{Full, Nursery}
use Rattle.tg_rows.specs.Content.{Content, IsNamed}

-- The content has all that can be reached, it has what its vertices have edges to, and on the names that it has it is the graph.
pub record IsContentOf (c : Content) (g : ProtectionGraph) : Type 0 where
  pub made : (x : ℕ) → IsNamed c x → x < g.made
  pub reachable : (x : ℕ) → IsReachable g x → IsNamed c x
  pub closed : (x y : ℕ) → IsNamed c x → HasEdge g.label x y → IsNamed c y
  pub labels : (x y : ℕ) → IsNamed c x → c.label x y ≡ g.label x y
  pub values : (x : ℕ) → IsNamed c x → c.value x ≡ g.value x

-- walks along the content's edges lead to the name from one of these names of subjects
abbrev pub IsReached : Content → List ℕ → ℕ → Type 0
IsReached c subjects = Walk (Contains subjects) (HasEdge c.label)

-- The new content is the old one with these names alone, and what it has edges to is among them.
pub record KeepsContent (old new : Content) (kept : ℕ → Type 0) : Type 0 where
  pub names : (x : ℕ) → IsNamed new x ↔ (IsNamed old x × kept x)
  pub closed : (x y : ℕ) → IsNamed new x → HasEdge old.label x y → IsNamed new y
  pub labels : (x y : ℕ) → IsNamed new x → new.label x y ≡ old.label x y
  pub values : (x : ℕ) → IsNamed new x → new.value x ≡ old.value x

-- What a collection of a kind keeps: a full one exactly what is reached from the subjects with these names, a nursery
-- collection all that is reached, and maybe more.
abbrev pub KeepsReached : Kind → Content → Content → List ℕ → Type 0
KeepsReached Full old new subjects = KeepsContent old new (IsReached old subjects)
KeepsReached Nursery old new subjects = KeepsContent old new (IsNamed new) × ((x : ℕ) → IsReached old subjects x → IsNamed new x)

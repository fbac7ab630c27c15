-- What an audit keeps of a graph: some of its vertices by rising name, each with its row of edges and what it stores.
use Rattle.std.specs.Prelude.{◌≡◌, Bool, ℕ, ◌<◌, ◌≤◌, ◌+◌, ◌==◌, List, [], ◌∷◌, length, slice_index_or, Option, None, if◌then◌else◌}
use Rattle.tg_rights.specs.RightSet.{RightSet, no_rights}
use Rattle.tg_model.specs.declared.value.Value.{Value}
use Rattle.tg_model.specs.Graph.{ProtectionGraph, IsReachable}
use Rattle.tg_model.specs.Plain.{rights_in_row}
use Rattle.tg_journal.specs.declared.vertices.Vertex.{Vertex}

-- what the vertex of the name x gives; none where there is none
abbrev pub at_name : {X : Type 0} → (Vertex → X) → X → List Vertex → ℕ → X
at_name of none [] x = none
at_name of none (v ∷ vs) x = if x == v.name then of v else at_name of none vs x

-- the rights of x over y
abbrev pub label_between : List Vertex → ℕ → ℕ → RightSet
label_between vs x y = at_name (λ v. rights_in_row v.row y) no_rights vs x

-- what y stores
abbrev pub value_of : List Vertex → ℕ → Option Value
value_of = at_name (λ v. v.value) None

-- the names strictly rise, from n on at the least
abbrev pub NamesFrom : ℕ → List Vertex → Type 0
NamesFrom n [] = Unit {0}
NamesFrom n (v ∷ vs) = (n ≤ v.name) × NamesFrom (v.name + 1) vs

abbrev pub vertex_name_at : List Vertex → ℕ → ℕ
vertex_name_at vs i = (slice_index_or vs i (record { name = 0; row = []; value = None })).name

-- the vertex of the name x is at place i
pub record HasVertexAt (vs : List Vertex) (x i : ℕ) : Type 0 where
  pub inside : i < length vs
  pub name : vertex_name_at vs i ≡ x

-- it would go there: smaller names are before that place, and greater ones from it on
pub record IsGap (vs : List Vertex) (x i : ℕ) : Type 0 where
  pub inside : i ≤ length vs
  pub smaller : (j : ℕ) → j < i → vertex_name_at vs j < x
  pub greater : (j : ℕ) → i ≤ j → j < length vs → x < vertex_name_at vs j

-- what an audit keeps
pub record KeptGraph : Type 0 where
  pub subjects : List ℕ
  pub made : ℕ
  pub limit : ℕ
  pub vertices : List Vertex

abbrev pub graph_kept : KeptGraph → ProtectionGraph
graph_kept k =
    record { subjects = k.subjects; made = k.made; limit = k.limit; label = label_between k.vertices; value = value_of k.vertices }

-- what contracts see of an auditor: what it keeps, how many entries passed, and whether it found the next one bad
pub record AuditState : Type 0 where
  pub kept : KeptGraph
  pub at : ℕ
  pub found_bad : Bool

-- where memory ran out for a deed: as before, but for what names store that weren't made yet
pub record IsSameGraph (old new : ProtectionGraph) : Type 0 where
  pub subjects : new.subjects ≡ old.subjects
  pub made : new.made ≡ old.made
  pub limit : new.limit ≡ old.limit
  pub label : new.label ≡ old.label
  pub value : (y : ℕ) → y < old.made → new.value y ≡ old.value y

-- all that a subject reaches is as it was, and nothing else is left
pub record IsSweptGraph (old new : ProtectionGraph) : Type 0 where
  pub subjects : new.subjects ≡ old.subjects
  pub made : new.made ≡ old.made
  pub limit : new.limit ≡ old.limit
  pub label : (x y : ℕ) → IsReachable old x → new.label x y ≡ old.label x y
  pub value : (y : ℕ) → IsReachable old y → new.value y ≡ old.value y
  pub no_label : (x y : ℕ) → ¬ IsReachable old x → new.label x y ≡ no_rights
  pub no_value : (y : ℕ) → ¬ IsReachable old y → new.value y ≡ None

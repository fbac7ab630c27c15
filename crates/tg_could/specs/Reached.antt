-- What the active subjects of a graph reach, pictures of that part alone, and what they say of the whole graph.
use Rattle.std.specs.Prelude.{◌≡◌, ◌≢◌, ◌↔◌, ◌⊎◌, ℕ, ◌<◌, ◌≤◌, List}
use Rattle.std.specs.List.{All, Contains}
use Rattle.tg_rights.specs.RightSet.{union}
use Rattle.tg_rights.specs.declared.Right.{Right}
use Rattle.tg_model.specs.declared.edge.Edge.{Edge}
use Rattle.tg_model.specs.Graph.{ProtectionGraph, HasEdge, IsReachable, IsSound}
use Rattle.tg_model.specs.Opened.{label_in}
use Rattle.tg_model.specs.Picture.{Shown}
use Rattle.tg_could.specs.Turns.{Turn, AreTurns, LeadThere, NeverHolds, after}
use Rattle.tg_could.specs.Answered.{IsAnswer}
use Rattle.tg_could.specs.declared.question.Question.{Question}
use Rattle.tg_could.specs.declared.question.Scene.{Scene}
use Rattle.tg_could.specs.declared.reached.ReachedAnswer.{ReachedAnswer}
use Rattle.tg_could.specs.declared.reached.ReachedAnswer.TheVariants.{Unreached, Of}

-- an edge of one whom an active subject reaches, with all of its rights
pub record IsReachedEdge (g : ProtectionGraph) (edge : Edge) : Type 0 where
  pub from : IsReachable g edge.from
  pub there : HasEdge g.label edge.from edge.to
  pub label : edge.label ≡ g.label edge.from edge.to

-- It is a picture of what the active subjects of the graph reach: it shows exactly the edges of those who are reached.
pub record IsReachedPicture (p : Shown) (g : ProtectionGraph) : Type 0 where
  pub subjects : g.subjects ≡ p.subjects
  pub made : g.made ≡ p.made
  pub limit : g.limit ≡ p.limit
  pub edges : (edge : Edge) → Contains p.edges edge ↔ IsReachedEdge g edge

-- an edge of the list leads to x
pub record IsLedTo (edges : List Edge) (x : ℕ) : Type 0 where
  pub edge : Edge
  pub there : Contains edges edge
  pub leads : edge.to ≡ x

-- the active subjects reach the same part of both graphs
pub record HaveSameReach (g h : ProtectionGraph) : Type 0 where
  pub subjects : h.subjects ≡ g.subjects
  pub made : h.made ≡ g.made
  pub limit : h.limit ≡ g.limit
  pub labels : (a b : ℕ) → IsReachable g a → h.label a b ≡ g.label a b

-- x holds what it holds: after no turns of anybody is a label at x another
abbrev pub HoldsWhatItHolds : ProtectionGraph → ℕ → Type 0
HoldsWhatItHolds g x = (turns : List Turn) → AreTurns (λ p. ⊥) g turns → (y : ℕ) → (after g turns).label x y ≡ g.label x y

-- an active subject reaches x, or it isn't made yet
abbrev pub IsKnown : ProtectionGraph → ℕ → Type 0
IsKnown g x = IsReachable g x ⊎ (g.made ≤ x)

-- the graph with the labels that a picture shows
abbrev pub as_shown : Shown → ProtectionGraph → ProtectionGraph
as_shown p g = record g { label = label_in p.edges }

-- the graph is sound, the picture is of its reached part, and x is one of whom the picture shows all
pub record ShowsAllOf (p : Shown) (g : ProtectionGraph) (x : ℕ) : Type 0 where
  pub sound : IsSound g
  pub picture : IsReachedPicture p g
  pub known : IsKnown g x

-- what x never holds on one graph, it never holds on the other
abbrev pub NeverHoldsAlso : List ℕ → ProtectionGraph → ProtectionGraph → ℕ → Right → ℕ → Type 0
NeverHoldsAlso silent g h x right y = NeverHolds silent g x right y → NeverHolds silent h x right y

-- the turns that lead there on one graph lead there on the other
abbrev pub LeadThereAlso : List ℕ → ProtectionGraph → ProtectionGraph → ℕ → Right → ℕ → Type 0
LeadThereAlso silent g h x right y = (turns : List Turn) → LeadThere silent g turns x right y → LeadThere silent h turns x right y

-- What is reported of a graph. `Unreached`: x was made, no active subject reaches it, and it holds what it holds. Else the
-- answer.
abbrev pub IsToldOf : List ℕ → ProtectionGraph → ℕ → Right → ℕ → ReachedAnswer → Type 0
IsToldOf silent g x right y Unreached = (x < g.made) × (¬ IsReachable g x) × HoldsWhatItHolds g x
IsToldOf silent g x right y (Of answer) = (IsReachable g x ⊎ (g.made ≤ x)) × IsAnswer silent g x right y answer

-- it holds of each sound graph of whose reached part the scene has the picture
abbrev pub OnReached : Scene → (ProtectionGraph → Type 0) → Type 0
OnReached scene holds = (g : ProtectionGraph) → IsSound g → IsReachedPicture scene.picture.now g → holds g

-- what is reported of the question is so of the graph
abbrev pub ReachedAnswerOf : Scene → Question → ReachedAnswer → ProtectionGraph → Type 0
ReachedAnswerOf scene q told g = IsToldOf scene.silent.now g q.x q.right q.y told

-- ---- edges that are supposed

-- the graph where these edges are there too
abbrev pub with_edges : ProtectionGraph → List Edge → ProtectionGraph
with_edges g edges = record g { label = λ a b. union (g.label a b) (label_in edges a b) }

-- both ends of the edge are among so many vertices
abbrev pub JoinsMade : ℕ → Edge → Type 0
JoinsMade made edge = (edge.from < made) × (edge.to < made)

-- an edge joins two different vertices, each of which an active subject reaches
pub record JoinsReached (g : ProtectionGraph) (edge : Edge) : Type 0 where
  pub from : IsReachable g edge.from
  pub to : IsReachable g edge.to
  pub differ : edge.from ≢ edge.to

abbrev pub JoinReached : ProtectionGraph → List Edge → Type 0
JoinReached g edges = All (JoinsReached g) edges

-- The calls of C on a view. It is opened on the vertices that the workers of a store reach, and answers each question as of then.
use Rattle.std.specs.Prelude.{◌≡◌, ◌≢◌, ◌↔◌, ◌⊎◌, ℕ, ◌<◌, ◌≤◌, nat_eq, Bool, true, false, List, [], ◌∷◌, Option, Some, None, IfSome, Result, Ok, Err, IfOk, IfErr, if◌then◌else◌, map}
use Rattle.std.specs.Option.{IsSome}
use Rattle.std.specs.List.{All, Contains, list_any}
use Rattle.indexmap.specs.IndexSet.{contains}
use Rattle.tg_rights.specs.declared.Right.{Right}
use Rattle.tg_rights.specs.RightSet.{right_of_bit}
use Rattle.tg_model.specs.declared.edge.Edge.{Edge}
use Rattle.tg_model.specs.Graph.{ProtectionGraph, IsReachable, IsSound}
use Rattle.tg_model.specs.Picture.{Shown, IsPictureOf}
use Rattle.tg_could.specs.Turns.{NeverHolds}
use Rattle.tg_could.specs.Reached.{HoldsWhatItHolds, IsLedTo, JoinReached, JoinsReached, with_edges}
use Rattle.tg_could.specs.View.{IsViewOf}
use Rattle.tg_store.specs.Store.{StandsFor}
use Rattle.tg_c.specs.declared.forms.EdgeIn.{EdgeIn}
use Rattle.tg_c.specs.declared.place.StorePlace.{StorePlace}
use Rattle.tg_c.specs.declared.refusal.CallRefusal.{CallRefusal}
use Rattle.tg_c.specs.declared.refusal.CallRefusal.TheVariants as refusal
use Rattle.tg_c.specs.declared.view.place.ViewPlace.{ViewPlace}
use Rattle.tg_c.specs.declared.view.sight.Glimpse.{Glimpse}
use Rattle.tg_c.specs.declared.view.sight.Glimpse.TheVariants.{Never, Unreached, Perhaps}
use Rattle.tg_c.specs.declared.view.sight.ReachedView.{ReachedView}
use Rattle.tg_c.specs.declared.view.sight.Sight.{Sight}
use Rattle.tg_c.specs.Calls.{AreMet, Demand, IsFirstUnmet, IsMemoryOr, IsStatusWhere, demand, state_in}
use Rattle.tg_c.specs.Could.{AreActive, IsRefusedOn, asked_of_places}
use Rattle.tg_c.specs.Forms.{HaveLabels, edge_in, label_at}

-- ---- the vertices that a view shows

-- a picture shows the vertex with a name, if it is an active subject, or an edge leads to it
abbrev pub IsShownIn : Shown → ℕ → Type 0
IsShownIn p x = Contains p.subjects x ⊎ IsLedTo p.edges x

-- these are exactly the names of the vertices that a picture shows
abbrev pub AreShown : Shown → List ℕ → Type 0
AreShown p names = (x : ℕ) → (list_any (nat_eq x) names ≡ true) ↔ IsShownIn p x

-- whether a name is the name of a vertex that was seen to be reached. There is none if no subject is active
abbrev pub is_seen : Option ReachedView → ℕ → Bool
is_seen None x = false
is_seen (Some seen) x = contains nat_eq seen.reached x

-- A view of a graph on which these subjects are silent. It is a view of a picture. Take an x that is reached or isn't made yet. A
-- right of x that never comes about with the labels of the picture never comes about on the graph. The same is so with more edges,
-- each between two vertices that are reached. There is no picture if no subject is active. The view has exactly the names of the
-- vertices that are reached.
pub record IsSightOf (silent : List ℕ) (g : ProtectionGraph) (sight : Sight) : Type 0 where
  pub sound : IsSound g
  pub shown : Shown
  pub other : ProtectionGraph
  pub view : IfSome sight.seen (λ seen. IsViewOf silent shown seen.view)
  pub nobody : sight.seen ≡ None → g.subjects ≡ []
  pub picture : IsPictureOf shown other
  pub back : (x : ℕ) (right : Right) (y : ℕ) → IsReachable g x ⊎ (g.made ≤ x) → NeverHolds silent other x right y → NeverHolds silent g x right y
  pub back_with : (edges : List Edge) → JoinReached g edges → (x : ℕ) (right : Right) (y : ℕ) → IsReachable g x ⊎ (g.made ≤ x)
      → NeverHolds silent (with_edges other edges) x right y → NeverHolds silent (with_edges g edges) x right y
  pub made : sight.made ≡ g.made
  pub reached : (x : ℕ) → (is_seen sight.seen x ≡ true) ↔ IsReachable g x

-- an edge joins two different vertices that were seen to be reached
pub record JoinsSeen (seen : Option ReachedView) (edge : Edge) : Type 0 where
  pub from : is_seen seen edge.from ≡ true
  pub to : is_seen seen edge.to ≡ true
  pub differ : edge.from ≢ edge.to

-- The report on a question on a graph. `Never` says that x never holds the right over y. `Unreached` says that x was made, that no
-- active subject reaches it, and that its rights stay as they are. `Perhaps` says nothing of a right.
abbrev pub IsGlimpse : List ℕ → ProtectionGraph → ℕ → Right → ℕ → Glimpse → Type 0
IsGlimpse silent g x right y Never = (IsReachable g x ⊎ (g.made ≤ x)) × NeverHolds silent g x right y
IsGlimpse silent g x right y Unreached = (x < g.made) × (¬ IsReachable g x) × HoldsWhatItHolds g x
IsGlimpse silent g x right y Perhaps = IsReachable g x ⊎ (g.made ≤ x)

-- the kinds of an answer that a view has, and one of its own
abbrev pub kind_seen : Glimpse → ℕ
kind_seen Never = 0
kind_seen Unreached = 4
kind_seen Perhaps = 6

-- ---- the opening

-- A view of the graph with the supposed edges. All silent subjects are active subjects, and each edge joins two vertices that are
-- reached.
pub record IsSeenOn (g : ProtectionGraph) (silent : List ℕ) (as_if : List EdgeIn) (sight : Sight) : Type 0 where
  pub active : AreActive g silent
  pub joined : JoinReached g (map edge_in as_if)
  pub sight_of : IsSightOf silent (with_edges g (map edge_in as_if)) sight

-- the view of a store in its place, whether the view's place was open or not
pub record IsSeen (place : StorePlace) (is_open : Bool) (silent : List ℕ) (as_if : List EdgeIn) (sight : Sight) : Type 0 where
  pub met : AreMet (asked_of_places place is_open as_if)
  pub seen_on : (g : ProtectionGraph) → StandsFor (state_in place) g → IsSeenOn g silent as_if sight

-- Why no view is opened. Either a demand isn't met, and the first one is the reason. Or all are met, and the reason is the store's
-- graph or lack of memory.
abbrev pub IsRefusedView : StorePlace → Bool → List ℕ → List EdgeIn → CallRefusal → Type 0
IsRefusedView place is_open silent as_if why =
    IsFirstUnmet (asked_of_places place is_open as_if) why
    ⊎ (AreMet (asked_of_places place is_open as_if) × ((g : ProtectionGraph) → StandsFor (state_in place) g → IsRefusedOn g silent as_if why))

-- The opening of a view. The store is as it was. If the opening is refused, the view's place is as it was too.
pub record OpensView (old new : StorePlace) (silent : List ℕ) (as_if : List EdgeIn) (before after : ViewPlace) (status : ℕ) : Type 0 where
  pub stays : new.is_open ≡ old.is_open
  pub same : old.is_open ≡ true → state_in new ≡ state_in old
  pub seen : status ≡ 0 → (after.is_open ≡ true) × IsSeen old before.is_open silent as_if after.handle.opened
  pub refused : status ≢ 0 → IsStatusWhere (IsRefusedView old before.is_open silent as_if) status
  pub kept : status ≢ 0 → after ≡ before

-- ---- a question

-- an open view reports this answer to a question, on each graph of which it is a view
pub record TellsGlimpse (sight : Sight) (x : ℕ) (right : Right) (y : ℕ) (tells : Result ℕ CallRefusal → Type 0) : Type 0 where
  pub glimpse : Glimpse
  pub told : tells (Ok (kind_seen glimpse))
  pub is : (silent : List ℕ) (g : ProtectionGraph) → IsSightOf silent g sight → IsGlimpse silent g x right y glimpse

-- A question to a view in its place, about the right of these bits. It is refused if the bits are not the bit of one right, and
-- else if the place is closed. An open view is as it was.
pub record Glances (old new : ViewPlace) (x bits y : ℕ) (tells : Result ℕ CallRefusal → Type 0) : Type 0 where
  pub bad_rights : right_of_bit bits ≡ None → tells (Err refusal.BadRights) × (new ≡ old)
  pub not_open : (right : Right) → right_of_bit bits ≡ Some right → old.is_open ≡ false → tells (Err refusal.NotOpen) × (new.is_open ≡ false)
  pub told : (right : Right) → right_of_bit bits ≡ Some right → old.is_open ≡ true →
      TellsGlimpse old.handle.opened x right y tells × (new.is_open ≡ true) × (new.handle.opened ≡ old.handle.opened)

-- ---- a question with supposed edges

-- the report on a question on each graph with these edges too of which it is a view
abbrev pub IsGlimpseAsIf : Sight → List Edge → ℕ → Right → ℕ → Glimpse → Type 0
IsGlimpseAsIf sight edges x right y glimpse = (silent : List ℕ) (g : ProtectionGraph) → IsSightOf silent g sight →
    JoinReached g edges × IsGlimpse silent (with_edges g edges) x right y glimpse

-- Why there is no report: memory ran out, or an edge doesn't join two different vertices that are reached.
abbrev pub IsNoGlimpse : Sight → List Edge → CallRefusal → Type 0
IsNoGlimpse sight edges why = (silent : List ℕ) (g : ProtectionGraph) → IsSightOf silent g sight → IsMemoryOr refusal.BadEdge (¬ JoinReached g edges) why

-- the demands of a question with supposed edges, in the order in which they are checked, before the view is asked
abbrev pub asked_of_view : ViewPlace → List EdgeIn → ℕ → List Demand
asked_of_view place as_if bits =
    demand (IsSome (right_of_bit bits)) refusal.BadRights
    ∷ demand (HaveLabels as_if) refusal.BadRights
    ∷ demand (place.is_open ≡ true) refusal.NotOpen
    ∷ []

-- the report of a view in its place, as if these edges were there too
pub record IsSeenAsIf (place : ViewPlace) (as_if : List EdgeIn) (x bits y : ℕ) (glimpse : Glimpse) : Type 0 where
  pub met : AreMet (asked_of_view place as_if bits)
  pub glimpse_of : (right : Right) → right_of_bit bits ≡ Some right → IsGlimpseAsIf place.handle.opened (map edge_in as_if) x right y glimpse

-- Why there is none. Either a demand isn't met, and the first one is the reason. Or all are met, and the reason is an edge or lack of
-- memory.
abbrev pub IsRefusedAsIf : ViewPlace → List EdgeIn → ℕ → CallRefusal → Type 0
IsRefusedAsIf place as_if bits why =
    IsFirstUnmet (asked_of_view place as_if bits) why
    ⊎ (AreMet (asked_of_view place as_if bits) × IsNoGlimpse place.handle.opened (map edge_in as_if) why)

-- the view is as it was, in its place or not
pub record KeepsView (old new : ViewPlace) : Type 0 where
  pub stays : new.is_open ≡ old.is_open
  pub same : old.is_open ≡ true → new.handle.opened ≡ old.handle.opened

-- A question to a view in its place, as if these edges were there too. The view is as it was.
pub record GlancesAsIf (old new : ViewPlace) (as_if : List EdgeIn) (x bits y : ℕ) (before after : ℕ) (status : ℕ) : Type 0 where
  pub stays : new.is_open ≡ old.is_open
  pub same : old.is_open ≡ true → new.handle.opened ≡ old.handle.opened
  pub told : status ≡ 0 → (glimpse : Glimpse) × IsSeenAsIf old as_if x bits y glimpse × (after ≡ kind_seen glimpse)
  pub refused : status ≢ 0 → IsStatusWhere (IsRefusedAsIf old as_if bits) status
  pub kept : status ≢ 0 → after ≡ before

-- ---- an edge that a view follows

-- On each graph of which the view was one, the edge joins two different vertices that are reached. The view is then one of the graph
-- with the edge, if it was followed, and still one of the same graph otherwise.
abbrev pub SightFollows : Sight → Edge → Sight → Bool → Type 0
SightFollows old edge new true = (silent : List ℕ) (g : ProtectionGraph) → IsSightOf silent g old → JoinsReached g edge × IsSightOf silent (with_edges g (edge ∷ [])) new
SightFollows old edge new false = (silent : List ℕ) (g : ProtectionGraph) → IsSightOf silent g old → JoinsReached g edge × IsSightOf silent g new

-- Why it wasn't followed: memory ran out, or it doesn't join two different vertices that are reached. The view is one of the same graph.
abbrev pub IsNotFollowed : Sight → Edge → Sight → CallRefusal → Type 0
IsNotFollowed old edge new why = (silent : List ℕ) (g : ProtectionGraph) → IsSightOf silent g old → IsMemoryOr refusal.BadEdge (¬ JoinsReached g edge) why × IsSightOf silent g new

-- the demands on an edge that a view is to follow, in the order in which they are checked
abbrev pub asked_to_follow : ViewPlace → EdgeIn → List Demand
asked_to_follow place edge = demand (IsSome (label_at edge.rights)) refusal.BadRights ∷ demand (place.is_open ≡ true) refusal.NotOpen ∷ []

-- the view in its place follows the edge or not
pub record IsFollowedIn (old : ViewPlace) (edge : EdgeIn) (new : ViewPlace) (followed : Bool) : Type 0 where
  pub met : AreMet (asked_to_follow old edge)
  pub view : SightFollows old.handle.opened (edge_in edge) new.handle.opened followed

-- Why it isn't. Either a demand isn't met, the first one is the reason, and the view is as it was. Or all are met, and the reason is the
-- edge or lack of memory.
abbrev pub IsNotFollowedIn : ViewPlace → EdgeIn → ViewPlace → CallRefusal → Type 0
IsNotFollowedIn old edge new why =
    (IsFirstUnmet (asked_to_follow old edge) why × (old.is_open ≡ true → new.handle.opened ≡ old.handle.opened))
    ⊎ (AreMet (asked_to_follow old edge) × IsNotFollowed old.handle.opened (edge_in edge) new.handle.opened why)

-- A view that is to follow an edge.
pub record FollowsInPlace (old new : ViewPlace) (edge : EdgeIn) (before after : ℕ) (status : ℕ) : Type 0 where
  pub stays : new.is_open ≡ old.is_open
  pub told : status ≡ 0 → (followed : Bool) × IsFollowedIn old edge new followed × (after ≡ (if followed then 1 else 0))
  pub refused : status ≢ 0 → IsStatusWhere (IsNotFollowedIn old edge new) status
  pub kept : status ≢ 0 → after ≡ before

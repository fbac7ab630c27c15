-- Questions of C: what was looked at first, and what the store's graph said then.
use Rattle.std.proofs.Common.{◌≡◌, ◌∙◌, ℕ, Bool, true, false, List, Some, Result, Err, map, inr, sym, subst, ap, is_some}
use Rattle.tg_rights.specs.RightSet.{right_of_bit}
use Rattle.tg_rights.specs.declared.Right.{Right}
use Rattle.tg_model.specs.declared.edge.Edge.{Edge}
use Rattle.tg_model.specs.Graph.{ProtectionGraph}
use Rattle.tg_store.specs.Store.{StoreState, graph_of_store}
use Rattle.tg_c.specs.declared.forms.EdgeIn.{EdgeIn}
use Rattle.tg_c.specs.declared.place.StorePlace.{StorePlace}
use Rattle.tg_c.specs.declared.refusal.CallRefusal.{CallRefusal}
use Rattle.tg_c.specs.declared.refusal.CallRefusal.TheVariants as refusal
use Rattle.tg_c.specs.Calls.{AreMet, IsMemoryOr, state_in}
use Rattle.tg_could.specs.Reached.{JoinReached}
use Rattle.tg_c.specs.Could.{AreActive, IsRefusedOn, IsRefusedQuestion, asked_first}
use Rattle.tg_c.specs.Forms.{HaveLabels, edge_in}
use Rattle.tg_c.specs.Inner.Stores.{IsAnsweredOn}

module _ (place : StorePlace) (is_open : Bool) (silent : List ℕ) (as_if : List EdgeIn) (right : ℕ) (r : Right) (is : right_of_bit right ≡ Some r) (labels : HaveLabels as_if)
    (closed : is_open ≡ false) (opened : place.is_open ≡ true) (s : StoreState) (same : s ≡ state_in place) where
  met_first : AreMet (asked_first place is_open as_if right)
  met_first = (ap is_some is, (labels, (closed, (opened, tt))))

  pub refused_first : (why : CallRefusal) → IsRefusedOn (graph_of_store s) silent as_if why → IsRefusedQuestion place is_open silent as_if right why
  refused_first why on = inr (met_first, λ g stands. subst (λ h. IsRefusedOn h silent as_if why) (ap graph_of_store same ∙ stands) on)

-- there is no answer, for lack of memory, or since an edge joins no two that are reached
pub not_answered : {T : Type 0} (g : ProtectionGraph) (silent : List ℕ) (as_if : List EdgeIn) (holds : T → Type 0) (r : Result T CallRefusal) (told why : CallRefusal) (es : List Edge)
    → r ≡ Err told → told ≡ why → es ≡ map edge_in as_if → AreActive g silent → IsMemoryOr refusal.BadEdge (¬ JoinReached g es) why → IsAnsweredOn g silent as_if holds r
not_answered g silent as_if holds r told why es is same edges active said =
    let no : IsMemoryOr refusal.BadEdge (¬ JoinReached g (map edge_in as_if)) why = subst (λ (l : List Edge). IsMemoryOr refusal.BadEdge (¬ JoinReached g l) why) edges said in
    subst (λ a. IsAnsweredOn g silent as_if holds a) (sym is) (record { told = tt; refused = subst (IsRefusedOn g silent as_if) (sym same) (inr (active, no)) })

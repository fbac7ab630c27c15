-- An opening whose demands are met can be refused for lack of memory alone.
use Rattle.std.proofs.Common.{◌≡◌, Bool, true, false, ◌≤◌, ◌<◌, inl, inr, ℕ, List, IfErr, Result, Err, refl, sym, subst, ap, ◌∙◌, length, map, slice_get, arith}
use Rattle.tg_model.specs.declared.edge.Edge.{Edge}
use Rattle.tg_model.specs.declared.value.Value.{Value}
use Rattle.tg_model.specs.declared.opening.OpeningFault.{OpeningFault}
use Rattle.tg_model.specs.declared.opening.TheConstants.{MAX_LASTING_VERTICES}
use Rattle.tg_model.specs.Opened.{IsFaultTo, Plan}
use Rattle.tg_store.specs.Faults.{IsFirstDifference}
use Rattle.tg_store.specs.declared.fault.OpenFault.{OpenFault}
use Rattle.tg_store.specs.declared.fault.OpenFault.TheVariants as opened
use Rattle.tg_c.specs.declared.refusal.CallRefusal.{CallRefusal}
use Rattle.tg_c.specs.declared.refusal.CallRefusal.TheVariants as refusal
use Rattle.tg_c.specs.declared.forms.EdgeIn.{EdgeIn}
use Rattle.tg_c.specs.declared.forms.LimitsIn.{LimitsIn}
use Rattle.tg_c.specs.declared.forms.ValueIn.{ValueIn}
use Rattle.tg_c.specs.Calls.{AreMet, IsRefusedFor, IsMemoryOr, demands_of}
use Rattle.tg_c.specs.Forms.{edge_in, plan_given, value_in}
use Rattle.tg_c.specs.Statuses.{of_open, status_of}
use Rattle.tg_c.proofs.PlanLaws.{no_fault, plan_is}

-- all demands are met, and this is lack of memory
pub wants : {X : Type 0} (workers : List ValueIn) (edges : List EdgeIn) (limits : LimitsIn) (r : Result X CallRefusal) (why : CallRefusal)
    → AreMet (demands_of workers edges limits) → r ≡ Err why → why ≡ refusal.OutOfMemory → IfErr r (IsRefusedFor workers edges limits)
wants workers edges limits r why met is want = subst (λ s. IfErr s (IsRefusedFor workers edges limits)) (sym is) (inr (met, want))

pub want_else : (fault why : CallRefusal) (says : Type 0) → ¬ says → IsMemoryOr fault says why → why ≡ refusal.OutOfMemory
want_else fault why says none (inl want) = want
want_else fault why says none (inr told) = absurd (none told.1)

-- a place that is open isn't closed
pub not_both : {is_open : Bool} → is_open ≡ true → is_open ≡ false → ⊥
not_both is is_not = cc (is, is_not)

pub not_done : (why : CallRefusal) → ¬ (status_of why ≡ 0)
not_done refusal.NotOpen is = omega (arith, is)
not_done why is = omega (arith, is)

pub no_plan_fault : (workers : List ValueIn) (edges : List EdgeIn) (limits : LimitsIn) (values : List Value) (list : List Edge) (why : OpeningFault)
    → AreMet (demands_of workers edges limits) → values ≡ map value_in workers → list ≡ map edge_in edges
    → IsFaultTo MAX_LASTING_VERTICES (record { workers = length workers; edges = list; values = values; limit = limits.max_vertices }) why → ⊥
no_plan_fault workers edges limits values list why met same_values same_edges says =
    no_fault (plan_given workers edges limits.max_vertices) why (plan_is workers edges limits met) (subst (λ (p : Plan). IsFaultTo MAX_LASTING_VERTICES p why)
    (ap (λ vs. record { workers = length workers; edges = list; values = vs; limit = limits.max_vertices }) same_values
    ∙ ap (λ es. record { workers = length workers; edges = es; values = map value_in workers; limit = limits.max_vertices }) same_edges) says)

pub store_wants : (values drafts : List Value) (blocks workers : ℕ) (why : OpenFault)
    → values ≡ drafts → workers ≤ blocks → ((at : ℕ) → why ≡ opened.PayloadMismatch at → IsFirstDifference values drafts at)
    → (why ≡ opened.HeapFull → blocks < workers) → of_open why ≡ refusal.OutOfMemory
store_wants values drafts blocks workers (opened.PayloadMismatch at) same room mismatch full = absurd ((mismatch at refl).here (ap (λ xs. slice_get xs at) same))
store_wants values drafts blocks workers opened.OutOfMemory same room mismatch full = refl
store_wants values drafts blocks workers opened.HeapFull same room mismatch full = absurd (omega (arith, full refl))

-- A subject that a spawn made, as the session that asked knows of it.
use Rattle.std.proofs.Common.{◌≡◌, ◌∙◌, ℕ, Bool, true, false, cond, nat_lt, List, [], ◌∷◌, ◌++◌, append-nil, length, ap, refl, subst, sym}
use Rattle.std.specs.List.{Contains}
use Rattle.std.proofs.lemmas.List.Elements.{Contains-push}
use Rattle.tg_rights.specs.RightSet.{RightSet}
use Rattle.tg_model.specs.declared.command.Deed.{Deed}
use Rattle.tg_model.specs.declared.command.Deed.TheVariants.{Spawn}
use Rattle.tg_model.specs.declared.law.Law.{Law}
use Rattle.tg_model.specs.declared.opening.TheConstants.{MAX_WORKERS}
use Rattle.tg_model.specs.declared.reply.Reply.{Reply}
use Rattle.tg_model.specs.declared.reply.Reply.TheVariants.{Name, VerticesFull, WorkersFull}
use Rattle.tg_model.specs.Graph.{ProtectionGraph, IsSubject}
use Rattle.tg_model.specs.Rules.{answer_of, step, with_subject}
use Rattle.tg_model.proofs.NameLaws.{name_is_next}
use Rattle.tg_journal.specs.declared.entry.Entry.{Entry}
use Rattle.tg_journal.specs.History.{graph_after}
use Rattle.tg_passes.specs.declared.signed.Maker.TheVariants.{Session}
use Rattle.tg_passes.specs.declared.signed.Signed.{Signed}
use Rattle.tg_passes.specs.Passes.{BeginsWith, sign}
use Rattle.tg_passes.proofs.Signing.{longer}
use Rattle.tg_store.specs.Origin.{start_at}
use Rattle.tg_store.specs.Store.{StoreState, graph_of_store}
use Rattle.tg_shared.specs.Laws.{HasNotLeft, IsSpawnedIn}
use Rattle.tg_shared.specs.Sessions.{IsAnswered, IsNobodyAtSeen, SessionState, SharedStart, graph_seen}
use Rattle.tg_shared.proofs.Knowing.{graph_front, graph_is, none_of, stays_made}

there : (b c : Bool) (g k : ProtectionGraph) (n name : ℕ) → IsSubject k name → cond b (cond c (Name n) WorkersFull) VerticesFull ≡ Name name → IsSubject (cond b (cond c k g) g) name
there true true g k n name here answer = here
there true false g k n name here answer = let no : ⊥ = cc in absurd no
there false c g k n name here answer = let no : ⊥ = cc in absurd no

-- who is named by a spawn is a subject after it
spawned_is : (g : ProtectionGraph) (x name : ℕ) (label : RightSet) (law : Law) (state : List ℕ) → answer_of g x (Spawn label law state) ≡ Name name → IsSubject (step g x (Spawn label law state)) name
spawned_is g x name label law state answer =
    let next : name ≡ g.made = (name_is_next g x (Spawn label law state) name answer).0 in
    let made : IsSubject (with_subject g x label (record { law = law; state = state })) name = subst (λ (n : ℕ). Contains (g.subjects ++ g.made ∷ []) n) (sym next) (Contains-push g.subjects g.made) in
    there (nat_lt g.made g.limit) (nat_lt (length g.subjects) MAX_WORKERS) g (with_subject g x label (record { law = law; state = state })) g.made name made answer

-- so it is one after what the session that asked has seen
seen_spawned : (start : SharedStart) (before after : SessionState) (label : RightSet) (law : Law) (state : List ℕ) (name : ℕ) → IsAnswered start before after (Spawn label law state) (Name name) → IsSubject (graph_seen start after.seen) name
seen_spawned start before after label law state name told =
    let s : StoreState = told.legal.0 in
    let e : Entry = record { worker = before.worker; deed = Spawn label law state; reply = Name name } in
    let graph : graph_of_store s ≡ graph_seen start told.before = graph_is start s told.before told.legal.3.0 told.legal.1 in
    let all : graph_seen start after.seen ≡ step (graph_of_store s) before.worker (Spawn label law state) =
    ap (graph_seen start) told.seen ∙ graph_front start told.before (sign (Session before.worker) e ∷ []) ∙ ap (λ (g : ProtectionGraph). step g before.worker (Spawn label law state)) (sym graph) in
    subst (λ (g : ProtectionGraph). IsSubject g name) (sym all) (spawned_is (graph_of_store s) before.worker name label law state (sym told.legal.3.1.reply))

-- who was a subject after a front of the entries that a session sees is not gone after all of them
not_gone : (start : SharedStart) (all : List Signed) (session : SessionState) (front : List Signed) → BeginsWith all front → IsSubject (graph_seen start front) session.worker → HasNotLeft start all session → ¬ IsNobodyAtSeen start all session.worker
not_gone start all session front begins here stays gone =
    gone.3.1 (stays_made start gone.0 all gone.1 gone.2 gone.3.0 session.worker session.made front begins.0 stays.alone.sees.own (none_of start gone.0 all gone.3.0 session.worker stays.alone.alone) stays.none begins.1 here)

pub from_the_start : (start : SharedStart) (all : List Signed) (session : SessionState) → IsSubject (graph_after (start_at start.opening) start.entries) session.worker → HasNotLeft start all session → ¬ IsNobodyAtSeen start all session.worker
from_the_start start all session here stays =
    not_gone start all session [] (all, refl) (subst (λ (l : List Entry). IsSubject (graph_after (start_at start.opening) l) session.worker) (sym (append-nil start.entries)) here) stays

pub from_a_spawn : (start : SharedStart) (all : List Signed) (session : SessionState) → IsSpawnedIn start all session.worker → HasNotLeft start all session → ¬ IsNobodyAtSeen start all session.worker
from_a_spawn start all session told stays =
    not_gone start all session told.after.seen told.begins (seen_spawned start told.before told.after told.label told.law told.state session.worker told.answered) stays

-- what was seen before is in front of what was seen then
pub seen_grows : (start : SharedStart) (old new : SessionState) (deed : Deed) (reply : Reply) → IsAnswered start old new deed reply → BeginsWith new.seen old.seen
seen_grows start old new deed reply told =
    subst (λ (l : List Signed). BeginsWith l old.seen) (sym told.seen) (longer told.before old.seen (sign (Session old.worker) (record { worker = old.worker; deed = deed; reply = reply }) ∷ []) told.sees.front)

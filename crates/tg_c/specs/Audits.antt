-- The calls of C on an auditor. It has come to a place of a history, and is fed the entries that a store holds from there on.
use Rattle.std.specs.Prelude.{◌≡◌, ◌≢◌, ◌≤◌, ◌<◌, ℕ, true, false, List, take, Result, Ok, Err, IfErr, OnOk}
use Rattle.tg_model.specs.Opened.{start_of}
use Rattle.tg_model.specs.Graph.{ProtectionGraph}
use Rattle.tg_journal.specs.declared.auditor.PartFault.{PartFault}
use Rattle.tg_journal.specs.declared.entry.Entry.{Entry}
use Rattle.tg_journal.specs.Auditing.{FeedsPart, StandsAt}
use Rattle.tg_journal.specs.History.{graph_after}
use Rattle.tg_journal.specs.Live.{IsSweptGraph, graph_kept}
use Rattle.tg_store.specs.Origin.{start_at}
use Rattle.tg_store.specs.Store.{StoreState}
use Rattle.tg_c.specs.declared.auditor.audit.Audit.{Audit}
use Rattle.tg_c.specs.declared.auditor.place.AuditorPlace.{AuditorPlace}
use Rattle.tg_c.specs.declared.place.StorePlace.{StorePlace}
use Rattle.tg_c.specs.declared.forms.EdgeIn.{EdgeIn}
use Rattle.tg_c.specs.declared.forms.LimitsIn.{LimitsIn}
use Rattle.tg_c.specs.declared.forms.ValueIn.{ValueIn}
use Rattle.tg_c.specs.declared.refusal.CallRefusal.{CallRefusal}
use Rattle.tg_c.specs.declared.refusal.CallRefusal.TheVariants as refusal
use Rattle.tg_c.specs.Calls.{AreMet, Forgets, IsRefusedFor, IsStatusWhere, demands_of, state_in}
use Rattle.tg_c.specs.Forms.{plan_given}
use Rattle.tg_c.specs.Statuses.{of_part, status_of}

-- the audit in an open place
abbrev pub audit_in : AuditorPlace → Audit
audit_in place = place.handle.opened

-- The answer to a feed in C. It is how many entries passed by then in all, or why the feed was refused.
abbrev pub told_of_feed : ℕ → Result (Unit {0}) PartFault → Result ℕ CallRefusal
told_of_feed at (Ok done) = Ok at
told_of_feed at (Err why) = Err (of_part why)

-- An audit was fed a journal of these entries, of which it holds the entries from `first` on. The auditor has its own answer, which
-- is reported.
pub record FeedsJournal (old new : Audit) (first : ℕ) (entries : List Entry) (answer : Result ℕ CallRefusal) : Type 0 where
  pub fed : Result (Unit {0}) PartFault
  pub part : FeedsPart old.auditor new.auditor first entries fed
  pub told : answer ≡ told_of_feed new.auditor.at fed

-- Suppose that an audit represents the graph of the store's own history at the audit's place. Then it finds no bad entry in the
-- history.
abbrev pub FindsNone : Audit → StoreState → Result ℕ CallRefusal → Type 0
FindsNone a s answer = StandsAt (graph_after (start_at s.opening) (take a.auditor.at s.entries)) a.auditor → answer ≢ Err refusal.BadEntry

-- the store is the same, and the audit had this answer, which is reported
pub record IsFed (old new : Audit) (store after : StorePlace) (tells : Result ℕ CallRefusal → Type 0) : Type 0 where
  pub answer : Result ℕ CallRefusal
  pub told : tells answer
  pub same_store : state_in after ≡ state_in store
  pub part : FeedsJournal old new (state_in store).handed (state_in store).entries answer
  pub own : FindsNone old (state_in store) answer

-- An audit was fed by the store in an open place, which stays the same. A closed place feeds nothing, and is as it was.
pub record FeedsOpen (old new : Audit) (store after : StorePlace) (tells : Result ℕ CallRefusal → Type 0) : Type 0 where
  pub as_open : after.is_open ≡ store.is_open
  pub not_open : store.is_open ≡ false → tells (Err refusal.NotOpen) × (new ≡ old)
  pub fed : store.is_open ≡ true → IsFed old new store after tells

-- A feed of the auditor in a place. A closed place is refused with `NotOpen`, and then all is as it was.
pub record Feeds (old new : AuditorPlace) (store after : StorePlace) (tells : Result ℕ CallRefusal → Type 0) : Type 0 where
  pub as_open : new.is_open ≡ old.is_open
  pub not_open : old.is_open ≡ false → tells (Err refusal.NotOpen) × (after ≡ store)
  pub fed : old.is_open ≡ true → FeedsOpen (audit_in old) (audit_in new) store after tells

-- The auditor is asked for its place, and is the same then.
pub record AsksPlace (old new : AuditorPlace) (tells : Result ℕ CallRefusal → Type 0) : Type 0 where
  pub as_open : new.is_open ≡ old.is_open
  pub not_open : old.is_open ≡ false → tells (Err refusal.NotOpen)
  pub told : old.is_open ≡ true → tells (Ok (audit_in old).auditor.at) × (audit_in new ≡ audit_in old)

-- The store's entries before a place are given up if the auditor has come as far. The auditor stays the same.
pub record ForgetsAudited (old new : AuditorPlace) (store after : StorePlace) (upto : ℕ) (tells : Result (Unit {0}) CallRefusal → Type 0) : Type 0 where
  pub as_open : new.is_open ≡ old.is_open
  pub not_open : old.is_open ≡ false → tells (Err refusal.NotOpen) × (after ≡ store)
  pub same_audit : old.is_open ≡ true → audit_in new ≡ audit_in old
  pub not_audited : old.is_open ≡ true → (audit_in old).auditor.at < upto → tells (Err refusal.NotAudited) × (after ≡ store)
  pub audited : old.is_open ≡ true → upto ≤ (audit_in old).auditor.at → Forgets store after upto tells

-- ---- a sweep

-- The audit stays at its place and represents the same graphs. Vertices that no subject reaches aren't kept any more. Only memory
-- can be refused.
pub record SweepsAudit (old new : Audit) (answer : Result (Unit {0}) CallRefusal) : Type 0 where
  pub stands : (g : ProtectionGraph) → StandsAt g old.auditor → StandsAt g new.auditor
  pub place : (new.auditor.at ≡ old.auditor.at) × (new.auditor.found_bad ≡ old.auditor.found_bad)
  pub swept : OnOk answer (IsSweptGraph (graph_kept old.auditor.kept) (graph_kept new.auditor.kept))
  pub refused : IfErr answer (λ why. (why ≡ refusal.OutOfMemory) × (new ≡ old))

-- a sweep of the auditor in a place
pub record Sweeps (old new : AuditorPlace) (tells : Result (Unit {0}) CallRefusal → Type 0) : Type 0 where
  pub as_open : new.is_open ≡ old.is_open
  pub not_open : old.is_open ≡ false → tells (Err refusal.NotOpen)
  pub swept : old.is_open ≡ true → (answer : Result (Unit {0}) CallRefusal) × tells answer × SweepsAudit (audit_in old) (audit_in new) answer

-- ---- the opening

-- The audit of an opening, all of whose demands are met. It is at the first entry, and represents the graph that C asked for.
pub record IsOpenedAudit (a : Audit) (workers : List ValueIn) (edges : List EdgeIn) (limits : LimitsIn) : Type 0 where
  pub met : AreMet (demands_of workers edges limits)
  pub first : a.auditor.at ≡ 0
  pub stands : StandsAt (start_of (plan_given workers edges limits.max_vertices)) a.auditor

-- An opening of C changes the auditor's place. If it is refused, it leaves the place as it was.
pub record OpensAudit (old new : AuditorPlace) (workers : List ValueIn) (edges : List EdgeIn) (limits : LimitsIn) (status : ℕ) : Type 0 where
  pub already_open : old.is_open ≡ true → status ≡ status_of refusal.AlreadyOpen
  pub opened : status ≡ 0 → (new.is_open ≡ true) × IsOpenedAudit (audit_in new) workers edges limits
  pub refused : old.is_open ≡ false → status ≢ 0 → IsStatusWhere (IsRefusedFor workers edges limits) status
  pub kept : status ≢ 0 → new ≡ old

-- How many refusals the entries of a store tell of, and how many collections it made.
use Rattle.std.specs.Prelude.{ℕ, ◌+◌, ◌-◌, ◌^◌, min, Bool, true, false, List, Option, Some, None, count_by}
use Rattle.tg_model.specs.declared.reply.Reply.{Reply}
use Rattle.tg_model.specs.declared.reply.Reply.TheVariants as reply
use Rattle.tg_journal.specs.declared.entry.Entry.{Entry}
use Rattle.tg_space.specs.declared.kind.Kind.{Kind}
use Rattle.tg_space.specs.declared.kind.Kind.TheVariants.{Full, Nursery}
use Rattle.tg_store.specs.declared.census.Collections.{Collections}
use Rattle.tg_store.specs.declared.census.Refusal.{Refusal}
use Rattle.tg_store.specs.declared.census.Refusal.TheVariants.{Denied, VerticesFull, WorkersFull}
use Rattle.tg_store.specs.declared.census.Refusals.{Refusals}

-- the refusal that a reply tells of
abbrev pub refusal_told : Reply → Option Refusal
refusal_told (reply.Denied denial) = Some Denied
refusal_told reply.VerticesFull = Some VerticesFull
refusal_told reply.WorkersFull = Some WorkersFull
refusal_told served = None

abbrev pub is_told : Refusal → Option Refusal → Bool
is_told Denied (Some Denied) = true
is_told VerticesFull (Some VerticesFull) = true
is_told WorkersFull (Some WorkersFull) = true
is_told refusal other = false

-- how many of the entries tell of a refusal
abbrev pub count_told : Refusal → List Entry → ℕ
count_told refusal es = count_by (λ e. is_told refusal (refusal_told e.reply)) es

-- how many of the entries tell of each refusal
abbrev pub refusals_in : List Entry → Refusals
refusals_in es = record { denied = count_told Denied es; vertices_full = count_told VerticesFull es; workers_full = count_told WorkersFull es }

abbrev pub refusals_of : Refusals → Refusal → ℕ
refusals_of r Denied = r.denied
refusals_of r VerticesFull = r.vertices_full
refusals_of r WorkersFull = r.workers_full

abbrev pub with_one_refusal : Refusal → Refusals → Refusals
with_one_refusal Denied r = record r { denied = r.denied + 1 }
with_one_refusal VerticesFull r = record r { vertices_full = r.vertices_full + 1 }
with_one_refusal WorkersFull r = record r { workers_full = r.workers_full + 1 }

-- one more collection of a kind; a number that came to 2^64 - 1 stays there
abbrev pub with_one_collection : Kind → Collections → Collections
with_one_collection Nursery c = record c { nursery = min (c.nursery + 1) (2 ^ 64 - 1) }
with_one_collection Full c = record c { full = min (c.full + 1) (2 ^ 64 - 1) }

-- before the first
abbrev pub no_collections : Collections
no_collections = record { nursery = 0; full = 0 }

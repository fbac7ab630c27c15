-- What a call makes of the vertices that are paid for, and that there is a name for who can pay.
use Rattle.std.specs.Prelude.{IfOk, OnErr}
use Rattle.std.proofs.Common.{◌≡◌, ◌≢◌, refl, sym, subst, ℕ, ◌+◌, ◌<◌, ◌≤◌, List, [], ◌∷◌, Result, Ok, Err, ◌∙◌, ap, arith, le_refl, length, length-append, map}
use Rattle.std.proofs.lemmas.List.{length-map}
use Rattle.tg_model.specs.declared.command.Command.{Command}
use Rattle.tg_model.specs.declared.command.Deed.{Deed}
use Rattle.tg_model.specs.declared.command.Deed.TheVariants.{Create, Plain, Spawn}
use Rattle.tg_model.specs.declared.reply.Reply.{Reply}
use Rattle.tg_model.specs.declared.reply.Reply.TheVariants.{WorkersFull}
use Rattle.tg_model.specs.Graph.{ProtectionGraph, listing_of}
use Rattle.tg_model.specs.Rules.{step}
use Rattle.tg_model.proofs.AllowedLaws.{create_cases, plain_cases, spawn_cases}
use Rattle.tg_journal.specs.declared.entry.Entry.{Entry}
use Rattle.tg_journal.specs.History.{graph_after}
use Rattle.tg_journal.proofs.HistoryLaws.{graph_after-limit}
use Rattle.tg_store.specs.Origin.{Origin, start_at}
use Rattle.tg_store.specs.Store.{StoreState, Enters, graph_of_store}
use Rattle.tg_store.specs.Leaving.{HasLeft, leaving}
use Rattle.tg_store.proofs.StandLaws.{graph-entered}
use Rattle.tg_store.specs.declared.fault.ApplyFault.{ApplyFault}
use Rattle.tg_store.specs.declared.fault.CreateFault.{CreateFault}
use Rattle.tg_store.specs.declared.fault.CreateFault.TheVariants as fault
use Rattle.tg_shared.specs.Batch.{ServesAll}
use Rattle.tg_shared.specs.Serving.{EndsWorker}
use Rattle.tg_shared.specs.Sessions.{LockedState, SessionState}
use Rattle.tg_shared.proofs.Leavings.{length_leaving}
use Rattle.tg_shares.specs.declared.purse.Portion.{Portion}
use Rattle.tg_shares.specs.Shares.{IsCovered, entries_alone, one_entry, one_vertex}
use Rattle.tg_shares.specs.Tills.{ArePaid, TakesIn, TillState}

one_at_most : (g : ProtectionGraph) (x : ℕ) (deed : Deed) → (step g x deed).made ≤ g.made + 1
one_at_most g x (Create label law state) = create_cases g x (λ k. k.made ≤ g.made + 1) label law state (omega arith) (λ room. omega arith)
one_at_most g x (Spawn label law state) = spawn_cases g x (λ k. k.made ≤ g.made + 1) label law state (omega arith) (λ room few. omega arith)
one_at_most g x (Plain command) = plain_cases g x (λ k. k.made ≤ g.made + 1) command (omega arith) (λ allowed. omega arith)

none_made : (g : ProtectionGraph) (x : ℕ) (command : Command) → (step g x (Plain command)).made ≤ g.made
none_made g x command = plain_cases g x (λ k. k.made ≤ g.made) command (omega arith) (λ allowed. omega arith)

limit_kept : (old new : StoreState) → new.opening ≡ old.opening → (graph_of_store new).limit ≡ (graph_of_store old).limit
limit_kept old new opening =
    graph_after-limit (start_at new.opening) new.entries ∙ ap (λ (o : Origin). (start_at o).limit) opening ∙ sym (graph_after-limit (start_at old.opening) old.entries)

-- the same opening and the same entries
pub covered_alike : (left : ℕ) (old new : StoreState) → IsCovered left old → new.opening ≡ old.opening → new.entries ≡ old.entries → IsCovered left new
covered_alike left old new held opening entries =
    let made : (graph_of_store new).made ≡ (graph_of_store old).made = λ i. (graph_after (start_at (opening i)) (entries i)).made in
    let limit = limit_kept old new opening in
    omega (arith, made, limit, held)

-- a command makes none
pub covered_command : (left : ℕ) (old new : StoreState) (worker : ℕ) (command : Command) (reply : Reply) → IsCovered left old
    → Enters old new worker (Plain command) reply → new.opening ≡ old.opening → IsCovered left new
covered_command left old new worker command reply held entry opening =
    let grows = ap (λ (g : ProtectionGraph). g.made) (graph-entered old new worker (Plain command) reply opening entry) in
    let none = none_made (graph_of_store old) worker command in
    let limit = limit_kept old new opening in
    omega (arith, grows, none, limit, held)

-- any deed makes one at most, and that was paid
pub covered_one : (left next : ℕ) (old new : StoreState) (worker : ℕ) (deed : Deed) (reply : Reply) → IsCovered left old
    → Enters old new worker deed reply → new.opening ≡ old.opening → next + 1 ≡ left → IsCovered next new
covered_one left next old new worker deed reply held entry opening paid =
    let grows = ap (λ (g : ProtectionGraph). g.made) (graph-entered old new worker deed reply opening entry) in
    let one = one_at_most (graph_of_store old) worker deed in
    let limit = limit_kept old new opening in
    omega (arith, grows, one, limit, held, paid)

-- who has a vertex in its purse finds a name
pub name_left : (left vertices : ℕ) (s : StoreState) → IsCovered left s → 0 < vertices → vertices ≤ left → (graph_of_store s).limit ≤ (graph_of_store s).made → ⊥
name_left left vertices s held some within full =
    omega (arith, held, some, within, full)

-- ---- entries

-- a client's call made so many entries, which were paid for
pub paid_more : (part : Portion) (till next : TillState) (old new : LockedState) → ArePaid till old → length new.store.entries ≡ length old.store.entries + part.entries →
    new.entered ≡ old.entered → TakesIn part till next → ArePaid next new
paid_more part till next old new held grown entered paid =
    let taken = paid.left.entries in let before = paid.before in let given = paid.given in omega (arith, held, grown, entered, taken, before, given)

-- the keeper made so many entries
pub paid_beside : (count : ℕ) (till : TillState) (old new : LockedState) → ArePaid till old → length new.store.entries ≡ length old.store.entries + count →
    new.entered ≡ old.entered + count → ArePaid till new
paid_beside count till old new held grown entered = omega (arith, held, grown, entered)

-- nothing was made, and nothing paid
pub paid_alike : (till : TillState) (old new : LockedState) → ArePaid till old → new.store.entries ≡ old.store.entries → new.entered ≡ old.entered → ArePaid till new
paid_alike till old new held entries entered = let same = ap length entries in omega (arith, held, same, entered)

-- one entry more
pub one_grown : (old new : StoreState) (worker : ℕ) (deed : Deed) (reply : Reply) → Enters old new worker deed reply → length new.entries ≡ length old.entries + 1
one_grown old new worker deed reply entry = ap length entry ∙ length-append old.entries _

-- as many as a leave makes
pub left_grown : (worker count : ℕ) (old new : StoreState) → HasLeft worker old new → count ≡ length (listing_of (graph_of_store old).label (graph_of_store old).made worker) →
    length new.entries ≡ length old.entries + (count + 1)
left_grown worker count old new left same =
    let row = length_leaving (graph_of_store old) worker in
    let all = ap length left.entries in
    omega (arith, row, all, length-append old.entries (leaving (graph_of_store old) worker), same)

-- ---- what holds in the lock, all of it

-- all that holds in a lock of what was paid
pub record Holds (till : TillState) (locked : LockedState) : Type 0 where
  pub covered : IsCovered till.left.vertices locked.store
  pub paid : ArePaid till locked

-- a command was entered, and paid for
pub holds_commanded : (till next : TillState) (old new : LockedState) (worker : ℕ) (command : Command) (reply : Reply) → Holds till old → Enters old.store new.store worker (Plain command) reply →
    new.store.opening ≡ old.store.opening → new.entered ≡ old.entered → TakesIn one_entry till next → Holds next new
holds_commanded till next old new worker command reply held entry opening entered paid =
    let taken : next.left.vertices + 0 ≡ till.left.vertices = paid.left.vertices in
    let still = covered_command till.left.vertices old.store new.store worker command reply held.covered entry opening in
    record {
      covered = omega (arith, taken, still);
      paid = paid_more one_entry till next old new held.paid (one_grown old.store new.store worker (Plain command) reply entry) entered paid;
    }

-- a vertex was made, and paid for
pub holds_made : (till next : TillState) (old new : LockedState) (worker : ℕ) (deed : Deed) (reply : Reply) → Holds till old → Enters old.store new.store worker deed reply →
    new.store.opening ≡ old.store.opening → new.entered ≡ old.entered → TakesIn one_vertex till next → Holds next new
holds_made till next old new worker deed reply held entry opening entered paid = record {
  covered = covered_one till.left.vertices next.left.vertices old.store new.store worker deed reply held.covered entry opening paid.left.vertices;
  paid = paid_more one_vertex till next old new held.paid (one_grown old.store new.store worker deed reply entry) entered paid;
}

-- nothing was made, and nothing paid
pub holds_still : (till next : TillState) (old new : LockedState) → Holds till old → next ≡ till → new.store.opening ≡ old.store.opening → new.store.entries ≡ old.store.entries →
    new.entered ≡ old.entered → Holds next new
holds_still till next old new held same opening entries entered = subst (λ (t : TillState). Holds t new) (sym same) (record {
  covered = covered_alike till.left.vertices old.store new.store held.covered opening entries;
  paid = paid_alike till old new held.paid entries entered;
})

-- a spawn that was refused: one that is since too many subjects are active was entered and paid for
pub holds_crowded : (why : CreateFault) (till next : TillState) (old new : LockedState) (worker : ℕ) (deed : Deed) → Holds till old → new.store.opening ≡ old.store.opening → new.entered ≡ old.entered →
    ((why ≡ fault.WorkersFull) → TakesIn one_entry till next × Enters old.store new.store worker deed WorkersFull × (graph_of_store new.store ≡ graph_of_store old.store)) →
    ((why ≢ fault.WorkersFull) → (next ≡ till) × (new.store.entries ≡ old.store.entries)) → Holds next new
holds_crowded fault.WorkersFull till next old new worker deed held opening entered crowded other =
    let told = crowded refl in
    let taken : next.left.vertices + 0 ≡ till.left.vertices = told.0.left.vertices in
    let made = ap (λ (g : ProtectionGraph). g.made) told.2 in
    let limit = limit_kept old.store new.store opening in
    let covered = held.covered in
    record {
      covered = omega (arith, taken, made, limit, covered);
      paid = paid_more one_entry till next old new held.paid (one_grown old.store new.store worker deed WorkersFull told.1) entered told.0;
    }
holds_crowded fault.NoSuchWorker till next old new worker deed held opening entered crowded other =
    let told = other (λ same. cc) in holds_still till next old new held told.0 opening told.1 entered
holds_crowded fault.VerticesFull till next old new worker deed held opening entered crowded other =
    let told = other (λ same. cc) in holds_still till next old new held told.0 opening told.1 entered
holds_crowded fault.HeapFull till next old new worker deed held opening entered crowded other =
    let told = other (λ same. cc) in holds_still till next old new held told.0 opening told.1 entered
holds_crowded fault.OutOfMemory till next old new worker deed held opening entered crowded other =
    let told = other (λ same. cc) in holds_still till next old new held told.0 opening told.1 entered

-- the keeper ended a worker
pub holds_ended : (worker count : ℕ) (till : TillState) (old new : LockedState) → Holds till old → HasLeft worker old.store new.store →
    count ≡ length (listing_of (graph_of_store old.store).label (graph_of_store old.store).made worker) → new.entered ≡ old.entered + (count + 1) → Holds till new
holds_ended worker count till old new held left same entered =
    let made = ap (λ (g : ProtectionGraph). g.made) left.graph in
    let limit = limit_kept old.store new.store left.opening in
    let covered = held.covered in
    record {
      covered = omega (arith, made, limit, covered);
      paid = paid_beside (count + 1) till old new held.paid (left_grown worker count old.store new.store left same) entered;
    }

-- the keeper asked for a worker's end, whatever came of it
pub holds_after_end : (r : Result ℕ ApplyFault) (worker : ℕ) (till : TillState) (old new : LockedState) → Holds till old → EndsWorker worker old.store new.store r →
    IfOk r (λ count. new.entered ≡ old.entered + (count + 1)) → OnErr r (new.entered ≡ old.entered) → Holds till new
holds_after_end (Ok count) worker till old new held ended entered none =
    holds_ended worker count till old new held ended.left (ended.count (graph_of_store old.store) refl) entered
holds_after_end (Err e) worker till old new held ended entered none =
    holds_still till till old new held refl ended.unchanged.opening ended.unchanged.entries none

-- ---- a batch of commands

-- commands make no vertex
none_made_all : (g : ProtectionGraph) (es : List Entry) (commands : List Command) → map (λ e. e.deed) es ≡ map Plain commands → (graph_after g es).made ≤ g.made
none_made_all g [] commands is = le_refl g.made
none_made_all g (e ∷ es) [] is = let no : ⊥ = cc in absurd no
none_made_all g (e ∷ es) (command ∷ commands) is =
    let deed : e.deed ≡ Plain command = cc in
    let others : map (λ (x : Entry). x.deed) es ≡ map Plain commands = cc in
    let one : (step g e.worker e.deed).made ≤ g.made = subst (λ (d : Deed). (step g e.worker d).made ≤ g.made) (sym deed) (none_made g e.worker command) in
    let more = none_made_all (step g e.worker e.deed) es commands others in
    omega (arith, one, more)

-- the commands of a batch were entered, and paid for
pub holds_served : (till next : TillState) (old new : LockedState) (before after : SessionState) (commands : List Command) (count : ℕ) → Holds till old → ServesAll commands old new before after → length commands ≡ count →
    new.entered ≡ old.entered → TakesIn (entries_alone count) till next → Holds next new
holds_served till next old new before after commands count held served long entered paid =
    let made : List Entry = served.applies.made in
    let many : length made ≡ count = sym (length-map made (λ (e : Entry). e.deed)) ∙ ap (λ (ds : List Deed). length ds) served.applies.theirs.deeds ∙ length-map commands Plain ∙ long in
    let grows = ap (λ (g : ProtectionGraph). g.made) served.applies.graph in
    let none = none_made_all (graph_of_store old.store) made commands served.applies.theirs.deeds in
    let limit = limit_kept old.store new.store served.applies.opening in
    let taken : next.left.vertices + 0 ≡ till.left.vertices = paid.left.vertices in
    let covered = held.covered in
    let long : length new.store.entries ≡ length old.store.entries + length made = ap length served.applies.entries ∙ length-append old.store.entries made in
    record {
      covered = omega (arith, grows, none, limit, taken, covered);
      paid = paid_more (entries_alone count) till next old new held.paid (omega (arith, long, many)) entered paid;
    }

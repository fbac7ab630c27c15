-- A deed that is tried, and tried again after a full collection.
use Rattle.std.proofs.Common.{◌≡◌, ◌↔◌, ◌⊎◌, inl, inr, ◌∙◌, ◌++◌, ◌∷◌, [], ℕ, List, refl, sym, ap, subst}
use Rattle.std.specs.Prelude.{Result, Ok, Err}
use Rattle.std.specs.List.{Contains}
use Rattle.tg_model.specs.declared.command.Deed.{Deed}
use Rattle.tg_model.specs.declared.reply.Reply.{Reply}
use Rattle.tg_model.specs.Graph.{ProtectionGraph, IsReachable}
use Rattle.tg_model.specs.Rules.{IsAllowed}
use Rattle.tg_journal.specs.declared.entry.Entry.{Entry}
use Rattle.tg_journal.specs.History.{graph_after}
use Rattle.tg_subjects.specs.declared.subject.Subject.{Subject}
use Rattle.tg_subjects.specs.Subjects.{nursery_held}
use Rattle.tg_space.specs.SpaceTable.{SpaceTable}
use Rattle.tg_space.specs.declared.kind.Kind.TheVariants.{Full}
use Rattle.tg_space.specs.declared.room_fault.RoomFault.{RoomFault}
use Rattle.tg_space.specs.declared.room_fault.RoomFault.TheVariants.{OutOfMemory, HeapFull}
use Rattle.tg_rows.specs.Graph.{content_in}
use Rattle.tg_graph.specs.Heap.{content_of, nursery_of}
use Rattle.tg_store.specs.Collecting.{IsSwept, KeepsHistory}
use Rattle.tg_store.specs.Room.{LacksRoomToCollect}
use Rattle.tg_store.specs.Origin.{start_at}
use Rattle.tg_store.specs.Store.{StoreState, IsUnchanged, graph_of_store}
use Rattle.tg_resume.specs.Inner.Replaying.{Does, Stays, Tries}
use Rattle.tg_resume.specs.Room.{HasOnlyReached, IsFullFor, LacksCells, LacksRoom}

-- ---- what stays

pub same_graph : (old new : StoreState) → new.entries ≡ old.entries → new.opening ≡ old.opening → graph_of_store new ≡ graph_of_store old
same_graph old new entries opening = λ i. graph_after (start_at (opening i)) (entries i)

pub stays_twice : (old mid new : StoreState) → Stays old mid → Stays mid new → Stays old new
stays_twice old mid new first second = record {
  opening = second.opening ∙ first.opening;
  handed = second.handed ∙ first.handed;
  limits = second.limits ∙ first.limits;
}

pub stays_kept : {T E : Type 0} (r : Result T E) (old new : StoreState) → KeepsHistory old new r → Stays old new
stays_kept r old new kept = record { opening = kept.opening; handed = kept.handed; limits = kept.limits }

-- ---- what is full stays so

module _ (old new : StoreState) (worker : ℕ) (deed : Deed) (unchanged : IsUnchanged old new) where
  abbrev graph : graph_of_store new ≡ graph_of_store old
  graph = same_graph old new unchanged.entries unchanged.opening

  lacks_still : LacksCells old.heap.table (nursery_of old.heap worker) worker (graph_of_store old).made deed → LacksCells new.heap.table (nursery_of new.heap worker) worker (graph_of_store new).made deed
  lacks_still lacks =
      let made = (graph_of_store old).made in
      let t : LacksCells new.heap.table (nursery_of old.heap worker) worker made deed =
      subst (λ (t : SpaceTable). LacksCells t (nursery_of old.heap worker) worker made deed) (sym unchanged.heap.table) lacks in
      let n : LacksCells new.heap.table (nursery_of new.heap worker) worker made deed =
      subst (λ (subjects : List Subject). LacksCells new.heap.table (nursery_held subjects worker) worker made deed) (sym unchanged.heap.subjects) t in
      subst (λ (g : ProtectionGraph). LacksCells new.heap.table (nursery_of new.heap worker) worker g.made deed) (sym graph) n

  pub full_still : IsAllowed (graph_of_store old) worker deed → LacksCells old.heap.table (nursery_of old.heap worker) worker (graph_of_store old).made deed → HasOnlyReached new ⊎ LacksRoomToCollect Full 1 new.heap → IsFullFor new worker deed
  full_still allowed lacks collected = record {
    allowed = subst (λ (g : ProtectionGraph). IsAllowed g worker deed) (sym graph) allowed;
    lacks = lacks_still lacks;
    collected = collected;
  }

-- what a full collection left is still all that is reached
pub only_reached : (first swept new : StoreState) (count : ℕ) → IsSwept Full first swept count → graph_of_store swept ≡ graph_of_store first → IsUnchanged swept new → HasOnlyReached new
only_reached first swept new count is same unchanged x =
    let names : (content_of new.heap).names ≡ (content_of swept.heap).names = ap (λ (t : SpaceTable). (content_in t.spaces swept.heap.payloads).names) unchanged.heap.table in
    let graph : graph_of_store new ≡ graph_of_store first = same_graph swept new unchanged.entries unchanged.opening ∙ same in
    subst (λ (g : ProtectionGraph). Contains (content_of new.heap).names x ↔ IsReachable g x) (sym graph)
    (subst (λ (ns : List ℕ). Contains ns x ↔ IsReachable (graph_of_store first) x) (sym names) (is.names (graph_of_store first) refl refl x))

-- ---- a deed that is tried once

module _ {E : Type 0} (why : E → RoomFault) (worker : ℕ) (deed : Deed) (old new : StoreState) where
  pub done : (reply : Reply) → Tries why worker deed old new (Ok reply) → Does worker deed old new (Ok reply)
  done reply tried = record { entered = tried.entered; refused = tt; reason = tt; stays = tried.stays }

  pub out_of_memory : (e : E) → Tries why worker deed old new (Err e) → Does worker deed old new (Err OutOfMemory)
  out_of_memory e tried = record { entered = tt; refused = tried.refused.entries; reason = tt; stays = tried.stays }

-- ---- and once more

module _ {E : Type 0} (why : E → RoomFault) (worker : ℕ) (deed : Deed) (old first : StoreState) (e : E) (was : Tries why worker deed old first (Err e)) (full : why e ≡ HeapFull) where
  -- there was no room to collect
  pub not_collected : (new : StoreState) (fault : RoomFault) → KeepsHistory {T = ℕ} first new (Err fault) → (fault ≡ HeapFull → LacksRoomToCollect Full 1 first.heap) → Does worker deed old new (Err fault)
  not_collected new fault kept lacks =
      let at_first : LacksRoom first worker deed fault =
      elim fault as (λ (f : RoomFault). (f ≡ HeapFull → LacksRoomToCollect Full 1 first.heap) → LacksRoom first worker deed f) [
        | OutOfMemory ↦ λ lacks. tt
        | HeapFull ↦ λ lacks. full_still old first worker deed was.refused (was.allowed full) (was.lacks full) (inr (lacks refl))
      ] lacks in
      record {
        entered = tt;
        refused = kept.entries ∙ was.refused.entries;
        reason = subst (λ (s : StoreState). LacksRoom s worker deed fault) (sym kept.refused) at_first;
        stays = stays_twice old first new was.stays (stays_kept {E = RoomFault} (Err fault) first new kept);
      }

  module _ (swept new : StoreState) (count : ℕ) (is : IsSwept Full first swept count) (kept : KeepsHistory {E = RoomFault} first swept (Ok count)) where
    abbrev entries_before : swept.entries ≡ old.entries
    entries_before = kept.entries ∙ was.refused.entries

    abbrev stays_before : Stays old swept
    stays_before = stays_twice old first swept was.stays (stays_kept {E = RoomFault} (Ok count) first swept kept)

    pub done_again : (reply : Reply) → Tries why worker deed swept new (Ok reply) → Does worker deed old new (Ok reply)
    done_again reply tried = record {
      entered = tried.entered ∙ ap (λ (es : List Entry). es ++ (record { worker = worker; deed = deed; reply = reply }) ∷ []) entries_before;
      refused = tt;
      reason = tt;
      stays = stays_twice old swept new stays_before tried.stays;
    }

    pub refused_again : (last : E) (fault : RoomFault) → fault ≡ why last → Tries why worker deed swept new (Err last) → Does worker deed old new (Err fault)
    refused_again last fault same tried = record {
      entered = tt;
      refused = tried.refused.entries ∙ entries_before;
      reason =
          elim fault as (λ (f : RoomFault). f ≡ why last → LacksRoom new worker deed f) [
            | OutOfMemory ↦ λ same. tt
            | HeapFull ↦ λ same.
                full_still swept new worker deed tried.refused (tried.allowed (sym same)) (tried.lacks (sym same))
                (inl (only_reached first swept new count is (same_graph first swept kept.entries kept.opening) tried.refused))
          ] same;
      stays = stays_twice old swept new stays_before tried.stays;
    }

-- the same of a command, whose refusal is the reason itself
pub command_again : (worker : ℕ) (deed : Deed) (old first : StoreState) → Tries (λ (f : RoomFault). f) worker deed old first (Err HeapFull) → (swept new : StoreState) (count : ℕ) → IsSwept Full first swept count → KeepsHistory {E = RoomFault} first swept (Ok count) → (r : Result Reply RoomFault) → Tries (λ (f : RoomFault). f) worker deed swept new r → Does worker deed old new r
command_again worker deed old first was swept new count is kept (Ok reply) tried =
    done_again (λ (f : RoomFault). f) worker deed old first HeapFull was refl swept new count is kept reply tried
command_again worker deed old first was swept new count is kept (Err fault) tried =
    refused_again (λ (f : RoomFault). f) worker deed old first HeapFull was refl swept new count is kept fault fault refl tried

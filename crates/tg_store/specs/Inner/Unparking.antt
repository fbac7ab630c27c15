-- How a user takes out what an account holds on the heap, and what is entered.
use Rattle.std.specs.Prelude.{◌≡◌, ◌++◌, ℕ, List, None, length}
use Rattle.tg_rights.specs.RightSet.{RightSet}
use Rattle.tg_model.specs.Graph.{without_rights}
use Rattle.tg_model.specs.Rules.{denial_of}
use Rattle.tg_journal.specs.declared.entry.Entry.{Entry}
use Rattle.tg_rows.specs.Content.{Content, IsContent, IsNamed}
use Rattle.tg_graph.specs.Heap.{HeapState, content_of, subject_names}
use Rattle.tg_store.specs.declared.parking.Parked.{Parked}
use Rattle.tg_store.specs.declared.parking.Parked.TheVariants.{Done, Denied}
use Rattle.tg_store.specs.declared.parking.Sides.{Sides}
use Rattle.tg_store.specs.Parking.{IsUnused}
use Rattle.tg_store.specs.Unparking.{take_key_of, taking_all}
use Rattle.tg_store.specs.Inner.Parking.{IsGiven, IsKeyDeniedOnHeap, IsRowOf, parking_of}

-- what the host holds over the account
abbrev pub held_over : HeapState → Sides → RightSet
held_over heap s = (content_of heap).label s.host.name s.account

-- a user was unparked on the heap
pub record IsUnparkedOnHeap (s : Sides) (old new : HeapState) (before after : List Entry) (edges : ℕ) : Type 0 where
  pub served : denial_of (content_of old).label (content_of old).value s.host.name (take_key_of (parking_of s)) ≡ None
  pub unused : IsUnused (content_of old).label s.account s.user.name
  pub row : List (ℕ × RightSet)
  pub is_row : IsRowOf (content_of old) s.account row
  pub count : edges ≡ length row
  pub entries : after ≡ before ++ taking_all (parking_of s) row (held_over old s)
  pub middle : Content
  pub filled : IsGiven (content_of old) middle s.user.name row
  pub left : IsContent (content_of new) (IsNamed middle) (without_rights middle.label s.host.name s.account (held_over old s)) middle.value
  pub subjects : subject_names new ≡ subject_names old
  pub limits : new.table.limits ≡ old.table.limits

-- what came of unparking on the heap
abbrev pub UnparksOnHeap : Sides → HeapState → HeapState → List Entry → List Entry → Parked → Type 0
UnparksOnHeap s old new before after (Done edges) = IsUnparkedOnHeap s old new before after edges
UnparksOnHeap s old new before after (Denied denial) = IsKeyDeniedOnHeap (take_key_of (parking_of s)) s.host.name old new before after denial

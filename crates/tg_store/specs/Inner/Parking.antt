-- How edges are put into an account on the heap, and what is entered.
use Rattle.std.specs.Prelude.{◌≡◌, ◌<◌, ◌++◌, ◌∷◌, [], ℕ, List, None, Some, length, map, take}
use Rattle.std.specs.List.{All}
use Rattle.tg_rights.specs.RightSet.{RightSet}
use Rattle.tg_model.specs.declared.command.Command.{Command}
use Rattle.tg_model.specs.declared.command.Deed.TheVariants.{Plain}
use Rattle.tg_model.specs.declared.reply.Denial.{Denial}
use Rattle.tg_model.specs.declared.reply.Reply.TheVariants as reply
use Rattle.tg_model.specs.Graph.{ProtectionGraph, IsSubject, listing_of, with_rights, without_rights, without_subject}
use Rattle.tg_model.specs.Rules.{denial_of}
use Rattle.tg_journal.specs.declared.entry.Entry.{Entry}
use Rattle.tg_journal.specs.History.{IsLegal}
use Rattle.tg_journal.specs.Journal.{Entries}
use Rattle.tg_rows.specs.Content.{Content, IsContent, IsNamed, IsSameContent}
use Rattle.tg_graph.specs.Heap.{HeapState, content_of, subject_names}
use Rattle.tg_graph.specs.Standing.{IsContentOf}
use Rattle.tg_store.specs.declared.parking.Parking.{Parking}
use Rattle.tg_store.specs.declared.parking.Parked.{Parked}
use Rattle.tg_store.specs.declared.parking.Parked.TheVariants.{Done, Denied}
use Rattle.tg_store.specs.declared.parking.Sides.{Sides}
use Rattle.tg_store.specs.Leaving.{graph_after_leave, removal, retiring}
use Rattle.tg_store.specs.Parking.{IsUnused, filling, key_of}

-- the labels once x was given these edges, one after the other
abbrev pub given : (ℕ → ℕ → RightSet) → ℕ → List (ℕ × RightSet) → ℕ → ℕ → RightSet
given label x [] = label
given label x (e ∷ es) = given (with_rights label x e.0 e.1) x es

-- the labels once these edges were taken from x, one after the other
abbrev pub taken_back : (ℕ → ℕ → RightSet) → ℕ → List (ℕ × RightSet) → ℕ → ℕ → RightSet
taken_back label x [] = label
taken_back label x (e ∷ es) = taken_back (without_rights label x e.0 e.1) x es

-- the content once x was given these edges
abbrev pub IsGiven : Content → Content → ℕ → List (ℕ × RightSet) → Type 0
IsGiven old new x row = IsContent new (IsNamed old) (given old.label x row) old.value

-- the content once these edges were taken from x
abbrev pub IsTakenBack : Content → Content → ℕ → List (ℕ × RightSet) → Type 0
IsTakenBack old new x row = IsContent new (IsNamed old) (taken_back old.label x row) old.value

-- the content once x was given some of these edges, and all of them were taken from it
pub record IsGivenUpAgain (old new : Content) (x : ℕ) (row : List (ℕ × RightSet)) : Type 0 where
  pub given_edges : ℕ
  pub content : IsContent new (IsNamed old) (taken_back (given old.label x (take given_edges row)) x row) old.value

-- whom the two subjects park where
abbrev pub parking_of : Sides → Parking
parking_of s = record { host = s.host.name; user = s.user.name; account = s.account }

-- a user was parked on the heap
pub record IsParkedOnHeap (s : Sides) (row : List (ℕ × RightSet)) (old new : HeapState) (before after : Entries) (edges : ℕ) : Type 0 where
  pub served : denial_of (content_of old).label (content_of old).value s.host.name (key_of (parking_of s)) ≡ None
  pub unused : IsUnused (content_of old).label s.user.name s.account
  pub count : edges ≡ length row
  pub entries : after.entries ≡ (before.entries ++ filling (parking_of s) row) ++ map (removal s.user.name) row ++ retiring s.user.name ∷ []
  pub middle : Content
  pub filled : IsGiven (content_of old) middle s.account row
  pub left : (g : ProtectionGraph) → IsContentOf middle g → IsSubject g s.user.name → IsLegal g (map (removal s.user.name) row) →
      IsContentOf (content_of new) (graph_after_leave g s.user.name row)
  pub subjects : subject_names new ≡ without_subject (subject_names old) s.user.name
  pub limits : new.table.limits ≡ old.table.limits

-- the host's grant of a key was denied
pub record IsKeyDeniedOnHeap (key : Command) (host : ℕ) (old new : HeapState) (before after : List Entry) (denial : Denial) : Type 0 where
  pub denied : denial_of (content_of old).label (content_of old).value host key ≡ Some denial
  pub entry : after ≡ before ++ (record { worker = host; deed = Plain key; reply = reply.Denied denial }) ∷ []
  pub heap : new ≡ old

-- what came of parking on the heap
abbrev pub ParksOnHeap : Sides → List (ℕ × RightSet) → HeapState → HeapState → Entries → Entries → Parked → Type 0
ParksOnHeap s row old new before after (Done edges) = IsParkedOnHeap s row old new before after edges
ParksOnHeap s row old new before after (Denied denial) = IsKeyDeniedOnHeap (key_of (parking_of s)) s.host.name old new before.entries after.entries denial

-- a list that is the listing of a row, whatever number is above all names
abbrev pub IsRowOf : Content → ℕ → List (ℕ × RightSet) → Type 0
IsRowOf c x row = (n : ℕ) → All (λ name. name < n) c.names → row ≡ listing_of c.label n x

-- the same of the user's row, whichever it is
pub record ParksSomeRow (s : Sides) (old new : HeapState) (before after : Entries) (parked : Parked) : Type 0 where
  pub row : List (ℕ × RightSet)
  pub is_row : IsRowOf (content_of old) s.user.name row
  pub parks : ParksOnHeap s row old new before after parked

-- Nothing was parked: no entry was made, and all labels, values and subjects are as they were.
pub record KeepsContent (old new : HeapState) (before after : Entries) : Type 0 where
  pub entries : after.entries ≡ before.entries
  pub content : IsSameContent (content_of old) (content_of new)
  pub subjects : subject_names new ≡ subject_names old
  pub limits : new.table.limits ≡ old.table.limits

-- The outcome of a hand on the heap, and what is entered of it.
use Rattle.std.specs.Prelude.{◌≡◌, [], ◌∷◌, ◌++◌, Option, Some, None}
use Rattle.tg_rights.specs.RightSet.{RightSet, label_of}
use Rattle.tg_model.specs.declared.command.Command.{Command}
use Rattle.tg_model.specs.declared.command.Deed.TheVariants.{Plain}
use Rattle.tg_model.specs.declared.reply.Denial.{Denial}
use Rattle.tg_model.specs.declared.reply.Reply.TheVariants as reply
use Rattle.tg_model.specs.Graph.{with_rights}
use Rattle.tg_model.specs.Rules.{denial_of}
use Rattle.tg_journal.specs.Journal.{Entries}
use Rattle.tg_rows.specs.Content.{Content, IsContent, IsNamed}
use Rattle.tg_graph.specs.Heap.{HeapState, content_of, subject_names}
use Rattle.tg_store.specs.declared.handing.Hand.{Hand}
use Rattle.tg_store.specs.declared.handing.Handed.{Handed}
use Rattle.tg_store.specs.declared.handing.Handed.TheVariants.{Done, Denied}
use Rattle.tg_store.specs.Handing.{denied_in_hand, entries_of_hand, lent}

-- the content after a hand on another
abbrev pub IsContentHanded : Hand → Content → Content → Type 0
IsContentHanded h old new = IsContent new (IsNamed old) (with_rights old.label h.to h.target h.rights) old.value

-- a command of the hand is denied on this content, and why; and so it is without the take
pub record IsDeniedOn (h : Hand) (on : Content) (command : Command) (denial : Denial) : Type 0 where
  pub first : denied_in_hand on.label on.value h ≡ Some (command, denial)
  pub before : denial_of on.label on.value h.via command ≡ Some denial

-- a hand was done
pub record IsDoneOnHeap (h : Hand) (old new : HeapState) (before after : Entries) (back : Option RightSet) : Type 0 where
  pub served : denied_in_hand (content_of old).label (content_of old).value h ≡ None
  pub removed : back ≡ label_of (lent (content_of old).label h)
  pub entries : after.entries ≡ before.entries ++ entries_of_hand h back
  pub content : IsContentHanded h (content_of old) (content_of new)
  pub subjects : subject_names new ≡ subject_names old
  pub limits : new.table.limits ≡ old.table.limits

-- a hand was denied
pub record IsDeniedOnHeap (h : Hand) (old new : HeapState) (before after : Entries) (command : Command) (denial : Denial) : Type 0 where
  pub denied : IsDeniedOn h (content_of old) command denial
  pub entry : after.entries ≡ before.entries ++ (record { worker = h.via; deed = Plain command; reply = reply.Denied denial }) ∷ []
  pub heap : new ≡ old

-- a hand was done or denied
abbrev pub HandsOnHeap : Hand → HeapState → HeapState → Entries → Entries → Handed → Type 0
HandsOnHeap h old new before after (Done back) = IsDoneOnHeap h old new before after back
HandsOnHeap h old new before after (Denied command denial) = IsDeniedOnHeap h old new before after command denial

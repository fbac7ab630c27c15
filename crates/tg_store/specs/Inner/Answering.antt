-- The outcome of a command on the heap, and what is entered of it.
use Rattle.std.specs.Prelude.{◌≡◌, ◌≢◌, ◌<◌, ◌++◌, ◌∷◌, [], ℕ, Result, None, Err, IfOk, OnErr}
use Rattle.tg_model.specs.declared.command.Command.{Command}
use Rattle.tg_model.specs.declared.command.Deed.TheVariants.{Plain}
use Rattle.tg_model.specs.declared.reply.Reply.{Reply}
use Rattle.tg_model.specs.Graph.{ProtectionGraph, IsSubject}
use Rattle.tg_model.specs.Rules.{answer_of, denial_of, step}
use Rattle.tg_journal.specs.declared.entry.Entry.{Entry}
use Rattle.tg_journal.specs.Journal.{Entries}
use Rattle.tg_subjects.specs.declared.subject.Subject.{Subject}
use Rattle.tg_graph.specs.Heap.{HeapState, IsUnchangedHeap, content_of, subject_names}
use Rattle.tg_graph.specs.Standing.{IsContentOf}
use Rattle.tg_rules.specs.Parties.{AreParties}
use Rattle.tg_rules.specs.Verdict.{HasSubject}
use Rattle.tg_rules.specs.declared.vertex.Parties.{Parties}
use Rattle.tg_store.specs.declared.fault.ApplyFault.{ApplyFault}
use Rattle.tg_store.specs.declared.fault.ApplyFault.TheVariants.{NoSuchWorker}

-- A command of one who asks is to be served between these vertices, which its checks met: it isn't denied, and there is room for its
-- entry.
pub record IsToServe (asker : Subject) (command : Command) (between : Parties) (heap : HeapState) (journal : Entries) : Type 0 where
  pub subject : HasSubject heap asker
  pub parties : AreParties heap asker.name command between
  pub served : denial_of (content_of heap).label (content_of heap).value asker.name command ≡ None
  pub room : 0 < journal.spare

-- A command of x was served or denied. For each graph that the heap represented the reply is that graph's, and the heap represents
-- the next one.
pub record IsReplied (x : ℕ) (command : Command) (old new : HeapState) (reply : Reply) : Type 0 where
  pub answered : (g : ProtectionGraph) → IsContentOf (content_of old) g → IsSubject g x → reply ≡ answer_of g x (Plain command)
  pub subjects : (g : ProtectionGraph) → IsContentOf (content_of old) g → IsSubject g x → subject_names old ≡ g.subjects →
      subject_names new ≡ (step g x (Plain command)).subjects
  pub step : (g : ProtectionGraph) → IsContentOf (content_of old) g → IsSubject g x → IsContentOf (content_of new) (step g x (Plain command))

-- What stays whatever comes of a command, and what is never told.
pub record KeepsHeap {T : Type 0} (old new : HeapState) (result : Result T ApplyFault) : Type 0 where
  pub limits : new.table.limits ≡ old.table.limits
  pub refused : OnErr result (IsUnchangedHeap old new)
  pub worker : result ≢ Err NoSuchWorker

-- A command of a subject was answered: served or denied, or refused; and the heap stays as far as it has to.
pub record AnswersCommand (asker : Subject) (command : Command) (old new : HeapState) (result : Result Reply ApplyFault) : Type 0 where
  pub replied : IfOk result (IsReplied asker.name command old new)
  pub kept : KeepsHeap old new result

-- the entry of a command of a subject with its reply
abbrev pub entry_answered : Subject → Command → Reply → Entry
entry_answered asker command reply = record { worker = asker.name; deed = Plain command; reply = reply }

-- Exactly the entry of a command that was served or denied was added to the journal, and none of one that was refused.
pub record EntersAnswer (asker : Subject) (command : Command) (old new : Entries) (result : Result Reply ApplyFault) : Type 0 where
  pub entry : IfOk result (λ reply. new.entries ≡ old.entries ++ entry_answered asker command reply ∷ [])
  pub start : new.start ≡ old.start
  pub refused : OnErr result (new.entries ≡ old.entries)

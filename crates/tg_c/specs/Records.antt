-- The numbers that C reads of an entry of the journal. A number that a deed or a reply doesn't have is 0.
use Rattle.std.specs.Prelude.{ℕ, List, [], Result, Err, length, slice_get, ok_or, nat_le, if◌then◌else◌}
use Rattle.tg_rights.specs.RightSet.{RightSet, bits_of}
use Rattle.tg_model.specs.declared.command.Command.{Command}
use Rattle.tg_model.specs.declared.command.Deed.{Deed}
use Rattle.tg_model.specs.declared.command.Deed.TheVariants.{Plain, Create, Spawn}
use Rattle.tg_model.specs.declared.verb.Arguments.{Arguments}
use Rattle.tg_model.specs.declared.verb.Arguments.TheVariants as behind
use Rattle.tg_model.specs.Commands.{verb_and_arguments}
use Rattle.tg_model.specs.declared.law.Law.{Law}
use Rattle.tg_model.specs.declared.law.Law.TheVariants as law
use Rattle.tg_model.specs.declared.reply.Reply.{Reply}
use Rattle.tg_model.specs.declared.reply.Reply.TheVariants.{Done, Denied, Name, Values, Edges, VerticesFull, WorkersFull}
use Rattle.tg_journal.specs.declared.entry.Entry.{Entry}
use Rattle.tg_c.specs.declared.forms.DenialOut.{DenialOut}
use Rattle.tg_c.specs.declared.records.DeedOut.{DeedOut}
use Rattle.tg_c.specs.declared.records.RecordOut.{RecordOut}
use Rattle.tg_c.specs.declared.records.ReplyOut.{ReplyOut}
use Rattle.tg_c.specs.declared.refusal.CallRefusal.{CallRefusal}
use Rattle.tg_c.specs.declared.refusal.CallRefusal.TheVariants as refusal
use Rattle.tg_c.specs.Forms.{denial_out, verb_number}

-- ---- the deed

-- the number of a law, and how many numbers a log keeps
abbrev pub law_out : Law → ℕ × ℕ
law_out law.Cell = (0, 0)
law_out law.Sum = (1, 0)
law_out law.Max = (2, 0)
law_out (law.Log most) = (3, most)

abbrev pub asked : ℕ → ℕ → ℕ → ℕ → ℕ → DeedOut
asked kind via target rights value =
    record { kind = kind; law = 0; most = 0; via = via; target = target; rights = rights; value = value }

-- the arguments of a command with this number, which are via, target, rights and value
abbrev pub arguments_out : ℕ → Arguments → DeedOut
arguments_out kind behind.Bare = asked kind 0 0 0 0
arguments_out kind (behind.Target target) = asked kind 0 target 0 0
arguments_out kind (behind.Value target value) = asked kind 0 target 0 value
arguments_out kind (behind.Rights target rights) = asked kind 0 target (bits_of rights) 0
arguments_out kind (behind.Move via target rights) = asked kind via target (bits_of rights) 0

abbrev pub command_out : Command → DeedOut
command_out command = arguments_out (verb_number (verb_and_arguments command).0) (verb_and_arguments command).1

-- the making of a vertex, an object or a subject
abbrev pub making_out : ℕ → RightSet → Law → DeedOut
making_out kind label law =
    record { kind = kind; law = (law_out law).0; most = (law_out law).1; via = 0; target = 0; rights = bits_of label; value = 0 }

abbrev pub deed_out : Deed → DeedOut
deed_out (Plain asked_for) = command_out asked_for
deed_out (Create label law state) = making_out 16 label law
deed_out (Spawn label law state) = making_out 17 label law

-- ---- the reply

abbrev pub no_denial : DenialOut
no_denial = record { rule = 0; cause = 0; from = 0; to = 0; rights = 0 }

abbrev pub answered : ℕ → ℕ → ReplyOut
answered kind name = record { kind = kind; name = name; denial = no_denial }

abbrev pub reply_out : Reply → ReplyOut
reply_out Done = answered 0 0
reply_out (Denied denial) = record { kind = 1; name = 0; denial = denial_out denial }
reply_out (Name name) = answered 2 name
reply_out (Values values) = answered 3 0
reply_out (Edges edges) = answered 4 0
reply_out VerticesFull = answered 16 0
reply_out WorkersFull = answered 17 0

-- ---- the lists

-- the numbers and the edges that were answered
abbrev pub values_in : Reply → List ℕ
values_in (Values values) = values
values_in Done = []
values_in (Denied denial) = []
values_in (Name name) = []
values_in (Edges edges) = []
values_in VerticesFull = []
values_in WorkersFull = []

abbrev pub edges_replied : Reply → List (ℕ × RightSet)
edges_replied (Edges edges) = edges
edges_replied Done = []
edges_replied (Denied denial) = []
edges_replied (Name name) = []
edges_replied (Values values) = []
edges_replied VerticesFull = []
edges_replied WorkersFull = []

-- the numbers of a create or a spawn are the numbers that the vertex stored at first
abbrev pub numbers_replied : Deed → Reply → List ℕ
numbers_replied (Create label law state) r = state
numbers_replied (Spawn label law state) r = state
numbers_replied (Plain asked_for) r = values_in r

abbrev pub numbers_entered : Entry → List ℕ
numbers_entered e = numbers_replied e.deed e.reply

abbrev pub edges_entered : Entry → List (ℕ × RightSet)
edges_entered e = edges_replied e.reply

-- ---- the entry

abbrev pub record_with : ℕ → DeedOut → ReplyOut → ℕ → ℕ → RecordOut
record_with worker d r number_count edge_count = record {
  worker = worker;
  deed = d.kind;
  reply = r.kind;
  law = d.law;
  most = d.most;
  via = d.via;
  target = d.target;
  rights = d.rights;
  value = d.value;
  name = r.name;
  denial = r.denial;
  number_count = number_count;
  edge_count = edge_count;
}

abbrev pub record_of : Entry → RecordOut
record_of e = record_with e.worker (deed_out e.deed) (reply_out e.reply) (length (numbers_entered e)) (length (edges_entered e))

-- The entry at a place of a journal that holds the entries from `first` on. Places are counted from 0, and there is no entry after
-- the last.
abbrev pub entry_at : ℕ → List Entry → ℕ → Result Entry CallRefusal
entry_at first entries at = if nat_le first at then ok_or (slice_get entries at) refusal.BadPlace else Err refusal.BadPlace

-- The entry that a record of C may have. If a part of the record is of no entry, another part takes its place. Then the entry has
-- another record.
use Rattle.std.specs.Prelude.{◌≡◌, ℕ, ◌==◌, List, [], Option, Some, None, if◌then◌else◌, map}
use Rattle.std.specs.List.{All}
use Rattle.std.specs.Option.{IsSome}
use Rattle.tg_rights.specs.declared.Right.TheVariants as right
use Rattle.tg_rights.specs.RightSet.{RightSet, no_rights, only, set_of_bits}
use Rattle.tg_model.specs.declared.command.Command.{Command}
use Rattle.tg_model.specs.declared.command.Command.TheVariants as command
use Rattle.tg_model.specs.declared.command.Deed.{Deed}
use Rattle.tg_model.specs.declared.command.Deed.TheVariants.{Plain, Create, Spawn}
use Rattle.tg_model.specs.declared.law.Law.{Law}
use Rattle.tg_model.specs.declared.law.Law.TheVariants as law
use Rattle.tg_model.specs.declared.reply.Cause.{Cause}
use Rattle.tg_model.specs.declared.reply.Cause.TheVariants.{NotDistinct, Missing, NotLog}
use Rattle.tg_model.specs.declared.reply.Reply.{Reply}
use Rattle.tg_model.specs.declared.reply.Reply.TheVariants.{Done, Denied, Name, Values, Edges, VerticesFull, WorkersFull}
use Rattle.tg_model.specs.declared.reply.Rule.{Rule}
use Rattle.tg_model.specs.declared.reply.Rule.TheVariants as rule
use Rattle.tg_journal.specs.declared.entry.Entry.{Entry}
use Rattle.tg_c.specs.declared.forms.DenialOut.{DenialOut}
use Rattle.tg_c.specs.declared.forms.EdgeOut.{EdgeOut}
use Rattle.tg_c.specs.declared.records.RecordOut.{RecordOut}
use Rattle.tg_c.specs.Forms.{label_at}
use Rattle.tg_c.specs.Records.{record_of}

abbrev pub label_or_read : Option RightSet → RightSet
label_or_read (Some label) = label
label_or_read None = only right.R

-- the label of these bits, or r alone
abbrev pub label_read : ℕ → RightSet
label_read bits = label_or_read (label_at bits)

abbrev pub rights_or_none : Option RightSet → RightSet
rights_or_none (Some rights) = rights
rights_or_none None = no_rights

-- the rights of these bits, or none
abbrev pub rights_read : ℕ → RightSet
rights_read bits = rights_or_none (set_of_bits bits)

abbrev pub law_read : ℕ → ℕ → Law
law_read number most =
    if number == 0 then law.Cell else if number == 1 then law.Sum else if number == 2 then law.Max else law.Log most

abbrev pub command_read : RecordOut → Command
command_read it =
    if it.deed == 0 then command.Take (label_read it.rights) it.via it.target
    else if it.deed == 1 then command.Grant (label_read it.rights) it.via it.target
    else if it.deed == 2 then command.Remove (label_read it.rights) it.target
    else if it.deed == 3 then command.Read it.target
    else if it.deed == 4 then command.Write it.target it.value
    else if it.deed == 5 then command.Append it.target it.value
    else if it.deed == 6 then command.Inspect it.target
    else if it.deed == 9 then command.Retire
    else command.List

abbrev pub deed_read : RecordOut → List ℕ → Deed
deed_read it numbers =
    if it.deed == 16 then Create (label_read it.rights) (law_read it.law it.most) numbers
    else if it.deed == 17 then Spawn (label_read it.rights) (law_read it.law it.most) numbers
    else Plain (command_read it)

abbrev pub rule_read : ℕ → Rule
rule_read number =
    if number == 0 then rule.Take
    else if number == 1 then rule.Grant
    else if number == 2 then rule.Remove
    else if number == 3 then rule.Read
    else if number == 4 then rule.Write
    else if number == 5 then rule.Append
    else rule.Inspect

abbrev pub cause_read : DenialOut → Cause
cause_read denial =
    if denial.cause == 0 then NotDistinct
    else if denial.cause == 1 then Missing (rights_read denial.rights) denial.from denial.to
    else NotLog

abbrev pub edge_read : EdgeOut → ℕ × RightSet
edge_read edge = (edge.to, label_read edge.rights)

abbrev pub reply_read : RecordOut → List ℕ → List (ℕ × RightSet) → Reply
reply_read it values listed =
    if it.reply == 1 then Denied (record { rule = rule_read it.denial.rule; cause = cause_read it.denial })
    else if it.reply == 2 then Name it.name
    else if it.reply == 3 then Values values
    else if it.reply == 4 then Edges listed
    else if it.reply == 16 then VerticesFull
    else if it.reply == 17 then WorkersFull
    else Done

abbrev pub entry_read : RecordOut → List ℕ → List EdgeOut → Entry
entry_read it numbers edges =
    record { worker = it.worker; deed = deed_read it numbers; reply = reply_read it numbers (map edge_read edges) }

-- ---- what is looked at

-- the entry that is read of the record, without its lists, has this record again
abbrev pub HasForm : RecordOut → Type 0
HasForm it = record_of (entry_read it [] []) ≡ record it { number_count = 0; edge_count = 0 }

-- the rights of each edge are the rights of a label
abbrev pub AreLabelled : List EdgeOut → Type 0
AreLabelled edges = All (λ edge. IsSome (label_at edge.rights)) edges

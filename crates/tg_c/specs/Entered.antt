-- The parts that C hands in as an entry. They are the record, all numbers and all edges, as they are reported of an entry.
use Rattle.std.specs.Prelude.{◌≡◌, ◌≢◌, ℕ, false, List, map}
use Rattle.std.specs.List.{All}
use Rattle.tg_rights.specs.RightSet.{RightSet, is_none_held}
use Rattle.tg_model.specs.declared.command.Command.{Command}
use Rattle.tg_model.specs.declared.command.Command.TheVariants as command
use Rattle.tg_model.specs.declared.command.Deed.{Deed}
use Rattle.tg_model.specs.declared.command.Deed.TheVariants.{Plain, Create, Spawn}
use Rattle.tg_model.specs.declared.reply.Reply.{Reply}
use Rattle.tg_model.specs.declared.reply.Reply.TheVariants.{Values}
use Rattle.tg_journal.specs.declared.entry.Entry.{Entry}
use Rattle.tg_c.specs.declared.forms.EdgeOut.{EdgeOut}
use Rattle.tg_c.specs.declared.records.RecordOut.{RecordOut}
use Rattle.tg_c.specs.Forms.{edge_out}
use Rattle.tg_c.specs.Records.{edges_entered, edges_replied, numbers_entered, record_of}

-- the set has a right, as each label has
abbrev pub IsLabel : RightSet → Type 0
IsLabel label = is_none_held label ≡ false

-- The label of a command has a right. Most commands have no label.
abbrev pub HasLabel : Command → Type 0
HasLabel (command.Take label via target) = IsLabel label
HasLabel (command.Grant label via target) = IsLabel label
HasLabel (command.Remove label target) = IsLabel label
HasLabel (command.Read target) = Unit {0}
HasLabel (command.Write target value) = Unit {0}
HasLabel (command.Append target value) = Unit {0}
HasLabel (command.Inspect target) = Unit {0}
HasLabel command.List = Unit {0}
HasLabel command.Retire = Unit {0}

-- The label of a deed has a right. The reply to a deed that makes a vertex has no values, because its record has no numbers for
-- them.
abbrev pub IsDeedOf : Deed → Reply → Type 0
IsDeedOf (Plain asked_for) reply = HasLabel asked_for
IsDeedOf (Create label law state) reply = IsLabel label × ((values : List ℕ) → reply ≢ Values values)
IsDeedOf (Spawn label law state) reply = IsLabel label × ((values : List ℕ) → reply ≢ Values values)

-- An entry whose labels have rights, and whose reply goes with its deed. Each entry of a store is of this form.
pub record IsProper (e : Entry) : Type 0 where
  pub deed : IsDeedOf e.deed e.reply
  pub edges : All (λ edge. IsLabel edge.1) (edges_replied e.reply)

-- The entry is given by this record, these numbers and these edges.
pub record IsWritten (it : RecordOut) (numbers : List ℕ) (edges : List EdgeOut) (e : Entry) : Type 0 where
  pub told : record_of e ≡ it
  pub all_numbers : numbers_entered e ≡ numbers
  pub all_edges : map edge_out (edges_entered e) ≡ edges

-- this is the entry that has this record, these numbers and these edges
pub record IsEntryOf (it : RecordOut) (numbers : List ℕ) (edges : List EdgeOut) (e : Entry) : Type 0 where
  pub written : IsWritten it numbers edges e
  pub proper : IsProper e

-- no entry has this record, these numbers and these edges
abbrev pub IsOfNoEntry : RecordOut → List ℕ → List EdgeOut → Type 0
IsOfNoEntry it numbers edges = (e : Entry) → ¬ IsEntryOf it numbers edges e

-- The table of commands: what each asks for, by which word, and what is after the word.
use Rattle.std.specs.Prelude.{ℕ, List, codes}
use Rattle.tg_model.specs.declared.command.Command.{Command}
use Rattle.tg_model.specs.declared.command.Command.TheVariants.{Take, Grant, Remove, Read, Write, Append, Inspect, List as Listing, Retire}
use Rattle.tg_model.specs.declared.reply.Rule.{Rule}
use Rattle.tg_model.specs.declared.reply.Rule.TheVariants as rule
use Rattle.tg_model.specs.declared.verb.Verb.{Verb}
use Rattle.tg_model.specs.declared.verb.Verb.TheVariants as verb
use Rattle.tg_model.specs.declared.verb.Arguments.{Arguments}
use Rattle.tg_model.specs.declared.verb.Arguments.TheVariants as behind

-- the word
abbrev pub word_of : Verb → List ℕ
word_of verb.Take = codes "take"
word_of verb.Grant = codes "grant"
word_of verb.Remove = codes "remove"
word_of verb.Read = codes "read"
word_of verb.Write = codes "write"
word_of verb.Append = codes "append"
word_of verb.Inspect = codes "inspect"
word_of verb.List = codes "list"
word_of verb.Retire = codes "retire"

-- what a command asks for, and what is after the word
abbrev pub verb_and_arguments : Command → Verb × Arguments
verb_and_arguments (Take rights y z) = (verb.Take, behind.Move y z rights)
verb_and_arguments (Grant rights y z) = (verb.Grant, behind.Move y z rights)
verb_and_arguments (Remove rights y) = (verb.Remove, behind.Rights y rights)
verb_and_arguments (Read y) = (verb.Read, behind.Target y)
verb_and_arguments (Write y v) = (verb.Write, behind.Value y v)
verb_and_arguments (Append y v) = (verb.Append, behind.Value y v)
verb_and_arguments (Inspect y) = (verb.Inspect, behind.Target y)
verb_and_arguments Listing = (verb.List, behind.Bare)
verb_and_arguments Retire = (verb.Retire, behind.Bare)

-- what the commands ask for that a rule is of
abbrev pub verb_of : Rule → Verb
verb_of rule.Take = verb.Take
verb_of rule.Grant = verb.Grant
verb_of rule.Remove = verb.Remove
verb_of rule.Read = verb.Read
verb_of rule.Write = verb.Write
verb_of rule.Append = verb.Append
verb_of rule.Inspect = verb.Inspect

-- The vertices that a command is about.
use Rattle.std.specs.Prelude.{◌≡◌, ℕ}
use Rattle.tg_model.specs.declared.command.Command.{Command}
use Rattle.tg_model.specs.declared.command.Command.TheVariants.{Grant, Inspect}
use Rattle.tg_model.specs.declared.verb.Arguments.{Arguments}
use Rattle.tg_model.specs.declared.verb.Arguments.TheVariants.{Bare, Target, Value, Rights, Move}
use Rattle.tg_model.specs.Commands.{verb_and_arguments}
use Rattle.tg_graph.specs.Heap.{HeapState}
use Rattle.tg_rules.specs.declared.vertex.Parties.{Parties}
use Rattle.tg_rules.specs.Verdict.{HasVertex}

-- the vertex whose row gets or loses rights by a command of x, or is listed
abbrev pub owner_of_row : ℕ → Command → ℕ
owner_of_row x (Grant rights y z) = y
owner_of_row x (Inspect y) = y
owner_of_row x command = x

-- the vertex that is last after the word, or x where none does
abbrev pub last_behind : ℕ → Arguments → ℕ
last_behind x Bare = x
last_behind x (Target y) = y
last_behind x (Value y v) = y
last_behind x (Rights y rights) = y
last_behind x (Move y z rights) = z

-- the vertex that a command of x names last, or x where it names none
abbrev pub last_named : ℕ → Command → ℕ
last_named x command = last_behind x (verb_and_arguments command).1

-- the two vertices of the heap that a command of x is about
pub record AreParties (s : HeapState) (x : ℕ) (command : Command) (p : Parties) : Type 0 where
  pub from : HasVertex s p.from
  pub from_name : p.from.name ≡ owner_of_row x command
  pub target : HasVertex s p.target
  pub target_name : p.target.name ≡ last_named x command

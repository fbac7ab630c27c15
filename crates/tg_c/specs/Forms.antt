-- The meaning of the numbers of C. Rights as bits, values, edges and limits come in. Denials and listings go out.
use Rattle.std.specs.Prelude.{ℕ, ◌==◌, ◌&&◌, ◌++◌, List, [], ◌∷◌, Option, Some, None, if◌then◌else◌, nat_le, length, map, take, drop}
use Rattle.std.specs.Option.{IsSome}
use Rattle.std.specs.List.{All}
use Rattle.tg_rights.specs.RightSet.{RightSet, no_rights, set_of_bits, label_of, bits_of}
use Rattle.tg_model.specs.declared.reply.Denial.{Denial}
use Rattle.tg_model.specs.declared.reply.Rule.{Rule}
use Rattle.tg_model.specs.declared.reply.Cause.{Cause}
use Rattle.tg_model.specs.declared.reply.Cause.TheVariants.{NotDistinct, Missing, NotLog}
use Rattle.tg_model.specs.declared.edge.Edge.{Edge}
use Rattle.tg_model.specs.Commands.{verb_of}
use Rattle.tg_model.specs.declared.verb.Verb.{Verb}
use Rattle.tg_model.specs.declared.verb.Verb.TheVariants as verb
use Rattle.tg_model.specs.declared.value.Value.{Value}
use Rattle.tg_model.specs.declared.law.Law.TheVariants as law
use Rattle.tg_model.specs.Opened.{Plan, JoinsWorkers}
use Rattle.tg_space.specs.declared.kind.Kind.{Kind}
use Rattle.tg_space.specs.declared.kind.Kind.TheVariants.{Full, Nursery}
use Rattle.tg_store.specs.declared.census.Census.{Census}
use Rattle.tg_c.specs.declared.forms.CensusOut.{CensusOut}
use Rattle.tg_c.specs.declared.forms.DenialOut.{DenialOut}
use Rattle.tg_c.specs.declared.forms.EdgeIn.{EdgeIn}
use Rattle.tg_c.specs.declared.forms.EdgeOut.{EdgeOut}
use Rattle.tg_c.specs.declared.forms.ValueIn.{ValueIn}

-- ---- in

-- the label of a set of rights, if the set isn't empty
abbrev pub if_some : Option RightSet → Option RightSet
if_some None = None
if_some (Some rights) = label_of rights

-- the label of these bits
abbrev pub label_at : ℕ → Option RightSet
label_at bits = if_some (set_of_bits bits)

-- The value that a vertex is to store. A log begins empty, and keeps from 1 to 64 numbers.
abbrev pub value_at : ValueIn → Option Value
value_at v =
    if v.law == 0 then Some (record { law = law.Cell; state = v.number ∷ [] })
    else if v.law == 1 then Some (record { law = law.Sum; state = v.number ∷ [] })
    else if v.law == 2 then Some (record { law = law.Max; state = v.number ∷ [] })
    else if (v.law == 3) && nat_le 1 v.most && nat_le v.most 64 then Some (record { law = law.Log v.most; state = [] })
    else None

abbrev pub kind_at : ℕ → Option Kind
kind_at number = if number == 0 then Some Full else if number == 1 then Some Nursery else None

-- all workers' values, and the rights of all edges, are as asked
abbrev pub AreValues : List ValueIn → Type 0
AreValues workers = All (λ v. IsSome (value_at v)) workers

abbrev pub HaveLabels : List EdgeIn → Type 0
HaveLabels edges = All (λ e. IsSome (label_at e.rights)) edges

-- the value and the edge that are asked for, or any other if there is none
abbrev pub value_or_cell : Option Value → Value
value_or_cell (Some value) = value
value_or_cell None = record { law = law.Cell; state = 0 ∷ [] }

abbrev pub value_in : ValueIn → Value
value_in v = value_or_cell (value_at v)

abbrev pub label_or_none : Option RightSet → RightSet
label_or_none (Some label) = label
label_or_none None = no_rights

abbrev pub edge_in : EdgeIn → Edge
edge_in e = record { from = e.from; to = e.to; label = label_or_none (label_at e.rights) }

-- each edge joins two different workers, of which there are so many
abbrev pub JoinWorkers : ℕ → List EdgeIn → Type 0
JoinWorkers workers edges = All (λ e. JoinsWorkers workers (edge_in e)) edges

-- the opening that C asks for
abbrev pub plan_given : List ValueIn → List EdgeIn → ℕ → Plan
plan_given workers edges max_vertices =
    record { workers = length workers; edges = map edge_in edges; values = map value_in workers; limit = max_vertices }

-- ---- out

-- each command has its number
abbrev pub verb_number : Verb → ℕ
verb_number verb.Take = 0
verb_number verb.Grant = 1
verb_number verb.Remove = 2
verb_number verb.Read = 3
verb_number verb.Write = 4
verb_number verb.Append = 5
verb_number verb.Inspect = 6
verb_number verb.List = 8
verb_number verb.Retire = 9

-- and a rule that of the command that it is of
abbrev pub rule_number : Rule → ℕ
rule_number rule = verb_number (verb_of rule)

abbrev pub denial_at : ℕ → Cause → DenialOut
denial_at rule NotDistinct = record { rule = rule; cause = 0; from = 0; to = 0; rights = 0 }
denial_at rule (Missing rights from to) = record { rule = rule; cause = 1; from = from; to = to; rights = bits_of rights }
denial_at rule NotLog = record { rule = rule; cause = 2; from = 0; to = 0; rights = 0 }

abbrev pub denial_out : Denial → DenialOut
denial_out denial = denial_at (rule_number denial.rule) denial.cause

abbrev pub edge_out : ℕ × RightSet → EdgeOut
edge_out e = record { to = e.0; rights = bits_of e.1 }

-- the edges that were listed, as far as there is room, and after them the room that is left
abbrev pub edges_shown_in : List (ℕ × RightSet) → List EdgeOut → List EdgeOut
edges_shown_in edges room = take (length room) (map edge_out edges) ++ drop (length edges) room

-- the rights of a label as bits, or 0 if there is no label
abbrev pub rights_out : Option RightSet → ℕ
rights_out None = 0
rights_out (Some label) = bits_of label

abbrev pub census_out : Census → CensusOut
census_out c = record {
  vertices = c.vertices;
  payloads = c.payloads;
  blocks = c.blocks;
  entries = c.entries;
  held = c.held;
  denied = c.refusals.denied;
  vertices_full = c.refusals.vertices_full;
  workers_full = c.refusals.workers_full;
  nursery_collections = c.collections.nursery;
  full_collections = c.collections.full;
}

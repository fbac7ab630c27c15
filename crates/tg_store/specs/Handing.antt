-- How rights are handed on: the commands by which it is done, which of them is denied, and the graph after them.
use Rattle.std.specs.Prelude.{◌≡◌, ◌≢◌, ℕ, List, [], ◌∷◌, ◌++◌, Option, Some, None, option_map}
use Rattle.std.specs.Option.{option_or}
use Rattle.tg_rights.specs.RightSet.{RightSet, label_of, minus, only}
use Rattle.tg_rights.specs.declared.Right.TheVariants as right
use Rattle.tg_model.specs.declared.value.Value.{Value}
use Rattle.tg_model.specs.declared.command.Command.{Command}
use Rattle.tg_model.specs.declared.command.Command.TheVariants.{Take, Grant}
use Rattle.tg_model.specs.declared.command.Deed.TheVariants.{Plain}
use Rattle.tg_model.specs.declared.reply.Denial.{Denial}
use Rattle.tg_model.specs.declared.reply.Reply.TheVariants as reply
use Rattle.tg_model.specs.Graph.{ProtectionGraph, with_rights}
use Rattle.tg_model.specs.Rules.{HoldsOver, denial_in, denial_of}
use Rattle.tg_journal.specs.declared.entry.Entry.{Entry}
use Rattle.tg_journal.specs.History.{IsLegal}
use Rattle.tg_graph.specs.Heap.{nursery_of}
use Rattle.tg_rules.specs.Effect.{LacksCellsToServe}
use Rattle.tg_store.specs.declared.handing.Hand.{Hand}
use Rattle.tg_store.specs.declared.handing.Handed.{Handed}
use Rattle.tg_store.specs.declared.handing.Handed.TheVariants.{Done, Denied}
use Rattle.tg_store.specs.Leaving.{removal}
use Rattle.tg_store.specs.Store.{StoreState, OnlyEnters, graph_of_store}

-- `via` takes the rights from `from`
abbrev pub take_of : Hand → Command
take_of h = Take h.rights h.from h.target

-- and grants them to `to`
abbrev pub grant_of : Hand → Command
grant_of h = Grant h.rights h.to h.target

-- ---- which hands are served

-- Where a hand is served, on the graph before it: `via` holds take over `from`, which holds the rights over the target, and grant over
-- `to`. The vertices of each of the two commands differ.
pub record MayHand (g : ProtectionGraph) (h : Hand) : Type 0 where
  pub take_apart : (h.via ≢ h.from) × (h.from ≢ h.target) × (h.via ≢ h.target)
  pub take : HoldsOver g.label h.via h.from (only right.T)
  pub held : HoldsOver g.label h.from h.target h.rights
  pub grant_apart : (h.via ≢ h.to) × (h.to ≢ h.target)
  pub grant : HoldsOver g.label h.via h.to (only right.G)

-- a command with its denial, if it has one
abbrev pub denied_as : Command → Option Denial → Option (Command × Denial)
denied_as command denial = option_map (λ d. (command, d)) denial

-- the command of a hand that is denied, and why: the take, or else the grant once `via` holds the rights too
abbrev pub denied_in_hand : (ℕ → ℕ → RightSet) → (ℕ → Option Value) → Hand → Option (Command × Denial)
denied_in_hand label value h =
    option_or (denied_as (take_of h) (denial_of label value h.via (take_of h)))
    (denied_as (grant_of h) (denial_of (with_rights label h.via h.target h.rights) value h.via (grant_of h)))

-- ---- what a hand that is served does

-- a command of x is done
abbrev pub done_by : ℕ → Command → Entry
done_by x command = record { worker = x; deed = Plain command; reply = reply.Done }

-- `via` removes these rights over the target again, if there are any
abbrev pub giving_back : Hand → Option RightSet → List Entry
giving_back h None = []
giving_back h (Some rights) = removal h.via (h.target, rights) ∷ []

-- the entries of a hand: the take, the grant, and the remove of these rights
abbrev pub entries_of_hand : Hand → Option RightSet → List Entry
entries_of_hand h back = done_by h.via (take_of h) ∷ done_by h.via (grant_of h) ∷ giving_back h back

-- the rights that a hand lends to `via`, who doesn't hold them before
abbrev pub lent : (ℕ → ℕ → RightSet) → Hand → RightSet
lent label h = minus h.rights (label h.via h.target)

-- the graph after a hand: `to` holds the rights over the target too, and all else is as it was
abbrev pub handed_on : ProtectionGraph → Hand → ProtectionGraph
handed_on g h = record g { label = with_rights g.label h.to h.target h.rights }

-- ---- the outcome of a hand

-- The rights were handed on: exactly these entries were added, and the store represents the graph after the hand. What was removed of
-- `via` again is what it didn't hold before.
pub record IsHandedOn (h : Hand) (old new : StoreState) (back : Option RightSet) : Type 0 where
  pub allowed : MayHand (graph_of_store old) h
  pub removed : back ≡ label_of (lent (graph_of_store old).label h)
  pub entries : new.entries ≡ old.entries ++ entries_of_hand h back
  pub legal : IsLegal (graph_of_store old) (entries_of_hand h back)
  pub graph : graph_of_store new ≡ handed_on (graph_of_store old) h
  pub opening : new.opening ≡ old.opening
  pub handed : new.handed ≡ old.handed
  pub limits : new.heap.table.limits ≡ old.heap.table.limits
  pub collections : new.collections ≡ old.collections

-- The hand was denied: exactly the entry of the denied command was added, and nothing else changed. The denial is that of the command
-- on the graph before.
pub record IsHandDenied (h : Hand) (old new : StoreState) (command : Command) (denial : Denial) : Type 0 where
  pub first : denied_in_hand (graph_of_store old).label (graph_of_store old).value h ≡ Some (command, denial)
  pub before : denial_in (graph_of_store old) h.via command ≡ Some denial
  pub entry : OnlyEnters old new h.via (Plain command) (reply.Denied denial)
  pub graph : graph_of_store new ≡ graph_of_store old

-- the outcome of a hand
abbrev pub ComesOfHand : Hand → StoreState → StoreState → Handed → Type 0
ComesOfHand h old new (Done back) = IsHandedOn h old new back
ComesOfHand h old new (Denied command denial) = IsHandDenied h old new command denial

-- The hand is allowed, and the edge from `to` to the target needs a cell that the nursery of `via` doesn't have and doesn't get.
pub record LacksCellsToHand (h : Hand) (s : StoreState) : Type 0 where
  pub allowed : MayHand (graph_of_store s) h
  pub lacks : LacksCellsToServe s.heap.table (nursery_of s.heap h.via) h.via (grant_of h)

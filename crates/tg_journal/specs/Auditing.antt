-- What an audit says of the entries that it was fed.
use Rattle.std.specs.Prelude.{◌≡◌, ◌↔◌, ◌<◌, ◌≤◌, ◌+◌, ◌-◌, ◌⊎◌, ℕ, true, false, List, [], ◌∷◌, take, drop, length, Option, Some, None, Result, Ok, Err, IfErr, OnOk}
use Rattle.tg_model.specs.declared.command.Deed.{Deed}
use Rattle.tg_model.specs.declared.reply.Reply.{Reply}
use Rattle.tg_model.specs.Graph.{ProtectionGraph, IsReachable, IsSound, IsSubject}
use Rattle.tg_model.specs.Rules.{DeedFits}
use Rattle.tg_journal.specs.declared.auditor.PartFault.{PartFault}
use Rattle.tg_journal.specs.declared.auditor.PartFault.TheVariants as part
use Rattle.tg_journal.specs.declared.entry.Entry.{Entry}
use Rattle.tg_journal.specs.declared.replay.AuditFault.{AuditFault}
use Rattle.tg_journal.specs.declared.replay.AuditFault.TheVariants.{OutOfMemory, BadEntry}
use Rattle.tg_journal.specs.History.{IsLegal, IsFirstBad, graph_after}
use Rattle.tg_journal.specs.Live.{AuditState, graph_kept}

-- a vertex that a subject reaches, or a name that wasn't made yet: what no subject reaches of those made never is reached again
abbrev pub MayMatter : ProtectionGraph → ℕ → Type 0
MayMatter g y = IsReachable g y ⊎ (g.made ≤ y)

-- The second graph has the subjects, the number made and the limit of the first, and the same labels and values at all that its
-- subjects reach. What else it has of vertices that were made is anything.
pub record AlikeWhereReached (g kept : ProtectionGraph) : Type 0 where
  pub subjects : kept.subjects ≡ g.subjects
  pub made : kept.made ≡ g.made
  pub limit : kept.limit ≡ g.limit
  pub label : (x y : ℕ) → MayMatter g x → kept.label x y ≡ g.label x y
  pub value : (y : ℕ) → IsReachable g y → kept.value y ≡ g.value y

-- an audit, of which this graph was kept, has come to the first one
pub record HasComeTo (g kept : ProtectionGraph) : Type 0 where
  pub sound : IsSound g
  pub alike : AlikeWhereReached g kept

-- the auditor found no bad entry, and has come to this graph
pub record StandsAt (g : ProtectionGraph) (a : AuditState) : Type 0 where
  pub none_bad : a.found_bad ≡ false
  pub come : HasComeTo g (graph_kept a.kept)

-- the entries are a legal history of the first graph, and the auditor has come to the one after them
pub record Passes (g : ProtectionGraph) (es : List Entry) (a : AuditState) : Type 0 where
  pub legal : IsLegal g es
  pub next : StandsAt (graph_after g es) a

-- those before the auditor's place are, and it has come to the graph after them
abbrev pub PassesBefore : ProtectionGraph → List Entry → AuditState → Type 0
PassesBefore g es a = Passes g (take a.at es) a

-- the reply with which a deed is a legal entry of the first graph, and the auditor has come to the graph and the place after it; or
-- there is none, and the auditor stays at the first one
abbrev pub AuditAnswers : ProtectionGraph → ℕ → Deed → AuditState → AuditState → Option Reply → Type 0
AuditAnswers g x deed old new (Some reply) = Passes g (record { worker = x; deed = deed; reply = reply } ∷ []) new × (new.at ≡ old.at + 1)
AuditAnswers g x deed old new None = (¬ (IsSubject g x × DeedFits deed)) × StandsAt g new × (new.at ≡ old.at)

-- The auditor stopped at its new place, among these entries. Those before it passed. Where memory ran out, it goes on from there;
-- otherwise the entry there is the first bad one.
abbrev pub IsStopped : AuditState → AuditState → List Entry → AuditFault → Type 0
IsStopped old new es OutOfMemory = (old.at ≤ new.at) × (new.at < old.at + length es) ×
    ((g : ProtectionGraph) → StandsAt g old → Passes g (take (new.at - old.at) es) new)
IsStopped old new es (BadEntry at) = (at ≡ new.at) × (old.at ≤ at) × (new.found_bad ≡ true) ×
    ((g : ProtectionGraph) → StandsAt g old → IsFirstBad g es (at - old.at))

-- The auditor was fed entries that follow those it has seen.
pub record FeedsEntries (old new : AuditState) (es : List Entry) (answer : Result (Unit {0}) AuditFault) : Type 0 where
  pub passed : (g : ProtectionGraph) → StandsAt g old → OnOk answer (Passes g es new)
  pub end : OnOk answer (new.at ≡ old.at + length es)
  pub stopped : IfErr answer (IsStopped old new es)

-- an auditor that found a bad entry returns it again, and nothing changes
abbrev pub IsEnded : AuditState → AuditState → Result (Unit {0}) AuditFault → Type 0
IsEnded old new answer = old.found_bad ≡ true → (answer ≡ Err (BadEntry old.at)) × (new ≡ old)

-- what the refusal of a part says, of a journal of these entries that holds those from `first` on
abbrev pub IsRefusedPart : AuditState → AuditState → ℕ → List Entry → PartFault → Type 0
IsRefusedPart old new first entries (part.BadPlace due start end) = (due ≡ old.at) × (start ≡ first) × (end ≡ length entries) × (new ≡ old)
IsRefusedPart old new first entries (part.BadEntry at) = IsStopped old new (drop old.at entries) (BadEntry at)
IsRefusedPart old new first entries (part.OutOfMemory at) = (at ≡ new.at) × IsStopped old new (drop old.at entries) OutOfMemory

-- The auditor was fed a part: a journal of these entries, of which it holds those from `first` on.
pub record FeedsPart (old new : AuditState) (first : ℕ) (entries : List Entry) (answer : Result (Unit {0}) PartFault) : Type 0 where
  -- the entries from the auditor's place on passed, and it has come to the end
  pub passed : (g : ProtectionGraph) → StandsAt g old → OnOk answer (Passes g (drop old.at entries) new)
  pub end : OnOk answer (new.at ≡ length entries)
  -- its place isn't in the part
  pub bad_place : old.found_bad ≡ false → (answer ≡ Err (part.BadPlace old.at first (length entries))) ↔ ((old.at < first) ⊎ (length entries < old.at))
  -- a bad place changes nothing; otherwise it stopped at its new place
  pub refused : IfErr answer (IsRefusedPart old new first entries)
  -- it found a bad entry before, and returns that again
  pub ended : old.found_bad ≡ true → (answer ≡ Err (part.BadEntry old.at)) × (new ≡ old)

-- where the part passes, all of its entries do
abbrev pub PartGoesOn : ProtectionGraph → AuditState → AuditState → ℕ → List Entry → Type 0
PartGoesOn g old new first es = FeedsPart old new first es (Ok tt) → Passes g es new

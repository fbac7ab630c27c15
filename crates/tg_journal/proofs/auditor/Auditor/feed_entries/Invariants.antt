use Rattle.std.proofs.Common.{◌≡◌, ◌+◌, take}
use Rattle.tg_model.specs.Graph.{ProtectionGraph}
use Rattle.tg_journal.specs.Auditing.{Passes, StandsAt}
use Rattle.tg_journal.proofs.auditor.Auditor.feed_entries.Given as goal

-- the entries so far passed
abbrev pub invariant-loop-entry : goal.invariant-loop-entry
invariant-loop-entry l = (l.self.at ≡ l.fn.self.at + l.entry-index) ×
    ((g : ProtectionGraph) → StandsAt g l.fn.self → Passes g (take l.entry-index l.entries) l.self)

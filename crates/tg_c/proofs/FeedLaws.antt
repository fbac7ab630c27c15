-- What a feed of an audit came to.
use Rattle.std.proofs.Common.{◌≡◌, ◌-◌, ℕ, List, Result, Ok, Err, sym, subst, take, drop}
use Rattle.std.proofs.lemmas.List.{take-append-drop}
use Rattle.tg_model.specs.Graph.{ProtectionGraph}
use Rattle.tg_journal.specs.declared.auditor.PartFault.{PartFault}
use Rattle.tg_journal.specs.declared.auditor.PartFault.TheVariants as part
use Rattle.tg_journal.specs.declared.entry.Entry.{Entry}
use Rattle.tg_journal.specs.Auditing.{FeedsPart, StandsAt}
use Rattle.tg_journal.specs.History.{IsFirstBad, IsLegal, graph_after}
use Rattle.tg_journal.specs.Live.{AuditState}
use Rattle.tg_journal.proofs.HistoryLaws.{IsFirstBad-not_legal, IsLegal-cut}
use Rattle.tg_c.specs.Audits.{told_of_feed}
use Rattle.tg_c.specs.declared.refusal.CallRefusal.TheVariants as refusal

-- in a legal history no entry after a place is the first bad one
none_bad : (s : ProtectionGraph) (entries : List Entry) (at bad : ℕ) → IsLegal s entries → IsFirstBad (graph_after s (take at entries)) (drop at entries) bad → ⊥
none_bad s entries at bad legal first =
    IsFirstBad-not_legal (graph_after s (take at entries)) (drop at entries) bad first
    (IsLegal-cut s (take at entries) (drop at entries) (subst (IsLegal s) (sym (take-append-drop at entries)) legal)).1

-- in a legal history no audit that stands where it stood finds a bad entry
pub finds_none : (s : ProtectionGraph) (old new : AuditState) (first : ℕ) (entries : List Entry) (fed : Result (Unit {0}) PartFault) → IsLegal s entries → FeedsPart old new first entries fed →
    StandsAt (graph_after s (take old.at entries)) old → told_of_feed new.at fed ≡ Err refusal.BadEntry → ⊥
finds_none s old new first entries (Ok done) legal is stands told = absurd (cc told)
finds_none s old new first entries (Err (part.BadPlace due start end)) legal is stands told = absurd (cc told)
finds_none s old new first entries (Err (part.OutOfMemory at)) legal is stands told = absurd (cc told)
finds_none s old new first entries (Err (part.BadEntry at)) legal is stands told =
    none_bad s entries old.at (at - old.at) legal (is.refused.3 (graph_after s (take old.at entries)) stands)

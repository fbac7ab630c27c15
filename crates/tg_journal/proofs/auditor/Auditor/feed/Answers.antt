use Rattle.std.proofs.Common.{◌≡◌, ◌∙◌, ◌≤◌, ℕ, List, Result, Err, false, length, drop, ap, sym, subst, arith}
use Rattle.tg_journal.specs.declared.auditor.PartFault.TheVariants as part
use Rattle.tg_journal.specs.declared.entry.Entry.{Entry}
use Rattle.tg_journal.specs.declared.replay.AuditFault.{AuditFault}
use Rattle.tg_journal.specs.Auditing.{FeedsEntries, FeedsPart}
use Rattle.tg_journal.specs.Live.{AuditState}
use Rattle.tg_journal.proofs.AuditLaws.{part_bad, part_passed, part_wanting}
use Rattle.tg_journal.proofs.PartLaws.{fed_part}
use Rattle.tg_journal.proofs.auditor.Auditor.feed.Goals as goal
use Rattle.tg_journal.proofs.auditor.Auditor.feed.Goals.{in-Ok, in-Err-BadEntry, in-Err-OutOfMemory}

pub returns : goal.returns
returns c =
    let old : AuditState = c.args.self.now in
    let new : AuditState = c.feed_entries.new.self in
    let first : ℕ = c.args.part.now.start in
    let entries : List Entry = c.args.part.now.entries in
    let told : Result (Unit {0}) AuditFault = c.feed_entries.result in
    let at_is : c.self.inside.at ≡ old.at = ap (λ (a : AuditState). a.at) c.self.view_is in
    let none : old.found_bad ≡ false = sym (ap (λ (a : AuditState). a.found_bad) c.self.view_is) ∙ c.if-self.false in
    let here : first ≤ c.self.inside.at = omega (arith, c.start-start.ensures.start, c.if-due-start.false) in
    let low : first ≤ old.at = omega (arith, here, at_is) in
    let high : old.at ≤ length entries = omega (arith, c.len-end.ensures, c.if-end-due.false, at_is) in
    let rest = fed_part entries c.entries.result.now first c.start-start.result c.self.inside.at c.start-start.ensures.start c.entries.ensures here
    ∙ ap (λ (n : ℕ). drop n entries) at_is in
    let fed : FeedsEntries old new (drop old.at entries) told = subst (λ (es : List Entry). FeedsEntries old new es told) rest c.feed_entries.ensures.fed in
    elim c.match-feed_entries.branch [
      | in-Ok w ↦ subst (FeedsPart old new first entries) (sym w.result-is)
          (part_passed old new first entries none low high (subst (FeedsEntries old new (drop old.at entries)) w.in-Ok.is fed))
      | in-Err-BadEntry w ↦ subst (FeedsPart old new first entries) (sym w.result-is)
          (part_bad old new first entries none low high w.in-Err-BadEntry.at
          (subst (FeedsEntries old new (drop old.at entries)) (w.in-Err-BadEntry.is ∙ ap (λ (e : AuditFault). Err e) w.in-Err-BadEntry.field-0-is) fed))
      | in-Err-OutOfMemory w ↦ subst (FeedsPart old new first entries)
          (sym (w.result-is ∙ ap (λ (n : ℕ). Err (part.OutOfMemory n)) (ap (λ (a : AuditState). a.at) c.self-2.view_is)))
          (part_wanting old new first entries none low high
          (subst (FeedsEntries old new (drop old.at entries)) (w.in-Err-OutOfMemory.is ∙ ap (λ (e : AuditFault). Err e) w.in-Err-OutOfMemory.field-0-is) fed))
    ]

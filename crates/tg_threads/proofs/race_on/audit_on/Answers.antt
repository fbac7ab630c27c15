use Rattle.std.proofs.Common.{◌≡◌, ◌∙◌, ℕ, List, ap, subst}
use Rattle.tg_journal.specs.declared.entry.Entry.{Entry}
use Rattle.tg_journal.specs.Auditing.{FeedsPart}
use Rattle.tg_threads.specs.Race.{race_fault_of_part}
use Rattle.tg_threads.proofs.RaceLaws.{fed_lacks, only_memory}
use Rattle.tg_threads.proofs.race_on.audit_on.Goals as goal

pub returns-in_err-feed-clause-fault : goal.returns-in_err-feed-clause-fault
returns-in_err-feed-clause-fault g c =
    let s = c.args.store.now in
    let old = c.args.auditor in
    let feeds = subst (λ (n : ℕ). FeedsPart old c.feed.new.self n s.entries c.feed.result) c.journal.ensures.start
    (subst (λ (es : List Entry). FeedsPart old c.feed.new.self c.journal.result.now.start es c.feed.result) c.journal.ensures.entries c.feed.ensures) in
    let memory = fed_lacks s old c.feed.new.self c.in_err-feed.field-0.0 c.feed.result c.in_err-feed.was c.journal.ensures.within c.requires.audit feeds in
    only_memory (race_fault_of_part c.in_err-feed.field-0.0) c.from_residual.result memory c.from_residual.ensures.1

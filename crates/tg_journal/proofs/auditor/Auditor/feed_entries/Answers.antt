use Rattle.std.proofs.Common.{◌≡◌, ◌∙◌, ◌+◌, ◌++◌, ◌∷◌, [], ℕ, List, Err, ap, arith, refl, subst, sym, take}
use Rattle.std.proofs.lemmas.List.{take_more}
use Rattle.std.proofs.lemmas.Option.{slice_get_read}
use Rattle.std.proofs.lemmas.Result.{err_from_is_err_and}
use Rattle.tg_journal.specs.declared.entry.Entry.{Entry}
use Rattle.tg_journal.specs.declared.replay.AuditFault.{AuditFault}
use Rattle.tg_journal.specs.Auditing.{FeedsEntries, Passes}
use Rattle.tg_journal.specs.History.{graph_after}
use Rattle.tg_journal.proofs.AuditLaws.{passes_both, stopped_behind}
use Rattle.tg_journal.proofs.auditor.Auditor.feed_entries.Goals as goal

pub loop-entry-preserved : goal.loop-entry-preserved
loop-entry-preserved c =
    let es : List Entry = c.args.entries.now in
    let i : ℕ = c.loop-entry.entry-index in
    let x : Entry = c.entry-item.result in
    let more : take (i + 1) es ≡ take i es ++ x ∷ [] =
    take_more es i x c.loop-entry-test.true ∙ ap (λ (y : Entry). take i es ++ y ∷ []) (sym c.entry-item.is) in (
      omega (arith, c.in_ok-replay_next.ensures.place, c.loop-entry.invariant.0),
      λ g stands.
          let was = c.loop-entry.invariant.1 g stands in
          subst (λ (l : List Entry). Passes g l c.replay_next.new.self) (sym more)
          (passes_both g (take i es) (x ∷ []) c.loop-entry.self c.replay_next.new.self was (c.in_ok-replay_next.ensures.passed (graph_after g (take i es)) was.next)),
    )

pub returns-in_err-replay_next-clause-fed : goal.returns-in_err-replay_next-clause-fed
returns-in_err-replay_next-clause-fed c =
    let es : List Entry = c.args.entries.now in
    let x : Entry = c.entry-item.result in
    let given = err_from_is_err_and c.from_residual.result c.from_residual.ensures.1 in
    let there = slice_get_read es _ c.loop-entry.entry-index x refl c.loop-entry-test.true c.entry-item.is in
    subst (FeedsEntries c.args.self.now c.replay_next.new.self es) (sym (given.1 ∙ ap (λ (e : AuditFault). Err e) given.2)) (record {
      passed = λ _ _. tt;
      end = tt;
      stopped = stopped_behind c.args.self.now c.loop-entry.self c.replay_next.new.self es c.loop-entry.entry-index x c.in_err-replay_next.field-0.0
          c.loop-entry.invariant.0 c.loop-entry-test.true there c.loop-entry.invariant.1 c.in_err-replay_next.ensures.stopped;
    })

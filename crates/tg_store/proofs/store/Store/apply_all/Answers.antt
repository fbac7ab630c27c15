-- Each command that is taken is one more of the batch.
use Rattle.std.proofs.Common.{◌≡◌, ◌+◌, ℕ, arith, refl}
use Rattle.tg_model.specs.declared.reply.Reply.{Reply}
use Rattle.tg_store.proofs.BatchLaws.{applied_more, applied_none, applied_still, refused_still}
use Rattle.tg_store.proofs.store.Store.apply_all.Goals as goal

pub loop-done-init : goal.loop-done-init
loop-done-init g c = record { applies = applied_none c.args.worker c.args.self.now; untouched = λ _. refl }

not_first : (n : ℕ) → n + 1 ≡ 0 → ⊥
not_first n zero = omega arith

pub loop-done-preserved : goal.loop-done-preserved
loop-done-preserved g c =
    let told = c.apply.ensures in
    record {
      applies = applied_more c.args.worker c.args.commands.now c.args.self.now c.loop-done.self c.apply.new.self c.loop-done.done c.index-commands-done.result c.loop-done-test.true c.index-commands-done.is c.loop-done.invariant.applies
          c.in_default.field-0 c.in_default.ensures.entry (record { opening = told.opening; handed = told.handed; limits = told.limits; collections = told.collections }) c.journal.ensures.faithful;
      untouched = λ zero. absurd (not_first c.loop-done.done zero);
    }

pub returns-in-Err-clause-stopped : goal.returns-in-Err-clause-stopped
returns-in-Err-clause-stopped g c =
    let told = c.in-Err.ensures in
    record {
      before = applied_still _ _ _ c.loop-done.self c.apply.new.self c.loop-done.invariant.applies told.refused;
      refused = refused_still Reply c.args.worker c.args.commands.now c.loop-done.self c.apply.new.self c.loop-done.done c.index-commands-done.result c.loop-done-test.true c.index-commands-done.is c.in-Err.why (told.no_such_worker, told.full) told.refused;
    }

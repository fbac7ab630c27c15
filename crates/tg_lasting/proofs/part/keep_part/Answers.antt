use Rattle.std.proofs.Common.{◌∙◌, refl, subst, sym}
use Rattle.tg_store.specs.Store.{StoreState}
use Rattle.tg_kept.specs.Keeping.{LeavesFrom}
use Rattle.tg_lasting.proofs.KeepingPartLaws.{handed_done, handed_kept}
use Rattle.tg_lasting.proofs.part.keep_part.Goals as goal

pub returns-then-is_cut-clause-kept : goal.returns-then-is_cut-clause-kept
returns-then-is_cut-clause-kept g c = λ before took. (sym c.is_cut.ensures ∙ c.if-is_cut.true, took, refl)

pub returns-in-Ok-clause-kept : goal.returns-in-Ok-clause-kept
returns-in-Ok-clause-kept g c = λ before took.
    handed_kept g.D.Disk c.args.place c.args.on.now c.hand_part.new.on c.keep_entries.new.file c.args.replied.now before (g.K.Sink.taken c.hand_part.new.sink) c.hand_part.result (sym c.is_cut.ensures ∙ c.if-is_cut.false) (c.hand_part.ensures.handed before took)

pub returns-in-Ok-clause-done : goal.returns-in-Ok-clause-done
returns-in-Ok-clause-done g c = handed_done g.D.Disk c.args.on.now c.hand_part.new.on c.keep_entries.new.file c.args.replied.now c.hand_part.result c.hand_part.ensures.done

pub returns-in-Err-clause-kept : goal.returns-in-Err-clause-kept
returns-in-Err-clause-kept g c = λ before took.
    let L : StoreState → Type 0 = λ s. LeavesFrom g.D.Disk c.args.place s c.args.on.now.file.disk c.keep_entries.new.file.disk in
    (sym c.is_cut.ensures ∙ c.if-is_cut.false, took, subst L c.store.ensures c.in-Err.ensures.lost)

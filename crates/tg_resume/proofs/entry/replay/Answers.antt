use Rattle.std.proofs.Common.{◌∙◌, ap, sym}
use Rattle.tg_model.specs.declared.command.Deed.TheVariants.{Create, Spawn}
use Rattle.tg_model.specs.declared.value.Value.{Value}
use Rattle.tg_resume.proofs.Replaying.{replayed_as}
use Rattle.tg_resume.proofs.entry.replay.Goals as goal
use Rattle.tg_resume.proofs.entry.replay.Goals.{in-Plain+in_ok-reply-in-Plain, in-Create+in_ok-draft-in-Create+in_ok-reply-in-Create, in-Spawn+in_ok-draft-in-Spawn+in_ok-reply-in-Spawn}

pub returns : goal.returns
returns g c =
    let old = c.args.store.now in
    let e = c.args.entry.now in
    elim c.match-entry.branch [
      | in-Plain+in_ok-reply-in-Plain w ↦
          replayed_as e old c.match-entry.store _ c.match-entry.reply c.same.result w.apply.new.store w.in_ok-reply-in-Plain.reply w.store-is w.reply-is
          w.in-Plain.is w.in_ok-reply-in-Plain.ensures c.journal.ensures.faithful c.same.ensures
      | in-Create+in_ok-draft-in-Create+in_ok-reply-in-Create w ↦
          replayed_as e old c.match-entry.store _ c.match-entry.reply c.same.result w.make.new.store w.in_ok-reply-in-Create.reply w.store-is w.reply-is
          (w.in-Create.is ∙ ap (λ (v : Value). Create w.in-Create.label v.law v.state) (sym w.in_ok-draft-in-Create.ensures)) w.in_ok-reply-in-Create.ensures c.journal.ensures.faithful c.same.ensures
      | in-Spawn+in_ok-draft-in-Spawn+in_ok-reply-in-Spawn w ↦
          replayed_as e old c.match-entry.store _ c.match-entry.reply c.same.result w.make-in-Spawn.new.store w.in_ok-reply-in-Spawn.reply w.store-is w.reply-is
          (w.in-Spawn.is ∙ ap (λ (v : Value). Spawn w.in-Spawn.label v.law v.state) (sym w.in_ok-draft-in-Spawn.ensures)) w.in_ok-reply-in-Spawn.ensures c.journal.ensures.faithful c.same.ensures
    ]

use Rattle.std.proofs.Common.{refl, ◌∙◌}
use Rattle.tg_text.specs.declared.answer.Answer.TheVariants as told
use Rattle.tg_text.specs.declared.line.Line.TheVariants as line
use Rattle.tg_script.specs.declared.run.Run.{Run}
use Rattle.tg_script.specs.Refusals.{apply_refusal}
use Rattle.tg_script.specs.Inner.Supply.{values_left}
use Rattle.tg_script.proofs.RunLaws.{apply_done, apply_refused, handles_behind, makes_none}
use Rattle.tg_script.proofs.run.Run.apply.Goals as goal

pub returns-in-Ok : goal.returns-in-Ok
returns-in-Ok g c =
    let old = c.args.self.now in
    let mid : Run _ = record { store = c.apply.new.self; supply = old.supply; helpers = old.helpers } in
    let same = c.heed.ensures.same in
    record {
      answered = handles_behind old.store (values_left old.supply) old.helpers (line.Plain c.args.worker c.args.command) (told.Reply c.in-Ok.reply) mid c.heed.new.store
          (apply_done old mid c.args.worker c.args.command c.in-Ok.reply c.in-Ok.ensures.reply c.in-Ok.ensures.step c.in-Ok.ensures.no_such_worker refl refl) same;
      entered = record {
        entry = record { entries = same.entries ∙ c.in-Ok.ensures.entry; opening = same.opening ∙ c.in-Ok.ensures.opening };
        held = λ holds. c.heed.ensures.held holds ∙ c.in-Ok.ensures.handed;
      };
    }

pub returns-in-Err : goal.returns-in-Err
returns-in-Err g c =
    let new : Run _ = record { store = c.apply.new.self; supply = c.args.self.now.supply; helpers = c.args.self.now.helpers } in
    let same = c.in-Err.ensures.refused in
    rw c.apply_refusal.ensures (
    record {
      answered = apply_refused c.args.self.now new c.args.worker c.args.command c.in-Err.fault c.in-Err.ensures.no_such_worker
          (λ h stands is. let f = c.in-Err.ensures.full h stands is in (f.0, f.1))
          same refl refl;
      entered = record { entry = makes_none c.args.self.now.store c.apply.new.self (values_left c.args.self.now.supply) (line.Plain c.args.worker c.args.command) (told.Refused (apply_refusal c.in-Err.fault)) refl same.entries same.opening; held = λ holds. same.handed };
    }
    )

use Rattle.std.proofs.Common.{◌∙◌, ap₂}
use Rattle.std.specs.Option.{unwrap_or}
use Rattle.tg_past.proofs.LostLaws.{row_changed}
use Rattle.tg_past.proofs.lost.LostRights.add.Goals as goal

pub returns : goal.returns
returns c =
    row_changed c.args.self.now.rows c.remove.new.self c.insert.new.self c.args.from c.args.to c.args.label c.unwrap_or-row.result c.add.new.self c.remove.ensures.updates.0
    c.in_ok-insert.ensures.updates.0 (c.unwrap_or-row.ensures ∙ ap₂ unwrap_or c.remove.ensures.value c.new.ensures) c.in_ok-add.ensures.ok

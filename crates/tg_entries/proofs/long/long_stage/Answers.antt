use Rattle.tg_entries.proofs.ReadLaws.{may_list}
use Rattle.tg_entries.proofs.long.long_stage.Goals as goal

pub returns-in-Joint : goal.returns-in-Joint
returns-in-Joint g c = λ text was. c.long_entry-in-Joint.ensures c.args.means.keeps text (may_list c.args.means.keeps text c.args.stage c.in-Joint.entered c.in-Joint.is was)

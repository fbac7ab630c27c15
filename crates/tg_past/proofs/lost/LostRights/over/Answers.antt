use Rattle.std.proofs.Common.{◌∙◌, [], ap}
use Rattle.std.specs.Option.{unwrap_or}
use Rattle.tg_model.specs.Plain.{rights_in_row}
use Rattle.tg_past.proofs.lost.LostRights.over.Goals as goal

pub returns-in-Some : goal.returns-in-Some
returns-in-Some c = c.rights_over.ensures ∙ ap (λ o. rights_in_row (unwrap_or o []) c.args.to) c.in-Some.ensures.value

pub returns-in-None : goal.returns-in-None
returns-in-None c = c.empty.ensures ∙ ap (λ o. rights_in_row (unwrap_or o []) c.args.to) c.in-None.ensures.value

use Rattle.std.proofs.Common.{◌∙◌, ap}
use Rattle.tg_rights.specs.RightSet.{label_of}
use Rattle.tg_store.proofs.store.holders.label_between.Goals as goal

pub returns-in_err-found : goal.returns-in_err-found
returns-in_err-found g c = c.from_residual.ensures ∙ ap label_of c.in_err-found.ensures.rights

pub returns : goal.returns
returns g c = c.new.ensures ∙ ap label_of c.in_ok-found.ensures.rights

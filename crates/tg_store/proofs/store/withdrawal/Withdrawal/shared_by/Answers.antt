use Rattle.std.proofs.Common.{◌∙◌, ap, sym}
use Rattle.tg_rights.specs.RightSet.{label_of}
use Rattle.tg_store.specs.Holding.{common}
use Rattle.tg_store.proofs.WithdrawLaws.{nothing_shared}
use Rattle.tg_store.proofs.store.withdrawal.Withdrawal.shared_by.Goals as goal

pub returns-in_err-found : goal.returns-in_err-found
returns-in_err-found g c = c.from_residual.ensures ∙ ap label_of (sym (nothing_shared c.args.self.now.rights) ∙ ap (common c.args.self.now.rights) c.in_err-found.ensures.rights)

pub returns : goal.returns
returns g c = c.rights_shared.ensures ∙ ap label_of ((λ i. common (c.rights.ensures.same i) c.in_ok-found.found.rights) ∙ ap (common c.args.self.now.rights) c.in_ok-found.ensures.rights)

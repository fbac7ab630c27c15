use Rattle.std.proofs.Common.{◌∙◌, ap}
use Rattle.tg_rights.specs.RightSet.{label_of, minus}
use Rattle.tg_store.proofs.HoldingLaws.{minus-minus}
use Rattle.tg_store.proofs.store.holders.rights_shared.Goals as goal

pub returns : goal.returns
returns c =
    c.new.ensures ∙ ap label_of (c.minus-2.ensures ∙ ap (minus c.args.some) c.minus.ensures ∙ minus-minus c.args.some c.args.others)

use Rattle.std.proofs.Common.{◌∙◌, ap, sym, refl}
use Rattle.std.proofs.lemmas.Bool.{false≢true}
use Rattle.tg_rights.specs.RightSet.{holds_all}
use Rattle.tg_rights.proofs.RightLaws.{holds_all-only}
use Rattle.tg_could.proofs.what.What.of.Goals as goal

pub returns-else-contains : goal.returns-else-contains
returns-else-contains c =
    let has = c.contains.ensures ∙ (ap (holds_all c.over.result) c.of.ensures ∙ holds_all-only c.over.result c.args.right) in (
      λ never. (c.over.ensures c.args.right).0 (λ is. false≢true (sym c.if-contains.false ∙ (has ∙ is))),
      λ left. refl,
    )

use Rattle.std.proofs.Common.{◌∙◌, List, ap, subst}
use Rattle.tg_rights.specs.RightSet.{has}
use Rattle.tg_rights.specs.declared.Right.TheVariants.{G}
use Rattle.tg_model.specs.declared.edge.Edge.{Edge}
use Rattle.tg_model.specs.Opened.{label_in}
use Rattle.tg_model.specs.Picture.{Holds}
use Rattle.tg_could.specs.Led.{is_given}
use Rattle.tg_could.proofs.SettledLaws.{reached_brings}
use Rattle.tg_could.proofs.separation.led.LedNames.lead_to.Goals as goal

pub returns-else-reach-clause-brought : goal.returns-else-reach-clause-brought
returns-else-reach-clause-brought c t right y g picture led =
    let (a, granted, inside) = c.grant_to.ensures.given t in
    let shown = subst (λ (es : List Edge). Holds (label_in es) a G c.args.x) c.edges.ensures granted in
    is_given (ap (λ m. has m G) (picture.labels a c.args.x) ∙ shown) (led.on a inside)

pub returns-then-reach-clause-brought : goal.returns-then-reach-clause-brought
returns-then-reach-clause-brought c t right y g picture led =
    let (v, acts, which, inside) = c.reach.ensures.reached t in
    reached_brings c.args.scene.now.silent.now c.args.scene.now.picture.now g picture c.args.x right y c.args.self.now led v acts which inside

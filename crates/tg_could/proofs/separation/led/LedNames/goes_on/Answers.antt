use Rattle.std.proofs.Common.{List, sym, subst}
use Rattle.std.specs.List.{All}
use Rattle.tg_model.specs.declared.edge.Edge.{Edge}
use Rattle.tg_could.specs.Separation.{Sides}
use Rattle.tg_could.specs.LedNames.{sides_led, number_led}
use Rattle.tg_could.proofs.SettledLaws.{KeepsAt, pictured-among, more_than, none_new}
use Rattle.tg_could.proofs.separation.led.LedNames.goes_on.Goals as goal

pub returns-clause-led : goal.returns-clause-led
returns-clause-led c g picture led =
    c.in_ok-turn.ensures.led c.args.right g picture
    (c.in_ok-go_along.ensures.led c.args.scene.now.silent.now g (pictured-among c.args.scene.now.picture.now g picture c.edges.result.now c.edges.ensures) led)

pub returns-clause-more : goal.returns-clause-more
returns-clause-more c more =
    more_than c.len-before.result c.len.result (number_led c.args.self.now) (number_led c.turn.new.self) c.len-before.ensures c.len.ensures more

pub returns-clause-edges : goal.returns-clause-edges
returns-clause-edges c none =
    let mid = c.go_along.new.self in
    let same =
    none_new c.len-before.result c.len.result (number_led c.args.self.now) (number_led mid) (number_led c.turn.new.self) c.len-before.ensures c.len.ensures none
    c.in_ok-go_along.ensures.more c.in_ok-turn.ensures.more in
    subst (λ (s : Sides). All (KeepsAt s c.args.right c.args.y) c.args.scene.now.picture.now.edges) (sym (c.in_ok-turn.ensures.still same.1).0)
    (subst (λ (es : List Edge). All (KeepsAt (sides_led mid) c.args.right c.args.y) es) c.edges.ensures (c.in_ok-go_along.ensures.still same.0).1)

pub returns-clause-actors : goal.returns-clause-actors
returns-clause-actors c none =
    let same =
    none_new c.len-before.result c.len.result (number_led c.args.self.now) (number_led c.go_along.new.self) (number_led c.turn.new.self) c.len-before.ensures c.len.ensures none
    c.in_ok-go_along.ensures.more c.in_ok-turn.ensures.more in
    (c.in_ok-turn.ensures.still same.1).1

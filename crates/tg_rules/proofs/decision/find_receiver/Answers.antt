use Rattle.std.proofs.Common.{◌≡◌, ◌∙◌, ◌==◌, ◌||◌, None, ap}
use Rattle.std.specs.Option.{option_or}
use Rattle.std.specs.Prelude.{Option}
use Rattle.tg_rights.specs.RightSet.{only}
use Rattle.tg_rights.specs.declared.Right.TheVariants as right
use Rattle.tg_model.specs.Rules.{unless_distinct, unless_held}
use Rattle.tg_model.specs.declared.reply.Denial.{Denial}
use Rattle.tg_model.specs.declared.reply.Rule.TheVariants as rule
use Rattle.tg_graph.specs.Heap.{content_of}
use Rattle.tg_rules.proofs.ReceiverLaws.{receiver_denial}
use Rattle.tg_rules.proofs.decision.find_receiver.Goals as goal

pub returns-clause-denial : goal.returns-clause-denial
returns-clause-denial g c =
    let content = content_of c.args.heap.now in
    let x = c.args.subject.name in
    let y = c.args.to in
    let z = c.args.met.target.name in
    let distinct : ◌≡◌ {A = Option Denial} None (unless_distinct rule.Grant ((x == y) || (y == z) || (x == z))) = c.in_ok-check_distinct.ensures ∙ ap (unless_distinct rule.Grant) c.are_two_the_same.ensures in
    let held : ◌≡◌ {A = Option Denial} None (unless_held content.label rule.Grant x y (only right.G)) =
    c.in_ok-receiver.ensures.denial ∙ (λ i. unless_held content.label rule.Grant (c.vertex_of.ensures i).name y (c.of.ensures i)) in
    λ rights. (λ i. option_or (distinct i) (held i)) ∙ receiver_denial content.label content.value x y z rights

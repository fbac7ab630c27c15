use Rattle.std.proofs.Common.{get_or, length, ap, ◌∙◌, arith, subst, ℕ}
use Rattle.tg_c.proofs.SightLaws.{HasMore, all_shown, edges_more, edges_none, none_on, subjects_more}
use Rattle.tg_c.proofs.view.sight.names_shown.Goals as goal

pub loop-subject-init : goal.loop-subject-init
loop-subject-init c = none_on c.new-names.result.keys c.new-names.ensures.empty

pub loop-subject-preserved : goal.loop-subject-preserved
loop-subject-preserved c =
    let i = c.loop-subject.subject-index in
    let old = c.loop-subject.names.keys in
    let same = c.subjects-subject-items.ensures in
    subjects_more c.args.picture.now.subjects i old c.insert.new.self.keys (omega (arith, c.loop-subject-test.true, ap length same)) c.loop-subject.invariant
    (subst (λ (n : ℕ). HasMore old c.insert.new.self.keys n) (ap (λ ns. get_or ns i 0) same) c.in_ok-insert.ensures.updates.0)

pub loop-edge-init : goal.loop-edge-init
loop-edge-init c =
    edges_none c.args.picture.now.subjects c.loop-subject.subject-index c.loop-subject.names.keys
    (omega (arith, c.loop-subject-test.false, ap length c.subjects-subject-items.ensures)) c.loop-subject.invariant

pub loop-edge-preserved : goal.loop-edge-preserved
loop-edge-preserved c =
    let i = c.loop-edge.edge-index in
    let edge = c.edge-item.result in
    let same = c.edges-edge-items.ensures in
    edges_more c.args.picture.now.subjects c.args.picture.now.edges i edge c.loop-edge.names.keys c.insert-in-loop-edge.new.self.keys
    (omega (arith, c.loop-edge-test.true, ap length same)) (c.edge-item.is ∙ ap (λ es. get_or es i edge) same) c.loop-edge.invariant c.in_ok-insert-2.ensures.updates.0

pub returns : goal.returns
returns c =
    all_shown c.args.picture.now c.loop-edge.edge-index c.loop-edge.names.keys (omega (arith, c.loop-edge-test.false, ap length c.edges-edge-items.ensures)) c.loop-edge.invariant

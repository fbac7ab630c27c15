use Rattle.std.proofs.Common.{◌≡◌, ◌<◌, ℕ, List, length, get_or, refl, subst, arith}
use Rattle.std.proofs.lemmas.List.{get_or_default}
use Rattle.tg_could.specs.LedNames.{sides_led}
use Rattle.tg_could.proofs.MarkLaws.{one-more}
use Rattle.tg_could.proofs.SettledLaws.{IsTurnedAt, turns_more}
use Rattle.tg_could.proofs.separation.led.LedNames.turn.Goals as goal

pub loop-subject-init : goal.loop-subject-init
loop-subject-init c = record {
  led = λ r g picture led. led;
  more = omega arith;
  still = λ same. (refl, λ k d low below. absurd (omega (arith, below)));
}

pub loop-subject-preserved : goal.loop-subject-preserved
loop-subject-preserved c =
    let i = c.loop-subject.subject-index in
    let seen = c.subjects-subject-items.result.now in
    let v = get_or seen i 0 in
    let inside = c.loop-subject-test.true in
    let here : v ≡ get_or seen i v = get_or_default seen i 0 v inside in
    turns_more c.args.scene.now.silent.now c.args.scene.now.picture.now c.args.y c.args.self.now c.loop-subject.self c.put.new.self i v c.in-Some.forward c.loop-subject.invariant
    (subst (λ (l : List ℕ). i < length l) c.subjects-subject-items.ensures inside)
    (subst (λ (l : List ℕ). v ≡ get_or l i v) c.subjects-subject-items.ensures here)
    c.in-Some.ensures.acts c.in-Some.ensures.leads c.in_ok-put.ensures.put (c.in_ok-put.ensures.more c.in-Some.ensures.new)

pub loop-subject-preserved-in_default : goal.loop-subject-preserved-in_default
loop-subject-preserved-in_default c =
    let p = c.args.scene.now.picture.now in
    let was = c.loop-subject.invariant in
    record {
      led = was.led;
      more = was.more;
      still = λ same.
          let so_far = was.still same in (
            so_far.0,
            one-more (IsTurnedAt c.args.scene.now.silent.now p c.args.y (sides_led c.loop-subject.self)) c.subjects-subject-items.result.now p.subjects c.loop-subject.subject-index 0
                c.subjects-subject-items.ensures c.loop-subject-test.true so_far.1 c.in_default.ensures.turned,
          );
    }

use Rattle.std.proofs.Common.{◌≡◌, ◌⊎◌, ◌<◌, ℕ, List, false, get_or, subst}
use Rattle.std.proofs.lemmas.List.{get_or_default}
use Rattle.std.specs.List.{Contains}
use Rattle.tg_could.specs.Separation.{ComesLater}
use Rattle.tg_could.specs.LedNames.{sides_led}
use Rattle.tg_could.proofs.MarkLaws.{one-more}
use Rattle.tg_could.proofs.separation.led.LedNames.reach.Goals as goal

pub loop-subject-preserved : goal.loop-subject-preserved
loop-subject-preserved c =
    let p = c.args.scene.now.picture.now in
    let P : ℕ → Type 0 = λ v. ¬ (Contains c.args.scene.now.silent.now v × (v < p.made)) → (v ≡ c.args.x) ⊎ ComesLater p c.args.x → (sides_led c.args.self.now).back v ≡ false in
    one-more P c.subjects-subject-items.result.now p.subjects c.loop-subject.subject-index 0 c.subjects-subject-items.ensures c.loop-subject-test.true
    c.loop-subject.invariant (c.reaches_by.ensures.not_taken c.if-reaches_by.false)

pub returns-then-reaches_by-clause-reached : goal.returns-then-reaches_by-clause-reached
returns-then-reaches_by-clause-reached c t =
    let seen = c.subjects-subject-items.result.now in
    let i = c.loop-subject.subject-index in
    let v = get_or seen i 0 in
    let reached = c.reaches_by.ensures.reached c.if-reaches_by.true in
    let there : Contains seen v = (i, c.loop-subject-test.true, get_or_default seen i v 0 c.loop-subject-test.true) in
    (v, (subst (λ (l : List ℕ). Contains l v) c.subjects-subject-items.ensures there, reached.0), reached.1, reached.2)

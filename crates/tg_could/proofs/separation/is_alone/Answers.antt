use Rattle.std.proofs.Common.{◌≡◌, ◌<◌, ℕ, inr, List, get_or, subst}
use Rattle.std.proofs.lemmas.Bool.{false≢true}
use Rattle.std.proofs.lemmas.List.{get_or_default}
use Rattle.std.specs.List.{Contains}
use Rattle.tg_could.proofs.MarkLaws.{one-more, all-seen}
use Rattle.tg_could.proofs.separation.is_alone.Goals as goal

pub loop-subject-preserved : goal.loop-subject-preserved
loop-subject-preserved c =
    let P : ℕ → Type 0 = λ v. ¬ (Contains c.args.scene.now.silent.now v × (v < c.args.scene.now.picture.now.made)) → v ≡ c.args.y in
    one-more P c.subjects-subject-items.result.now c.args.scene.now.picture.now.subjects c.loop-subject.subject-index 0 c.subjects-subject-items.ensures c.loop-subject-test.true
    c.loop-subject.invariant (c.is_or_is_silent.ensures.is c.if-not-is_or_is_silent.false)

pub returns-then-not-is_or_is_silent-clause-helped : goal.returns-then-not-is_or_is_silent-clause-helped
returns-then-not-is_or_is_silent-clause-helped c same =
    let seen = c.subjects-subject-items.result.now in
    let subjects = c.args.scene.now.picture.now.subjects in
    let i = c.loop-subject.subject-index in
    let v = get_or seen i 0 in
    let other = c.is_or_is_silent.ensures.other c.if-not-is_or_is_silent.true in
    let there : Contains seen v = (i, c.loop-subject-test.true, get_or_default seen i v 0 c.loop-subject-test.true) in
    inr (v, (subst (λ (l : List ℕ). Contains l v) c.subjects-subject-items.ensures there, other.0), other.1)

pub returns-clause-alone : goal.returns-clause-alone
returns-clause-alone c t =
    let P : ℕ → Type 0 = λ v. ¬ (Contains c.args.scene.now.silent.now v × (v < c.args.scene.now.picture.now.made)) → v ≡ c.args.y in
    all-seen P c.subjects-subject-items.result.now c.args.scene.now.picture.now.subjects c.loop-subject.subject-index c.subjects-subject-items.ensures c.loop-subject-test.false
    c.loop-subject.invariant

pub returns-then-not-is_or_is_silent-clause-many : goal.returns-then-not-is_or_is_silent-clause-many
returns-then-not-is_or_is_silent-clause-many c t = absurd (false≢true t)

pub returns-then-not-is_or_is_silent-clause-alone : goal.returns-then-not-is_or_is_silent-clause-alone
returns-then-not-is_or_is_silent-clause-alone c t = absurd (false≢true t)

use Rattle.std.proofs.Common.{◌≡◌, ◌++◌, ◌∷◌, [], ℕ, List, slice_index_or, sym, subst, arith}
use Rattle.std.specs.List.{Contains}
use Rattle.std.proofs.lemmas.List.{get_or_default}
use Rattle.std.proofs.lemmas.List.Elements.{All-contains, AllWithin-more, Contains-push, Contains-append_left}
use Rattle.tg_model.specs.Graph.{ProtectionGraph, without_subject}
use Rattle.tg_model.specs.Picture.{IsPictureOf}
use Rattle.tg_could.specs.Turns.{NeverHolds}
use Rattle.tg_could.proofs.enough.needs.Goals as goal

pushed : (old new : List ℕ) (x : ℕ) → new ≡ old ++ x ∷ [] → Contains new x
pushed old new x is = subst (λ (l : List ℕ). Contains l x) (sym is) (Contains-push old x)

pub loop-host-preserved-then-not-would_do : goal.loop-host-preserved-then-not-would_do
loop-host-preserved-then-not-would_do c =
    let silent = c.args.scene.now.silent.now in
    let P : ℕ → Type 0 = λ h. ¬ Contains c.loop-host.enough.items h → (k : ProtectionGraph) → IsPictureOf c.args.scene.now.picture.now k → NeverHolds (without_subject silent h) k c.args.question.x c.args.question.right c.args.question.y in
    AllWithin-more P silent 0 c.loop-host.host-index c.loop-host.invariant
    (λ d. subst P (get_or_default silent c.loop-host.host-index _ d c.loop-host-test.true) (λ out. c.in_ok-would_do.ensures c.if-not-would_do.true))

pub loop-host-preserved : goal.loop-host-preserved
loop-host-preserved c =
    let silent = c.args.scene.now.silent.now in
    let old = c.loop-host.enough.items in
    let new = c.push.new.self.items in
    let is = c.in_ok-push.ensures.items in
    let P : ℕ → Type 0 = λ h. ¬ Contains new h → (k : ProtectionGraph) → IsPictureOf c.args.scene.now.picture.now k → NeverHolds (without_subject silent h) k c.args.question.x c.args.question.right c.args.question.y in
    AllWithin-more P silent 0 c.loop-host.host-index
    (λ k d low below out.
    c.loop-host.invariant k d low below
    (λ was. out (subst (λ (l : List ℕ). Contains l (slice_index_or silent k d)) (sym is) (Contains-append_left old _ (slice_index_or silent k d) was))))
    (λ d out. absurd (out (subst (Contains new) (get_or_default silent c.loop-host.host-index _ d c.loop-host-test.true) (pushed old new _ is))))

pub returns : goal.returns
returns c g picture host silent untold =
    All-contains
    (λ (h : ℕ). ¬ Contains c.loop-host.enough.items h → (k : ProtectionGraph) → IsPictureOf c.args.scene.now.picture.now k → NeverHolds (without_subject c.args.scene.now.silent.now h) k c.args.question.x c.args.question.right c.args.question.y)
    c.args.scene.now.silent.now host (λ k d inside. c.loop-host.invariant k d (omega arith) (omega arith)) silent untold g picture

use Rattle.std.proofs.Common.{◌≡◌, ◌<◌, ◌∙◌, ◌∷◌, ◌++◌, [], ℕ, List, ap, sym, subst, length, get_or, arith}
use Rattle.tg_model.specs.Picture.{Shown}
use Rattle.tg_rebuild.specs.Inner.Raising.{CanSpawn}
use Rattle.tg_rebuild.proofs.RaisingLaws.{can_spawn, next_names}
use Rattle.tg_rebuild.proofs.subjects.add_subjects.Goals as goal

pub spawn-requires : goal.spawn-requires
spawn-requires g c =
    let p = c.args.snapshot.now in
    let at : ℕ = c.loop-at.at in
    let name : ℕ = get_or c.subjects-subjects.result.now at 0 in
    let same : c.subjects-subjects.result.now ≡ p.picture.subjects = c.subjects-subjects.ensures ∙ ap (λ (s : Shown). s.subjects) c.picture.ensures.picture in
    let inside : at < length p.picture.subjects = omega (arith, c.loop-at-test.true, ap length same) in
    subst (λ (x : ℕ). CanSpawn p x name c.loop-at.heap) (sym c.requires.holder)
    (can_spawn p c.picture.ensures.accepted at c.loop-at.heap c.loop-at.invariant.raised c.loop-at.invariant.subjects c.loop-at.auto.at inside name (ap (λ (xs : List ℕ). get_or xs at 0) same))

pub loop-at-preserved : goal.loop-at-preserved
loop-at-preserved g c =
    let p = c.args.snapshot.now in
    let at : ℕ = c.loop-at.at in
    let name : ℕ = get_or c.subjects-subjects.result.now at 0 in
    let same : c.subjects-subjects.result.now ≡ p.picture.subjects = c.subjects-subjects.ensures ∙ ap (λ (s : Shown). s.subjects) c.picture.ensures.picture in
    let inside : at < length p.picture.subjects = omega (arith, c.loop-at-test.true, ap length same) in
    let spawns = c.in_ok-spawn.ensures in
    let was = c.loop-at.invariant in
    record {
      raised = spawns.raised;
      subjects = spawns.subjects ∙ ap (λ (xs : List ℕ). xs ++ name ∷ []) was.subjects ∙ next_names p.picture.subjects at name inside (ap (λ (xs : List ℕ). get_or xs at 0) same);
      kept = record {
        limits = spawns.kept.limits ∙ was.kept.limits;
        vertices = λ x q is. spawns.kept.vertices x q (was.kept.vertices x q is);
      };
    }

use Rattle.std.proofs.Common.{◌≡◌, ◌∙◌, ap, length, arith}
use Rattle.tg_model.specs.Picture.{Shown}
use Rattle.tg_rebuild.proofs.RaisingLaws.{none_left}
use Rattle.tg_rebuild.proofs.subjects.leave_none.Goals as goal

pub returns-clause-subjects : goal.returns-clause-subjects
returns-clause-subjects g c =
    let p = c.args.snapshot.now in
    let same : c.subjects-subjects.result.now ≡ p.picture.subjects = c.subjects-subjects.ensures ∙ ap (λ (s : Shown). s.subjects) c.picture.ensures.picture in
    none_left p.picture.subjects c.args.heap.now.subjects c.retire.new.self.subjects (omega (arith, c.if-subjects-gt0.false, ap length same)) c.requires c.retire.ensures.subjects

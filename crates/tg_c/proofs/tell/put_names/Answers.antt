use Rattle.std.proofs.Common.{◌<◌, length, refl, arith}
use Rattle.tg_subjects.specs.declared.subject.Subject.{Subject}
use Rattle.tg_c.proofs.ShownLaws.{shown_more}
use Rattle.tg_c.proofs.tell.put_names.Goals as goal

pub loop-i-preserved : goal.loop-i-preserved
loop-i-preserved c =
    let low : c.loop-i.i < length c.args.subjects.now = omega arith in
    let high : c.loop-i.i < length c.args.out.now = omega arith in
    shown_more (λ (x : Subject). x.name) c.args.subjects.now c.args.out.now c.loop-i.out c.loop-i.i _ _ low high c.loop-i.invariant
    refl

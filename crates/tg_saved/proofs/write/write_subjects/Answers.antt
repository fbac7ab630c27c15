use Rattle.std.proofs.Common.{[]}
use Rattle.tg_text.proofs.SinkLaws.{writes_cut_at}
use Rattle.tg_saved.specs.Texts.{subject_text}
use Rattle.tg_saved.proofs.write.write_subjects.Goals as goal

pub returns-in_err-write_subject : goal.returns-in_err-write_subject
returns-in_err-write_subject g c = writes_cut_at subject_text c.args.subjects.now c.loop-name.name-index 0 [] _ _ _ _ _ _ _ c.loop-name-test.true c.from_residual.ensures.0 c.loop-name.invariant c.in_err-write_subject.ensures

use Rattle.std.proofs.Common.{refl}
use Rattle.tg_model.proofs.SoundLaws.{create-subjects, spawn-subjects, command-subjects, retired, subject-step, step-limit}
use Rattle.tg_model.proofs.laws.subjects_come_and_go.Goals as goal

pub returns : goal.returns
returns c = record {
  create = create-subjects;
  command = command-subjects;
  spawn = λ g x label law state room. spawn-subjects g x label law state room.0 room.1;
  retire = retired;
  left = λ g x. refl;
  none = λ g x y deed. subject-step g x deed y;
  limit = step-limit;
}

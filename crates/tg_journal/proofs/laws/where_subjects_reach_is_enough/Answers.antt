use Rattle.tg_journal.proofs.AlikeLaws.{answer_alike, step_alike, entry_alike}
use Rattle.tg_journal.proofs.laws.where_subjects_reach_is_enough.Goals as goal

pub returns : goal.returns
returns c = record {
  answer = λ g kept x deed come subject. answer_alike g kept come x subject deed;
  step = λ g kept x deed come subject. step_alike g kept come x subject deed;
  entry = λ g kept e come. entry_alike g kept come e;
}

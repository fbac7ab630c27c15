use Rattle.tg_could.proofs.ExactLaws.{each_question}
use Rattle.tg_could.proofs.laws.each_question_has_an_answer.Goals as goal

pub returns : goal.returns
returns c silent g x y right sound long = each_question silent g x right y sound long

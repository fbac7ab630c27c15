use Rattle.tg_graph.proofs.StandingLaws.{denial_of-stands, answer_of-stands}
use Rattle.tg_rules.proofs.DecisionLaws.{answer-served, answer-denied}
use Rattle.tg_rules.proofs.laws.decisions_on_a_content_are_its_graphs.Goals as goal

pub returns : goal.returns
returns c = record {
  denial = λ content g x stands command. denial_of-stands content g stands.content x command stands.subject;
  answer = λ content g x stands command. answer_of-stands content g stands.content x command stands.subject;
  served = λ content g x stands command. answer-served content g stands.content x command stands.subject;
  denied = λ content g x stands command. answer-denied content g stands.content x command stands.subject;
}

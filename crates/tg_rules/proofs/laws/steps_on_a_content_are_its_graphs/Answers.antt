use Rattle.tg_graph.proofs.StandingLaws.{StandsFor-served, StandsFor-denied, StandsFor-created, StandsFor-spawned, StandsFor-full, not_named-made}
use Rattle.tg_rules.proofs.laws.steps_on_a_content_are_its_graphs.Goals as goal

pub returns : goal.returns
returns c = record {
  served = λ content g x stands new. StandsFor-served content new g stands.content x stands.subject;
  denied = λ content g x stands new. StandsFor-denied content new g stands.content x stands.subject;
  created = λ content g x stands new label law state. StandsFor-created content new g stands.content x label law state stands.only_named stands.sound stands.subject;
  spawned = λ content g x stands new label law state. StandsFor-spawned content new g stands.content x label law state stands.only_named stands.sound stands.subject;
  full = λ content g x stands new. StandsFor-full content new g stands x;
  new_name = not_named-made;
}

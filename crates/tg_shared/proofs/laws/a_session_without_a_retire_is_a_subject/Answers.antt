use Rattle.tg_shared.proofs.SpawnLaws.{from_a_spawn, from_the_start}
use Rattle.tg_shared.proofs.laws.a_session_without_a_retire_is_a_subject.Goals as goal

pub returns : goal.returns
returns c = record { from_the_start = from_the_start; spawned = from_a_spawn }

use Rattle.tg_snapshot.proofs.GraphLaws.{IsSound-shown}
use Rattle.tg_snapshot.proofs.laws.snapshots_show_sound_graphs.Goals as goal

pub returns : goal.returns
returns c = IsSound-shown

use Rattle.tg_snapshot.proofs.OneForm.{one_form}
use Rattle.tg_snapshot.proofs.laws.one_graph_has_one_snapshot.Goals as goal

pub returns : goal.returns
returns c = one_form

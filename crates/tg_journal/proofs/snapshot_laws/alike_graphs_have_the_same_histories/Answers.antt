use Rattle.tg_journal.proofs.GoingOn.{legal_whole, legal_kept}
use Rattle.tg_journal.proofs.snapshot_laws.alike_graphs_have_the_same_histories.Goals as goal

pub returns : goal.returns
returns c = record {
  legal = λ g kept es come. (λ legal. (legal_whole g kept es come legal).0, λ legal. legal_kept g kept es come legal);
  next = λ g kept es come legal. (legal_whole g kept es come legal).1;
}

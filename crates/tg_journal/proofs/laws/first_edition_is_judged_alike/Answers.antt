use Rattle.tg_model.proofs.Edition1Laws.{start-now}
use Rattle.tg_model.specs.Edition1.{start_of1}
use Rattle.tg_journal.proofs.Edition1Laws.{legal-today, legal_front-today, first_bad-today}
use Rattle.tg_journal.proofs.laws.first_edition_is_judged_alike.Goals as goal

pub returns : goal.returns
returns c = record {
  legal = λ plan es. rw (start-now plan) (legal-today (start_of1 plan) es);
  front = λ plan es at. rw (start-now plan) (legal_front-today (start_of1 plan) es at);
  place = λ plan es at. rw (start-now plan) (first_bad-today (start_of1 plan) es at);
}

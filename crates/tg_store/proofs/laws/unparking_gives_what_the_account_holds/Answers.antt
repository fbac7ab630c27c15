use Rattle.std.proofs.Common.{refl}
use Rattle.tg_store.proofs.UnparkGraph.{unparked_host, unparked_left, unparked_others, unparked_user}
use Rattle.tg_store.proofs.laws.unparking_gives_what_the_account_holds.Goals as goal

pub returns-clause-user : goal.returns-clause-user
returns-clause-user c = λ g p y. unparked_user g p y

pub returns-clause-host : goal.returns-clause-host
returns-clause-host c = λ g p other. unparked_host g p other

pub returns-clause-left : goal.returns-clause-left
returns-clause-left c = λ g p may none x. unparked_left g p may none x

pub returns-clause-labels : goal.returns-clause-labels
returns-clause-labels c = λ g p x y other elsewhere. unparked_others g p x y other elsewhere

pub returns-clause-rest : goal.returns-clause-rest
returns-clause-rest c = λ g p. (refl, refl, refl)

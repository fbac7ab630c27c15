-- What is known of a subject.
use Rattle.std.proofs.lemmas.Result.{IfErr-weaker}
use Rattle.tg_store.proofs.store.Store.spawn.Goals as goal

pub returns-clause-too_many : goal.returns-clause-too_many
returns-clause-too_many g c = λ graph stands. IfErr-weaker c.make.result _ _ (λ refused many full. let all = many full in (all.1, all.2, all.3)) (c.make.ensures.too_many graph stands)

-- An object meets no limit of subjects.
use Rattle.std.proofs.Common.{◌≢◌, Result, Ok, Err, refl}
use Rattle.std.specs.Prelude.{IfErr}
use Rattle.std.proofs.lemmas.Result.{IfErr-weaker}
use Rattle.tg_store.specs.declared.fault.CreateFault.TheVariants.{WorkersFull}
use Rattle.tg_store.specs.Store.{graph_of_store}
use Rattle.tg_store.proofs.Apart.{object_not_subject}
use Rattle.tg_store.proofs.store.Store.create.Goals as goal

both : {X Y : Type 0} (P Q R : Y → Type 0) (r : Result X Y) → ((y : Y) → P y → Q y → R y) → IfErr r P → IfErr r Q → IfErr r R
both P Q R (Ok x) weaker first second = tt
both P Q R (Err y) weaker first second = weaker y first second

pub returns-clause-no_workers_full : goal.returns-clause-no_workers_full
returns-clause-no_workers_full g c =
    IfErr-weaker c.make.result _ (λ refused. refused.why ≢ WorkersFull) (λ refused many full. object_not_subject (many full).0) (c.make.ensures.too_many (graph_of_store c.args.self.now) refl)

pub returns-clause-refused : goal.returns-clause-refused
returns-clause-refused g c =
    both _ _ _ c.make.result (λ refused many unchanged first. unchanged first (λ full. object_not_subject (many full).0))
    (c.make.ensures.too_many (graph_of_store c.args.self.now) refl) c.make.ensures.refused

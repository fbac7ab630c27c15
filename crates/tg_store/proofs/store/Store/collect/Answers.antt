-- How few blocks are left, and which vertices stay: the spare blocks are none of the store that is seen.
use Rattle.std.proofs.Common.{subst}
use Rattle.std.proofs.lemmas.Result.{err_from_is_err_and}
use Rattle.tg_space.specs.Collection.{collected_in}
use Rattle.tg_store.specs.Store.{HasFewBlocks, StoreState}
use Rattle.tg_store.specs.Collecting.{IsSwept}
use Rattle.tg_store.proofs.BlockLaws.{few_left}
use Rattle.tg_store.proofs.HistoryLaws.{history_done, history_refused, history_same}
use Rattle.tg_store.proofs.store.Store.collect.Goals as goal

pub returns-clause-swept : goal.returns-clause-swept
returns-clause-swept g c =
    subst (λ (state : StoreState). IsSwept c.args.kind state c.settle.new.self c.in_ok-settle.field-0) c.take_spare-spare.ensures c.in_ok-settle.ensures.swept

pub returns-clause-blocks : goal.returns-clause-blocks
returns-clause-blocks g c =
    let made = c.in_ok-copied.copied in
    let kind = c.args.kind in
    let before = c.take_spare-spare.new.self.heap in
    let after = c.settle.new.self.heap.table in
    let adopted = c.in_ok-settle.ensures.adopted in
    subst (λ (state : StoreState). HasFewBlocks kind 0 state.heap.table after) c.take_spare-spare.ensures
    (few_left 0 before.table after (collected_in made) kind c.in_ok-copied.ensures.few c.in_ok-copied.ensures.moved adopted.full before adopted.nursery)

pub returns-in_err-copied-clause-swept : goal.returns-in_err-copied-clause-swept
returns-in_err-copied-clause-swept g c = let given = err_from_is_err_and c.from_residual.result c.from_residual.ensures.1 in rw given.1 tt

pub returns-in_err-copied-clause-blocks : goal.returns-in_err-copied-clause-blocks
returns-in_err-copied-clause-blocks g c = let given = err_from_is_err_and c.from_residual.result c.from_residual.ensures.1 in rw given.1 tt

pub returns-in_err-settle-clause-swept : goal.returns-in_err-settle-clause-swept
returns-in_err-settle-clause-swept g c = let given = err_from_is_err_and c.from_residual-in_err-settle.result c.from_residual-in_err-settle.ensures.1 in rw given.1 tt

pub returns-in_err-settle-clause-blocks : goal.returns-in_err-settle-clause-blocks
returns-in_err-settle-clause-blocks g c = let given = err_from_is_err_and c.from_residual-in_err-settle.result c.from_residual-in_err-settle.ensures.1 in rw given.1 tt

pub returns-clause-history : goal.returns-clause-history
returns-clause-history g c = history_done _ _ _ _ _ c.take_spare-spare.ensures c.settle.ensures.history

pub returns-in_err-copied-clause-history : goal.returns-in_err-copied-clause-history
returns-in_err-copied-clause-history g c = let given = err_from_is_err_and c.from_residual.result c.from_residual.ensures.1 in history_same _ _ _ _ c.take_spare-spare.ensures given.1

pub returns-in_err-settle-clause-history : goal.returns-in_err-settle-clause-history
returns-in_err-settle-clause-history g c =
    let given = err_from_is_err_and c.from_residual-in_err-settle.result c.from_residual-in_err-settle.ensures.1 in
    history_refused _ _ _ _ _ _ c.take_spare-spare.ensures given.1 c.in_err-settle.ensures.history

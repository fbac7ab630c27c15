use Rattle.std.proofs.Common.{◌∙◌, sym, ap, Ok}
use Rattle.tg_c.specs.Calls.{CollectsHeap}
use Rattle.tg_c.specs.Statuses.{of_collect, refused_as}
use Rattle.tg_c.proofs.CallLaws.{served}
use Rattle.tg_c.proofs.calls.collect.Goals as goal

pub returns : goal.returns
returns c =
    let told = c.collect-left.ensures in
    served of_collect (CollectsHeap c.args.kind) c.args.place.now c.put.new.self (Ok c.in_ok-left.field-0)
    c.deref_mut.result.now.store c.collect-left.new.self c.collect-left.result
    c.in-Some.ensures.taken.0 c.put.ensures.open (sym (ap (λ s. s.store) (c.deref_mut.ensures.value ∙ c.in-Some.ensures.taken.1))) (ap (λ s. s.store) c.put.ensures.opened)
    (sym (ap (λ a. refused_as of_collect a) c.in_ok-left.was)) (record {
      swept = told.swept;
      blocks = told.blocks;
      full = told.full;
      history = told.history;
    })

use Rattle.std.proofs.Common.{◌∙◌, sym, ap, refl, Ok, Err, length}
use Rattle.std.proofs.lemmas.Result.{err_from_is_err_and}
use Rattle.tg_graph.specs.Shown.{shown_in}
use Rattle.tg_c.specs.declared.refusal.CallRefusal.TheVariants as refusal
use Rattle.tg_c.specs.Calls.{IsShown}
use Rattle.tg_c.specs.Withdrawals.{IsWithdrawalAnswered}
use Rattle.tg_c.proofs.CallLaws.{served_as}
use Rattle.tg_c.proofs.withdrawing.withdraw.Goals as goal

pub returns-in_err-left : goal.returns-in_err-left
returns-in_err-left c =
    let given = err_from_is_err_and c.from_residual.result c.from_residual.ensures.1 in
    served_as (λ why. why) (IsWithdrawalAnswered c.args.over.target c.args.over.rights c.args.keep.now) c.args.place.now c.put.new.self (IsShown c.args.into.now c.args.into.now c.from_residual.result)
    c.deref_mut.result.now.store c.withdraw-left.new.self (Err refusal.OutOfMemory)
    c.in-Some.ensures.taken.0 c.put.ensures.open (sym (ap (λ s. s.store) (c.deref_mut.ensures.value ∙ c.in-Some.ensures.taken.1))) (ap (λ s. s.store) c.put.ensures.opened)
    (given.1 ∙ ap Err given.2, refl) (record { withdrawn = tt; refused = c.in_err-left.ensures.refused; wanting = refl })

pub returns : goal.returns
returns c =
    let names = c.in_ok-left.left.items in
    served_as (λ why. why) (IsWithdrawalAnswered c.args.over.target c.args.over.rights c.args.keep.now) c.args.place.now c.put.new.self
    (IsShown c.args.into.now c.put_numbers.new.out (Ok (length c.as_slice-names.result.now)))
    c.deref_mut.result.now.store c.withdraw-left.new.self (Ok names)
    c.in-Some.ensures.taken.0 c.put.ensures.open (sym (ap (λ s. s.store) (c.deref_mut.ensures.value ∙ c.in-Some.ensures.taken.1))) (ap (λ s. s.store) c.put.ensures.opened)
    (ap (λ xs. Ok (length xs)) c.as_slice-names.ensures.value, c.put_numbers.ensures ∙ ap (λ xs. shown_in xs c.args.into.now) c.as_slice-names.ensures.value)
    (record { withdrawn = c.in_ok-left.ensures.withdrawn; refused = tt; wanting = tt })

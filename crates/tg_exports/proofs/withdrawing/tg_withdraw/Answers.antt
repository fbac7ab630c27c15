use Rattle.std.proofs.Common.{Result, List, ℕ}
use Rattle.tg_c.specs.Calls.{IsShown}
use Rattle.tg_c.specs.Statuses.{TellsNames}
use Rattle.tg_c.specs.declared.refusal.CallRefusal.{CallRefusal}
use Rattle.tg_c.proofs.CallLaws.{names_told}
use Rattle.tg_c.proofs.WithdrawalLaws.{withdrawal_told}
use Rattle.tg_exports.proofs.withdrawing.tg_withdraw.Goals as goal

pub returns-in-Ok : goal.returns-in-Ok
returns-in-Ok c =
    let shown : Result (List ℕ) CallRefusal → Type 0 = IsShown c.args.names.now c.withdraw.new.into c.withdraw.result in
    let tells : Result (List ℕ) CallRefusal → Type 0 = TellsNames c.tell_number.result (record { count = c.args.count.now; names = c.args.names.now }) (record { count = c.tell_number.new.out; names = c.withdraw.new.into }) in
    withdrawal_told c.args.store.now c.withdraw.new.place c.args.target c.args.rights c.args.keep.now c.in-Ok.rights shown tells c.in-Ok.ensures.label c.withdraw.ensures
    (λ answer is. names_told c.tell_number.result c.args.count.now c.tell_number.new.out c.args.names.now c.withdraw.new.into c.withdraw.result answer c.tell_number.ensures is)

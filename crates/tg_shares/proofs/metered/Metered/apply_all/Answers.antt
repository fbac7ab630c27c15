-- The front of the commands was asked for, and what was done of it was paid for.
use Rattle.std.proofs.Common.{◌∙◌, ℕ, List, Result, min, ap, length, refl, subst, take}
use Rattle.tg_model.specs.declared.command.Command.{Command}
use Rattle.tg_shared.specs.Sessions.{LockedState, SessionState}
use Rattle.tg_shares.specs.declared.fault.PaidCallsFault.{PaidCallsFault}
use Rattle.tg_shares.specs.declared.purse.Portion.{Portion}
use Rattle.tg_shares.specs.Batch.{commands_done, paid_answer}
use Rattle.tg_shares.specs.Shares.{Pays, entries_alone}
use Rattle.tg_shares.specs.Tills.{TakesIn}
use Rattle.tg_shares.proofs.Batching.{ServesFront, paid_front, paid_length, paid_stopped, serves_front}
use Rattle.tg_shares.proofs.Paying.{Holds, holds_served}
use Rattle.tg_shares.proofs.metered.Metered.apply_all.Goals as goal

pub invariant_of-self : goal.invariant_of-self
invariant_of-self g c =
    let commands : List Command = c.args.commands.now in
    let most : ℕ = c.min-most.result in
    let v : LockedState = c.args.self.now.locked in
    let w : LockedState = c.apply_all-answer.new.self in
    let ready : SessionState = c.args.client.now.session in
    let new : SessionState = c.apply_all-answer.new.session in
    let full : Portion = c.args.client.now.purse in
    let result : Result ℕ PaidCallsFault = c.paid_answer-paid.result in
    let told = c.apply_all-answer.ensures in
    let front : ServesFront commands v w ready new full result = serves_front commands (take most commands) v w ready new full most c.apply_all-answer.result result refl
    (c.min-most.ensures ∙ ap (λ (n : ℕ). min n (length commands)) c.entries.ensures)
    (c.paid_answer-paid.ensures ∙ ap (λ (n : ℕ). paid_answer c.apply_all-answer.result (length commands) n) c.worker-worker.ensures) told.done told.served told.stopped in
    let held : Holds c.args.self.now.till v = record { covered = c.args.self.now.covered; paid = c.args.self.now.paid } in
    let takes = subst (λ (n : ℕ). TakesIn (entries_alone n) c.args.self.now.till c.pay_entries.new.till) c.commands_done.ensures c.pay_entries.ensures.till in
    let still = holds_served c.args.self.now.till c.pay_entries.new.till v w ready new (take (commands_done result) commands) (commands_done result) held (paid_front commands v w ready new full result front) (paid_length commands v w ready new full result front)
    told.numbers.entered takes in
    record { covered = still.covered; paid = still.paid }

pub returns-clause-stopped : goal.returns-clause-stopped
returns-clause-stopped g c =
    let commands : List Command = c.args.commands.now in
    let most : ℕ = c.min-most.result in
    let v : LockedState = c.args.self.now.locked in
    let w : LockedState = c.apply_all-answer.new.self in
    let ready : SessionState = c.args.client.now.session in
    let new : SessionState = c.apply_all-answer.new.session in
    let full : Portion = c.args.client.now.purse in
    let rest : Portion = c.pay_entries.new.self in
    let result : Result ℕ PaidCallsFault = c.paid_answer-paid.result in
    let told = c.apply_all-answer.ensures in
    let front : ServesFront commands v w ready new full result = serves_front commands (take most commands) v w ready new full most c.apply_all-answer.result result refl
    (c.min-most.ensures ∙ ap (λ (n : ℕ). min n (length commands)) c.entries.ensures)
    (c.paid_answer-paid.ensures ∙ ap (λ (n : ℕ). paid_answer c.apply_all-answer.result (length commands) n) c.worker-worker.ensures) told.done told.served told.stopped in
    paid_stopped commands v w ready new full result front rest (subst (λ (n : ℕ). Pays (entries_alone n) full rest) c.commands_done.ensures c.pay_entries.ensures.paid)

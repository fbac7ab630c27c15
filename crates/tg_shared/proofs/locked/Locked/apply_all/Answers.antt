-- Each command that is taken is one more of the batch.
use Rattle.std.proofs.Common.{◌≡◌, ◌+◌, ◌<◌, ◌≤◌, ℕ, List, add-zero, arith, length, refl, subst}
use Rattle.std.proofs.lemmas.List.{take_all}
use Rattle.tg_model.specs.declared.command.Command.{Command}
use Rattle.tg_store.specs.Store.{graph_of_store}
use Rattle.tg_shared.specs.Batch.{ServesAll}
use Rattle.tg_shared.proofs.Adding.{numbers_kept}
use Rattle.tg_shared.proofs.Batching.{served_more, served_none, stops_serving}
use Rattle.tg_shared.proofs.locked.Locked.apply_all.Goals as goal

some_spare : (now done all count : ℕ) → now + done ≡ all → count ≤ all → done < count → 0 < now
some_spare now done all count held room low = omega arith

one_less : (now before done all : ℕ) → now + 1 ≡ before → before + done ≡ all → now + (done + 1) ≡ all
one_less now before done all less held = omega arith

pub loop-done-init : goal.loop-done-init
loop-done-init g c = record { served = served_none c.args.self.now c.args.session.now; spare = add-zero c.args.session.now.spare; numbers = record { sessions = refl; entered = refl } }

pub apply-requires : goal.apply-requires
apply-requires g c = record {
  room = some_spare c.loop-done.session.spare c.loop-done.done c.args.session.now.spare _ c.loop-done.invariant.spare c.requires.room c.loop-done-test.true;
}

pub loop-done-preserved : goal.loop-done-preserved
loop-done-preserved g c =
    let told = c.in_default.ensures in
    record {
      served = served_more c.args.commands.now c.args.self.now c.loop-done.self c.apply.new.self c.args.session.now c.loop-done.session c.apply.new.session c.loop-done.done c.index-commands-done.result _ c.loop-done-test.true
          c.index-commands-done.is c.loop-done.invariant.served (told.served.entry (graph_of_store c.loop-done.self.store) refl) told.kept told.collections told.signed c.store.ensures.held.faithful;
      spare = one_less c.apply.new.session.spare c.loop-done.session.spare c.loop-done.done c.args.session.now.spare told.spare c.loop-done.invariant.spare;
      numbers = numbers_kept c.args.self.now c.loop-done.self c.apply.new.self c.loop-done.invariant.numbers told.kept.numbers;
    }

pub returns-in-Err-clause-stopped : goal.returns-in-Err-clause-stopped
returns-in-Err-clause-stopped g c =
    let told = c.in-Err.ensures in
    stops_serving {T = Unit {0}} c.args.commands.now c.args.self.now c.loop-done.self c.apply.new.self c.args.session.now c.loop-done.session c.apply.new.session c.loop-done.done c.index-commands-done.result c.in-Err.why c.loop-done-test.true
    c.index-commands-done.is c.loop-done.invariant.served told.served told.signed

pub returns-in-Err-clause-numbers : goal.returns-in-Err-clause-numbers
returns-in-Err-clause-numbers g c = numbers_kept c.args.self.now c.loop-done.self c.apply.new.self c.loop-done.invariant.numbers c.in-Err.ensures.kept.numbers

pub returns-clause-served : goal.returns-clause-served
returns-clause-served g c =
    let all : length c.args.commands.now ≤ c.loop-done.done = omega arith in
    subst (λ (commands : List Command). ServesAll commands c.args.self.now c.loop-done.self c.args.session.now c.loop-done.session) (take_all c.loop-done.done c.args.commands.now all) c.loop-done.invariant.served

use Rattle.std.proofs.Common.{◌≡◌, ◌∙◌, ap, sym}
use Rattle.tg_shared.specs.Sessions.{HoldsWhenFree, KeeperState, LockedState}
use Rattle.tg_shared.proofs.Calls.{found, found_with}
use Rattle.tg_shared.proofs.Knowing.{keeper_looked}
use Rattle.tg_shares.proofs.store.MeteredStore.take_journal.Goals as goal

pub returns-clause-joined : goal.returns-clause-joined
returns-clause-joined g c = c.take_journal.ensures.joined ∙ ap (λ (k : KeeperState). k.next) c.tell.ensures.keeper

pub returns-clause-next : goal.returns-clause-next
returns-clause-next g c = ap (λ (k : KeeperState). k.next) c.take_journal.ensures.next

pub returns-clause-looked : goal.returns-clause-looked
returns-clause-looked g c =
    let next = c.take_journal.ensures.next in
    let all = c.deref_mut.result.now.locked.signed in
    let seen : c.take_journal.new.keeper.seen ≡ all = ap (λ (k : KeeperState). k.seen) next ∙ ap (λ (k : KeeperState). k.seen) c.tell.ensures.keeper in
    keeper_looked c.args.keeper.now c.take_journal.new.keeper all (ap (λ (k : KeeperState). k.made) next ∙ ap (λ (k : KeeperState). k.made) c.tell.ensures.keeper) seen c.tell.ensures.looks.sees

pub returns-clause-held : goal.returns-clause-held
returns-clause-held g c =
    let start = g.L.Round.start in
    let v : LockedState = c.deref_mut-2.result.now.locked in
    let held : HoldsWhenFree start v = found start c.deref_mut.result.now.locked v (sym ((λ i. (c.deref_mut-2.ensures.value i).locked) ∙ c.tell.ensures.looks.same)) c.tell.ensures.looks.held in
    let seen : c.take_journal.new.keeper.seen ≡ c.deref_mut.result.now.locked.signed = ap (λ (k : KeeperState). k.seen) c.take_journal.ensures.next ∙ ap (λ (k : KeeperState). k.seen) c.tell.ensures.keeper in
    found_with start c.take_journal.new.keeper.seen _ v held (seen ∙ ap (λ (b : LockedState). b.signed) (sym ((λ i. (c.deref_mut-2.ensures.value i).locked) ∙ c.tell.ensures.looks.same))) (c.take_journal.ensures.entries, c.take_journal.ensures.start)

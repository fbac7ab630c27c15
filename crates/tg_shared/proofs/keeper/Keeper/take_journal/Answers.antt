use Rattle.std.proofs.Common.{◌≡◌, ◌∙◌, ap, length, sym}
use Rattle.tg_shared.specs.Sessions.{HoldsWhenFree, KeeperState, LockedState}
use Rattle.tg_shared.proofs.Calls.{found, found_with}
use Rattle.tg_shared.proofs.Knowing.{keeper_looked}
use Rattle.tg_shared.proofs.keeper.Keeper.take_journal.Goals as goal

pub returns : goal.returns
returns g c =
    let start = g.L.Round.start in
    let v : LockedState = c.deref_mut-2.result.now in
    let held : HoldsWhenFree start v = found start c.deref_mut.result.now v (sym (c.deref_mut-2.ensures.value ∙ c.tell.ensures.looks.same)) c.tell.ensures.looks.held in
    let next = c.take_journal.ensures.next in
    let seen : c.take_journal.new.keeper.seen ≡ c.deref_mut.result.now.signed = ap (λ (k : KeeperState). k.seen) (next ∙ (λ i. record (c.tell.ensures.keeper i) { next = length c.take_journal.result.entries })) in
    record {
      joined = c.take_journal.ensures.joined ∙ ap (λ (k : KeeperState). k.next) c.tell.ensures.keeper;
      next = ap (λ (k : KeeperState). k.next) next;
      looked = keeper_looked c.args.self.now c.take_journal.new.keeper c.deref_mut.result.now.signed (ap (λ (k : KeeperState). k.made) next ∙ ap (λ (k : KeeperState). k.made) c.tell.ensures.keeper) seen c.tell.ensures.looks.sees;
      held = found_with start c.take_journal.new.keeper.seen _ v held (seen ∙ ap (λ (b : LockedState). b.signed) (sym (c.deref_mut-2.ensures.value ∙ c.tell.ensures.looks.same))) (c.take_journal.ensures.entries, c.take_journal.ensures.start);
    }

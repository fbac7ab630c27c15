use Rattle.std.proofs.Common.{◌≡◌, ◌<◌, ◌≤◌, ◌+◌, ◌∙◌, ℕ, List, ap, length, drop, arith, sym, subst}
use Rattle.std.specs.List.{All}
use Rattle.std.specs.List.Sorted.{IsPermutation}
use Rattle.tg_store.specs.Store.{StoreState}
use Rattle.tg_journal.specs.declared.entry.Entry.{Entry}
use Rattle.tg_passes.specs.declared.signed.Signed.{Signed}
use Rattle.tg_passes.specs.Passes.{Sees}
use Rattle.tg_shared.specs.Closing.{IsGivenBack, IsSignedBy}
use Rattle.tg_shared.specs.Sessions.{AreSharedOut, HasAllUnlessEnded, KeeperState, SessionState, count_of, handed_of, keeper_knowledge, parts_of, sessions_made}
use Rattle.tg_shared.proofs.Knowing.{keeper_only}
use Rattle.tg_shared.proofs.Sharing.{among, lt-le}
use Rattle.tg_shared.proofs.shared.close_with.Goals as goal

pub returns-in-Ok : goal.returns-in-Ok
returns-in-Ok g c =
    let items : List SessionState = c.args.sessions.items in
    let start : ℕ = length g.L.Round.start.entries in
    let told = c.into_locked_with-locked.ensures in
    let locked = c.into_locked_with-locked.result in
    let here : ℕ = length locked.store.entries in
    let ends = c.in-Ok.ensures.ends in
    let same : locked.store ≡ c.in-Ok.store = sym ends.store in
    record {
      back = subst (IsGivenBack g.L.Round.start items) same (record {
        matching = ends.matching;
        at_least = among start locked.entered (handed_of items) (count_of items) here (omega (arith, c.in-Ok.ensures.count));
        faithful = told.held.faithful;
        gone_on = ends.gone_on;
      });
      count = subst (λ (s : StoreState). length s.entries ≡ start + length c.args.keeper.now.made + handed_of items + count_of items) same (c.in-Ok.ensures.count ∙ ap (λ (n : ℕ). start + n + handed_of items + count_of items) told.entered);
      none_ended = λ never. sym told.sees.own ∙ told.held.grown_by.none_ended never;
      single = subst (λ (s : StoreState). All (HasAllUnlessEnded c.args.keeper.now.made (drop start s.entries)) items) same
          (subst (λ (l : List Entry). All (HasAllUnlessEnded l (drop start locked.store.entries)) items) told.sees.own ends.single);
      signed = subst (λ (l : List Signed). IsSignedBy g.L.Round.start c.in-Ok.store items l × Sees l (keeper_knowledge c.args.keeper.now)) (sym (ap (λ (k : KeeperState). k.seen) told.keeper))
          (subst (λ (s : StoreState). IsSignedBy g.L.Round.start s items locked.signed) same ends.signed, told.sees);
      whole = λ is none. subst (λ (s : StoreState). AreSharedOut (drop start s.entries) items) same ((c.in-Ok.ensures.shared_out (told.entered ∙ ap (λ (l : List Entry). length l) none)).whole is);
      held_from = subst (λ (s : StoreState). s.handed ≡ c.args.keeper.now.next) same told.held_from;
      keeper = keeper_only c.args.keeper.now c.into_locked_with-locked.new.keeper locked.signed told.keeper;
      closes = record {
        all = subst (λ (s : StoreState). parts_of items ≡ sessions_made g.L.Round.start s.entries) same (c.in-Ok.ensures.all ∙ told.held.sessions);
        missing = tt;
        too_few = λ few. c.in-Ok.ensures.missing.1 (lt-le few told.held.started);
        mismatch = tt;
        handed_back = tt;
      };
    }

pub returns-in-Err : goal.returns-in-Err
returns-in-Err g c =
    let told = c.into_locked_with-locked.ensures in
    let locked = c.into_locked_with-locked.result in
    let why = c.back_behind_its_lock.ensures.1 in
    record {
      back = tt;
      count = tt;
      none_ended = λ never. sym told.sees.own ∙ told.held.grown_by.none_ended never;
      single = tt;
      signed = tt;
      whole = λ _ _. tt;
      held_from = tt;
      keeper = keeper_only c.args.keeper.now c.into_locked_with-locked.new.keeper locked.signed told.keeper;
      closes = record {
        all = tt;
        missing = λ is. (locked.store, told.held.gone_on, told.held.faithful, subst (λ (made : ℕ). parts_of c.args.sessions.items < made) told.held.sessions (c.in-Err.ensures.missing.0 (sym why ∙ is)));
        too_few = λ few. why ∙ c.in-Err.ensures.missing.1 (lt-le few told.held.started);
        mismatch = λ is. (
          locked.store,
          told.held.gone_on,
          told.held.faithful,
          (subst (λ (n : ℕ). length g.L.Round.start.entries + n + count_of c.args.sessions.items ≤ length locked.store.entries) told.entered (c.in-Err.ensures.counted (sym why ∙ is)), (c.in-Err.ensures.mismatch.0 (sym why ∙ is)).1),
        );
        handed_back = subst (IsPermutation c.args.sessions.items) (sym c.back_behind_its_lock.ensures.0) c.in-Err.ensures.ends.handed_back.1;
      };
    }

use Rattle.std.proofs.Common.{◌≡◌, ◌<◌, ◌+◌, ◌∙◌, ℕ, List, false, length, drop, arith, sym, subst}
use Rattle.std.specs.List.{All}
use Rattle.std.specs.List.Sorted.{IsPermutation}
use Rattle.tg_store.specs.Store.{StoreState}
use Rattle.tg_passes.specs.declared.signed.Maker.TheVariants.{Keeper}
use Rattle.tg_passes.specs.Passes.{entries_by}
use Rattle.tg_shared.specs.Closing.{IsGivenBack, IsSignedBy}
use Rattle.tg_shared.specs.Sessions.{HasAll, SessionState, SharesOut, count_of, handed_of, parts_of, sessions_made}
use Rattle.tg_shared.proofs.Sharing.{among, as_counted, lt-le, still_among, unended}
use Rattle.tg_shared.proofs.shared.close.Goals as goal

pub returns-in-Ok : goal.returns-in-Ok
returns-in-Ok g c =
    let items : List SessionState = c.args.sessions.items in
    let start : ℕ = length g.L.Round.start.entries in
    let locked = c.into_locked-locked.result in
    let held = c.into_locked-locked.ensures.held in
    let here : ℕ = length locked.store.entries in
    let none : g.L.Round.start.may_end ≡ false → locked.entered ≡ 0 = held.none_ended in
    let ends = c.in-Ok.ensures.ends in
    let same : locked.store ≡ c.in-Ok.store = sym ends.store in
    record {
      back = subst (IsGivenBack g.L.Round.start items) same (record {
        matching = ends.matching;
        at_least = among start locked.entered (handed_of items) (count_of items) here (omega (arith, c.in-Ok.ensures.count));
        faithful = held.faithful;
        gone_on = ends.gone_on;
      });
      count = λ no. subst (λ (s : StoreState). length s.entries ≡ start + handed_of items + count_of items) same (as_counted start locked.entered (handed_of items) (count_of items) here c.in-Ok.ensures.count (none no));
      shared_out = λ no. subst (λ (s : StoreState). SharesOut g.L.Round.start s items) same (c.in-Ok.ensures.shared_out (none no));
      single = λ never. subst (λ (s : StoreState). All (HasAll (drop start s.entries)) items) same (unended (drop start locked.store.entries) (entries_by Keeper locked.signed) items (held.grown_by.none_ended never) ends.single);
      signed = (locked.signed, subst (λ (s : StoreState). IsSignedBy g.L.Round.start s items locked.signed) same ends.signed);
      closes = record {
        all = subst (λ (s : StoreState). parts_of items ≡ sessions_made g.L.Round.start s.entries) same (c.in-Ok.ensures.all ∙ held.sessions);
        missing = tt;
        too_few = λ few. c.in-Ok.ensures.missing.1 (lt-le few held.started);
        mismatch = tt;
        handed_back = tt;
      };
    }

pub returns-in-Err : goal.returns-in-Err
returns-in-Err g c =
    let locked = c.into_locked-locked.result in
    let held = c.into_locked-locked.ensures.held in
    let why = c.back_behind_its_lock.ensures.1 in
    record {
      back = tt;
      count = λ _. tt;
      shared_out = λ _. tt;
      single = λ _. tt;
      signed = tt;
      closes = record {
        all = tt;
        missing = λ is. (locked.store, held.gone_on, held.faithful, subst (λ (made : ℕ). parts_of c.args.sessions.items < made) held.sessions (c.in-Err.ensures.missing.0 (sym why ∙ is)));
        too_few = λ few. why ∙ c.in-Err.ensures.missing.1 (lt-le few held.started);
        mismatch = λ is. (
          locked.store,
          held.gone_on,
          held.faithful,
          (still_among (length g.L.Round.start.entries) locked.entered (count_of c.args.sessions.items) (length locked.store.entries) (c.in-Err.ensures.counted (sym why ∙ is)), (c.in-Err.ensures.mismatch.0 (sym why ∙ is)).1),
        );
        handed_back = subst (IsPermutation c.args.sessions.items) (sym c.back_behind_its_lock.ensures.0) c.in-Err.ensures.ends.handed_back.1;
      };
    }

use Rattle.std.proofs.Common.{◌≡◌, ◌≤◌, ◌+◌, ◌∙◌, ℕ, List, drop, length, refl, sym, subst}
use Rattle.std.specs.List.{All}
use Rattle.std.specs.List.Sorted.{IsPermutation}
use Rattle.tg_store.specs.Store.{StoreState}
use Rattle.tg_passes.specs.declared.signed.Maker.TheVariants.{Keeper}
use Rattle.tg_passes.specs.Passes.{entries_by}
use Rattle.tg_shared.specs.Closing.{IsGivenBack, IsSignedBy}
use Rattle.tg_shared.specs.Sessions.{HasAll, SessionState, count_of, handed_of, parts_of, sessions_made}
use Rattle.tg_shared.proofs.Sharing.{among, as_counted, still_among, unended}
use Rattle.tg_shared.proofs.shared.reclaim.Goals as goal

pub returns-in-Ok : goal.returns-in-Ok
returns-in-Ok g c =
    let items : List SessionState = c.args.sessions.items in
    let start : ℕ = length g.L.Round.start.entries in
    let locked = c.into_locked-locked.result in
    let held = c.into_locked-locked.ensures.held in
    let made : locked.sessions ≡ sessions_made g.L.Round.start locked.store.entries = held.sessions in
    let sums = c.in-Ok.ensures.adds_up in
    let ends = c.in-Ok.ensures.ends in
    let same : locked.store ≡ c.in-Ok.store = sym ends.store in
    record {
      back = subst (IsGivenBack g.L.Round.start items) same (record {
        matching = ends.matching;
        at_least = among start locked.entered (handed_of items) (count_of items) (length locked.store.entries) sums.least;
        faithful = held.faithful;
        gone_on = ends.gone_on;
      });
      within = subst (λ (s : StoreState). parts_of items ≤ sessions_made g.L.Round.start s.entries) same (subst (λ (n : ℕ). parts_of items ≤ n) made sums.within);
      count = λ no.
          subst (λ (s : StoreState). parts_of items ≡ sessions_made g.L.Round.start s.entries → length s.entries ≡ start + handed_of items + count_of items) same
          (λ all. as_counted start locked.entered (handed_of items) (count_of items) (length locked.store.entries) (sums.count (all ∙ sym made)) (held.none_ended no));
      single = λ never. subst (λ (s : StoreState). All (HasAll (drop start s.entries)) items) same (unended (drop start locked.store.entries) (entries_by Keeper locked.signed) items (held.grown_by.none_ended never) ends.single);
      signed = (locked.signed, subst (λ (s : StoreState). IsSignedBy g.L.Round.start s items locked.signed) same ends.signed);
      mismatch = tt;
      handed_back = tt;
    }

pub returns-in-Err : goal.returns-in-Err
returns-in-Err g c =
    let locked = c.into_locked-locked.result in
    let held = c.into_locked-locked.ensures.held in
    record {
      back = tt;
      within = tt;
      count = λ _. tt;
      single = λ _. tt;
      signed = tt;
      mismatch = (
        c.back_behind_its_lock.ensures.1 ∙ c.in-Err.ensures.only,
        (
          locked.store,
          held.gone_on,
          held.faithful,
          (still_among (length g.L.Round.start.entries) locked.entered (count_of c.args.sessions.items) (length locked.store.entries) c.in-Err.ensures.counted, c.in-Err.ensures.mismatch.0 refl),
        ),
      );
      handed_back = subst (IsPermutation c.args.sessions.items) (sym c.back_behind_its_lock.ensures.0) c.in-Err.ensures.ends.handed_back.1;
    }

-- What the keeper knows of an end.
use Rattle.std.specs.Prelude.{IfErr, OnErr}
use Rattle.std.proofs.Common.{◌≡◌, ◌↔◌, ◌∙◌, ◌+◌, ◌++◌, ℕ, ◌-◌, ◌≤◌, List, [], Result, Ok, Err, drop, length, length-append, append-nil, ap, arith, refl, sym}
use Rattle.tg_model.specs.Graph.{IsSubject, listing_of}
use Rattle.tg_journal.specs.declared.entry.Entry.{Entry}
use Rattle.tg_passes.specs.declared.signed.Maker.TheVariants.{Keeper}
use Rattle.tg_passes.specs.Passes.{Sees, sign_all}
use Rattle.tg_store.specs.Leaving.{HasLeft, leaving}
use Rattle.tg_store.specs.Store.{StoreState, IsUnchanged, graph_of_store}
use Rattle.tg_store.specs.declared.fault.ApplyFault.{ApplyFault}
use Rattle.tg_store.specs.declared.fault.ApplyFault.TheVariants.{NoSuchWorker}
use Rattle.tg_shared.specs.Serving.{HasNotedEnd}
use Rattle.tg_shared.specs.Sessions.{AtSeen, HasEnded, HoldsWhenFree, KeeperLooked, KeeperState, LockedState, SharedStart, graph_seen, keeper_knowledge}
use Rattle.tg_shared.proofs.Calls.{found_with}
use Rattle.tg_shared.proofs.Knowing.{got_more, graph_is, keeper_looked}
use Rattle.tg_shared.proofs.Leavings.{legal_more, length_leaving}

module _ (v w : LockedState) (old new : KeeperState) (worker count : ℕ) (noted : HasNotedEnd v w old new) (left : HasLeft worker v.store w.store) (number : count ≡ length (listing_of (graph_of_store v.store).label (graph_of_store v.store).made worker)) where
  -- the keeper made exactly the entries by which the worker left
  made_left : new.made ≡ old.made ++ leaving (graph_of_store v.store) worker
  made_left = noted.made ∙ ap (λ (l : List Entry). old.made ++ l) (got_more v.store.entries w.store.entries (leaving (graph_of_store v.store) worker) left.entries)

  seen_left : new.seen ≡ v.signed ++ sign_all Keeper (leaving (graph_of_store v.store) worker)
  seen_left = noted.seen ∙ noted.signed ∙ ap (λ (l : List Entry). v.signed ++ sign_all Keeper l) (got_more v.store.entries w.store.entries (leaving (graph_of_store v.store) worker) left.entries)

  pub count_left : length new.made ≡ length old.made + (count + 1)
  count_left =
      let all = ap (λ (l : List Entry). length l) made_left in
      omega (arith, all, length-append old.made (leaving (graph_of_store v.store) worker), length_leaving (graph_of_store v.store) worker, number)

pub counted_more : (v w : LockedState) (old new : KeeperState) (worker count : ℕ) → HasNotedEnd v w old new → HasLeft worker v.store w.store → count ≡ length (listing_of (graph_of_store v.store).label (graph_of_store v.store).made worker) → length new.made ≡ length old.made + (count + 1)
counted_more v w old new worker count noted left number = count_left v w old new worker count noted left number

pub has_ended : (start : SharedStart) (v w : LockedState) (old new : KeeperState) (worker count : ℕ) → HoldsWhenFree start v → HoldsWhenFree start w → Sees v.signed (keeper_knowledge old) → HasNotedEnd v w old new → HasLeft worker v.store w.store
    → count ≡ length (listing_of (graph_of_store v.store).label (graph_of_store v.store).made worker) → HasEnded start worker old new count
has_ended start v w old new worker count held after sees noted left number =
    let graph : graph_of_store v.store ≡ graph_seen start v.signed = graph_is start v.store v.signed held.grown_by held.gone_on in
    record {
      before = v.signed;
      sees = sees;
      left = found_with start v.signed _ v held refl (
        record { legal = legal_more v.store w.store (leaving (graph_of_store v.store) worker) left.entries left.opening after.faithful; edges = number },
        found_with start new.seen (HasLeft worker v.store) w after noted.seen left,
      );
      made = made_left v w old new worker count noted left number ∙ ap (λ g. old.made ++ leaving g worker) graph;
      seen = seen_left v w old new worker count noted left number ∙ ap (λ g. v.signed ++ sign_all Keeper (leaving g worker)) graph;
      next = noted.next;
    }

-- ---- in the lock

-- the entries of an end, from their place on
pub got_from : (old new : StoreState) (worker at : ℕ) → HasLeft worker old new → at ≡ length old.entries → drop at new.entries ≡ leaving (graph_of_store old) worker
got_from old new worker at left is = ap (λ (n : ℕ). drop n new.entries) is ∙ got_more old.entries new.entries (leaving (graph_of_store old) worker) left.entries

pub got_count : (old new : StoreState) (worker at all count : ℕ) → HasLeft worker old new → at ≡ length old.entries → all ≡ length new.entries → count ≡ length (listing_of (graph_of_store old).label (graph_of_store old).made worker)
    → (at ≤ all) × (all - at ≡ count + 1) × (all - at ≡ length (leaving (graph_of_store old) worker))
got_count old new worker at all count left here there number =
    let long = length_leaving (graph_of_store old) worker in
    let grew = ap (λ (l : List Entry). length l) left.entries in
    let more = length-append old.entries (leaving (graph_of_store old) worker) in
    (omega (arith, long, grew, more, here, there, number), omega (arith, long, grew, more, here, there, number), omega (arith, long, grew, more, here, there, number))

-- where the store got no entry, the keeper has looked
pub nothing_got : (v w : LockedState) (old new : KeeperState) → HasNotedEnd v w old new → w.store.entries ≡ v.store.entries → (new.made ≡ old.made) × (new.seen ≡ v.signed)
nothing_got v w old new noted same =
    let none = got_more v.store.entries w.store.entries [] (same ∙ sym (append-nil v.store.entries)) in (
      noted.made ∙ ap (λ (l : List Entry). old.made ++ l) none ∙ append-nil old.made,
      noted.seen ∙ noted.signed ∙ ap (λ (l : List Entry). v.signed ++ sign_all Keeper l) none ∙ append-nil v.signed,
    )

pub nothing_noted : (v w : LockedState) (old new : KeeperState) → HasNotedEnd v w old new → IsUnchanged v.store w.store → (new.made ≡ old.made) × (new.seen ≡ v.signed)
nothing_noted v w old new noted same = nothing_got v w old new noted same.entries

pub none_ended : {T : Type 0} (r : Result T ApplyFault) (v w : LockedState) (old new : KeeperState) → Sees v.signed (keeper_knowledge old) → HasNotedEnd v w old new → OnErr r (IsUnchanged v.store w.store) → OnErr r (KeeperLooked old new × (new.next ≡ old.next))
none_ended (Ok t) v w old new sees noted same = tt
none_ended (Err e) v w old new sees noted same = let kept = nothing_noted v w old new noted same in (keeper_looked old new v.signed kept.0 kept.1 sees, noted.next)

pub none_looked : {T : Type 0} (r : Result T ApplyFault) (start : SharedStart) (v w : LockedState) (old new : KeeperState) (worker : ℕ) → HoldsWhenFree start v → HasNotedEnd v w old new → OnErr r (IsUnchanged v.store w.store) → ((r ≡ Err NoSuchWorker) ↔ (¬ IsSubject (graph_of_store v.store) worker))
    → IfErr r (λ why. why ≡ NoSuchWorker → AtSeen start new.seen (λ s. ¬ IsSubject (graph_of_store s) worker))
none_looked (Ok t) start v w old new worker held noted same told = tt
none_looked (Err e) start v w old new worker held noted same told = λ is. found_with start new.seen (λ s. ¬ IsSubject (graph_of_store s) worker) v held (nothing_noted v w old new noted same).1 (told.0 (ap Err is))

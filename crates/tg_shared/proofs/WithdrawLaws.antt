-- What the keeper's withdrawal leaves in the lock, and what the keeper knows then.
use Rattle.std.specs.Prelude.{OnErr}
use Rattle.std.proofs.Common.{◌≡◌, ◌∙◌, ◌+◌, ◌-◌, ◌≤◌, ◌<◌, ℕ, List, [], ◌∷◌, ◌++◌, Result, Ok, Err, append_assoc, ap, arith, drop, length, length-append, map, refl, subst, sym}
use Rattle.std.proofs.lemmas.List.Sums.{sum_by-cons}
use Rattle.tg_rights.specs.RightSet.{RightSet}
use Rattle.tg_model.specs.Graph.{ProtectionGraph, IsSound}
use Rattle.tg_journal.specs.declared.entry.Entry.{Entry}
use Rattle.tg_journal.specs.History.{IsLegal, graph_after}
use Rattle.tg_journal.proofs.HistoryLaws.{IsLegal-cut}
use Rattle.tg_passes.specs.declared.signed.Maker.TheVariants.{Keeper}
use Rattle.tg_passes.specs.declared.signed.Signed.{Signed}
use Rattle.tg_passes.specs.Passes.{BeginsWith, Sees, entries_of, sign_all}
use Rattle.tg_passes.proofs.Signing.{entries_append}
use Rattle.tg_store.specs.Origin.{Origin, start_at}
use Rattle.tg_store.specs.Store.{StoreState, IsFaithful, IsUnchanged, graph_of_store}
use Rattle.tg_store.specs.Withdrawing.{AreHoldersOfSome, IsWithdrawn, given_up, givers_among, removal_over, withdrawing, withdrawn}
use Rattle.tg_store.proofs.StandLaws.{sound_of}
use Rattle.tg_shared.specs.Laws.{HasExactly}
use Rattle.tg_shared.specs.Serving.{HasNotedEnd}
use Rattle.tg_shared.specs.Sessions.{HoldsWhenFree, KeeperLooked, KeeperState, LockedState, SharedStart, graph_seen, is_spawn, keeper_knowledge, spawned}
use Rattle.tg_shared.specs.Withdrawing.{HasWithdrawn, StaysAway, WithdrawsOnly}
use Rattle.tg_shared.proofs.Balances.{one}
use Rattle.tg_shared.proofs.Calls.{found_with}
use Rattle.tg_shared.proofs.Ending.{nothing_noted}
use Rattle.tg_shared.proofs.Knowing.{got_more, graph_front, graph_is, keeper_looked}

-- ---- in the lock

none_made : (y : ℕ) (es : List (ℕ × RightSet)) → spawned (map (removal_over y) es) ≡ 0
none_made y [] = refl
none_made y (e ∷ es) =
    let rest = none_made y es in
    let first = sum_by-cons (λ x. one (is_spawn x)) (removal_over y e) (map (removal_over y) es) in
    omega (arith, first, rest)

-- a withdrawal makes no subject
pub none_withdrawn : (g : ProtectionGraph) (y : ℕ) (rights : RightSet) (keep : List ℕ) → spawned (withdrawing g y rights keep) ≡ 0
none_withdrawn g y rights keep = none_made y (given_up g.label y rights (givers_among g.subjects keep))

-- how many entries a store got, and which, from their place on
pub got_number : (old new more : List Entry) (at all : ℕ) → new ≡ old ++ more → at ≡ length old → all ≡ length new → (at ≤ all) × (all - at ≡ length more)
got_number old new more at all entries here there =
    let grew = ap (λ (l : List Entry). length l) entries in
    let long = length-append old more in
    (omega (arith, grew, long, here, there), omega (arith, grew, long, here, there))

-- that many more are the keeper's
pub counted_more : (old new more : List Entry) (at all entered : ℕ) → new ≡ old ++ more → at ≡ length old → all ≡ length new → entered + (all - at) ≡ entered + length (drop (length old) new)
counted_more old new more at all entered entries here there =
    ap (λ (n : ℕ). entered + n) ((got_number old new more at all entries here there).1 ∙ ap (λ (l : List Entry). length l) (sym (got_more old new more entries)))

pub got_entries : (old new more : List Entry) (at : ℕ) → new ≡ old ++ more → at ≡ length old → drop at new ≡ more
got_entries old new more at entries is = ap (λ (n : ℕ). drop n new) is ∙ got_more old new more entries

-- ---- what the keeper knows

pub has_withdrawn : (start : SharedStart) (v w : LockedState) (old new : KeeperState) (target : ℕ) (rights : RightSet) (keep names : List ℕ) → HoldsWhenFree start v → HoldsWhenFree start w → Sees v.signed (keeper_knowledge old) → HasNotedEnd v w old new
    → IsWithdrawn target rights keep v.store w.store names → HasWithdrawn start target rights keep old new names
has_withdrawn start v w old new target rights keep names held after sees noted left =
    let graph : graph_of_store v.store ≡ graph_seen start v.signed = graph_is start v.store v.signed held.grown_by held.gone_on in
    let more : List Entry = withdrawing (graph_of_store v.store) target rights keep in
    let got = got_more v.store.entries w.store.entries more left.entries in
    record {
      before = v.signed;
      sees = sees;
      came = found_with start v.signed _ v held refl (found_with start new.seen (λ next. IsWithdrawn target rights keep v.store next names) w after noted.seen left);
      made = noted.made ∙ ap (λ (l : List Entry). old.made ++ l) got ∙ ap (λ (g : ProtectionGraph). old.made ++ withdrawing g target rights keep) graph;
      seen = noted.seen ∙ noted.signed ∙ ap (λ (l : List Entry). v.signed ++ sign_all Keeper l) got ∙ ap (λ (g : ProtectionGraph). v.signed ++ sign_all Keeper (withdrawing g target rights keep)) graph;
      next = noted.next;
    }

-- where it is refused, the keeper has looked
pub none_taken : {T E : Type 0} (r : Result T E) (v w : LockedState) (old new : KeeperState) → Sees v.signed (keeper_knowledge old) → HasNotedEnd v w old new → OnErr r (IsUnchanged v.store w.store) → OnErr r (KeeperLooked old new × (new.next ≡ old.next))
none_taken (Ok t) v w old new sees noted same = tt
none_taken (Err e) v w old new sees noted same = let kept = nothing_noted v w old new noted same in (keeper_looked old new v.signed kept.0 kept.1 sees, noted.next)

-- ---- laws

pub withdraws_only : (start : SharedStart) (old new : KeeperState) (target : ℕ) (rights : RightSet) (keep names : List ℕ) → HasWithdrawn start target rights keep old new names → WithdrawsOnly start new.seen target rights keep names
withdraws_only start old new target rights keep names did =
    let s : StoreState = did.came.0 in
    let next : StoreState = did.came.3.1.0 in
    let told : IsWithdrawn target rights keep s next names = did.came.3.1.3.1 in
    let graph : graph_of_store s ≡ graph_seen start did.before = graph_is start s did.before did.came.3.0 did.came.1 in
    let then : graph_of_store next ≡ graph_seen start new.seen = graph_is start next new.seen did.came.3.1.3.0 did.came.3.1.1 in
    let all : graph_seen start new.seen ≡ withdrawn (graph_seen start did.before) target rights keep = sym then ∙ told.graph ∙ ap (λ (g : ProtectionGraph). withdrawn g target rights keep) graph in
    record {
      before = did.before;
      begins = (sign_all Keeper (withdrawing (graph_seen start did.before) target rights keep), did.seen);
      graph = all;
      subjects = ap (λ (g : ProtectionGraph). g.subjects) all;
      left = subst (λ (g : ProtectionGraph). AreHoldersOfSome g rights target names) then told.left;
    }

-- what is so of a graph whatever follows is so of the closed store
pub stays_withdrawn : ((g : ProtectionGraph) (rights : RightSet) (y : ℕ) (es : List Entry) → IsSound g → y < g.made → AreHoldersOfSome g rights y [] → IsLegal g es → AreHoldersOfSome (graph_after g es) rights y [])
    → (start : SharedStart) (old new : KeeperState) (target : ℕ) (rights : RightSet) (keep : List ℕ) → HasWithdrawn start target rights keep old new [] → target < (graph_seen start new.seen).made → StaysAway start new.seen rights target
stays_withdrawn never start old new target rights keep did low all s has faithful begins =
    let rest : List Signed = begins.0 in
    let then : ProtectionGraph = graph_seen start new.seen in
    let next : StoreState = did.came.3.1.0 in
    let same : graph_of_store next ≡ then = graph_is start next new.seen did.came.3.1.3.0 did.came.3.1.1 in
    let sound : IsSound then = subst IsSound same (sound_of next did.came.3.1.2) in
    let split : s.entries ≡ (start.entries ++ entries_of new.seen) ++ entries_of rest =
    has.grown.all ∙ ap (λ (l : List Signed). start.entries ++ entries_of l) begins.1 ∙ ap (λ (l : List Entry). start.entries ++ l) (entries_append new.seen rest) ∙ sym (append_assoc start.entries (entries_of new.seen) (entries_of rest)) in
    let legal : IsLegal (start_at start.opening) ((start.entries ++ entries_of new.seen) ++ entries_of rest) =
    subst (IsLegal (start_at start.opening)) split (subst (λ (o : Origin). IsLegal (start_at o) s.entries) has.gone_on.opening faithful.legal) in
    let later : graph_of_store s ≡ graph_after then (entries_of rest) = graph_is start s all has.grown has.gone_on ∙ ap (graph_seen start) begins.1 ∙ graph_front start new.seen rest in
    subst (λ (g : ProtectionGraph). AreHoldersOfSome g rights target []) (sym later)
    (never then rights target (entries_of rest) sound low (withdraws_only start old new target rights keep [] did).left (IsLegal-cut (start_at start.opening) (start.entries ++ entries_of new.seen) (entries_of rest) legal).1)

-- What the keeper's parking or unparking leaves in the lock, and what the keeper knows then.
use Rattle.std.specs.Prelude.{IfErr, OnErr}
use Rattle.std.proofs.Common.{◌≡◌, ◌∙◌, ℕ, ◌+◌, ◌<◌, true, false, List, [], ◌∷◌, ◌++◌, Result, Ok, Err, length, map, append_assoc, length-append, ap, arith, refl, subst, sym}
use Rattle.std.proofs.lemmas.List.{length-map}
use Rattle.std.proofs.lemmas.List.Sums.{sum_by-append, sum_by-cons}
use Rattle.tg_rights.specs.RightSet.{RightSet, only}
use Rattle.tg_rights.specs.declared.Right.TheVariants as right
use Rattle.tg_model.specs.declared.command.Command.{Command}
use Rattle.tg_model.specs.declared.reply.Denial.{Denial}
use Rattle.tg_model.specs.Graph.{ProtectionGraph, IsSubject, listing_of}
use Rattle.tg_model.proofs.SubjectLaws.{is_without}
use Rattle.tg_journal.specs.declared.entry.Entry.{Entry}
use Rattle.tg_journal.specs.History.{IsLegal, graph_after}
use Rattle.tg_journal.proofs.HistoryLaws.{no_subject-after}
use Rattle.tg_graph.specs.Heap.{HeapState}
use Rattle.tg_passes.specs.declared.signed.Maker.TheVariants.{Keeper}
use Rattle.tg_passes.specs.Passes.{BeginsWith, RollState, Sees, sign_all}
use Rattle.tg_store.specs.declared.parking.Parking.{Parking}
use Rattle.tg_store.specs.declared.parking.ParkFault.{ParkFault}
use Rattle.tg_store.specs.declared.parking.Parked.{Parked}
use Rattle.tg_store.specs.declared.parking.Parked.TheVariants.{Done, Denied}
use Rattle.tg_store.specs.Handing.{done_by}
use Rattle.tg_store.specs.Leaving.{leaving, removal, retiring}
use Rattle.tg_store.specs.Parking.{ComesOfParking, IsKeyDenied, IsParked, KeepsGraph, filling, key_of, parked, parking, putting}
use Rattle.tg_store.specs.Unparking.{ComesOfUnparking, take_key_of, taking, unparked, unparking}
use Rattle.tg_store.specs.Store.{StoreState, IsFaithful, graph_of_store}
use Rattle.tg_store.proofs.StandLaws.{sound_of}
use Rattle.tg_shared.specs.Parking.{ChangesNothing, HasMadeAtOnce, HasParked, HasUnparked, ParksOnly, UnparksOnly, count_of_park, count_of_unpark, denied_key, entries_of_park, entries_of_unpark}
use Rattle.tg_shared.specs.Serving.{HasNotedEnd}
use Rattle.tg_shared.specs.Sessions.{AtSeen, GoesOn, HoldsWhenFree, IsBalanced, IsRolled, KeeperLooked, KeeperState, LockedState, SharedStart, graph_seen, is_spawn, keeper_knowledge, sessions_made, spawned}
use Rattle.tg_shared.proofs.Balances.{graph_more, locked_more, one}
use Rattle.tg_shared.proofs.Calls.{found_with}
use Rattle.tg_shared.proofs.Ending.{nothing_got}
use Rattle.tg_shared.proofs.Knowing.{got_more, graph_is, keeper_looked, last_low, rolled_ended}
use Rattle.tg_shared.proofs.Leavings.{length_leaving, none_spawned}

-- ---- the entries make no subject

abbrev makes : Entry → ℕ
makes e = one (is_spawn e)

none_first : (e : Entry) (es : List Entry) → is_spawn e ≡ false → spawned es ≡ 0 → spawned (e ∷ es) ≡ 0
none_first e es plain none =
    let all = sum_by-cons makes e es in
    let here = ap one plain in
    omega (arith, all, here, none)

none_together : (es more : List Entry) → spawned es ≡ 0 → spawned more ≡ 0 → spawned (es ++ more) ≡ 0
none_together es more none later =
    let all = sum_by-append makes es more in
    omega (arith, all, none, later)

none_put : (p : Parking) (row : List (ℕ × RightSet)) → spawned (map (putting p) row) ≡ 0
none_put p [] = refl
none_put p (e ∷ row) = none_first (putting p e) (map (putting p) row) refl (none_put p row)

none_taken_out : (p : Parking) (row : List (ℕ × RightSet)) → spawned (map (taking p) row) ≡ 0
none_taken_out p [] = refl
none_taken_out p (e ∷ row) = none_first (taking p e) (map (taking p) row) refl (none_taken_out p row)

none_parked : (g : ProtectionGraph) (p : Parking) → spawned (parking g p) ≡ 0
none_parked g p =
    let row = listing_of g.label g.made p.user in
    let last : List Entry = removal p.user (p.account, only right.G) ∷ [] in
    let puts = none_together (map (putting p) row) last (none_put p row) (none_first (removal p.user (p.account, only right.G)) [] refl refl) in
    none_together (filling p row) (leaving g p.user) (none_first (done_by p.host (key_of p)) (map (putting p) row ++ last) refl puts) (none_spawned p.user row)

none_unparked : (g : ProtectionGraph) (p : Parking) → spawned (unparking g p) ≡ 0
none_unparked g p =
    let row = listing_of g.label g.made p.account in
    let key : Entry = removal p.user (p.account, only right.T) in
    let last : Entry = removal p.host (p.account, g.label p.host p.account) in
    let both = none_first key (last ∷ []) refl (none_first last [] refl refl) in
    none_first (done_by p.host (take_key_of p)) (map (taking p) row ++ key ∷ last ∷ []) refl (none_together (map (taking p) row) (key ∷ last ∷ []) (none_taken_out p row) both)

-- ---- what the store got

-- These entries came, none of which made a subject. All else on which the balance in the lock depends is as it was.
pub record GotMore (old new : StoreState) (more : List Entry) : Type 0 where
  pub entries : new.entries ≡ old.entries ++ more
  pub opening : new.opening ≡ old.opening
  pub handed : new.handed ≡ old.handed
  pub limits : new.heap.table.limits ≡ old.heap.table.limits
  pub none : spawned more ≡ 0

denied_got : (key : Command) (host : ℕ) (denial : Denial) (old new : StoreState) → IsKeyDenied key host old new denial → GotMore old new (denied_key key host denial)
denied_got key host denial old new did = record {
  entries = did.entry.entry;
  opening = did.entry.opening;
  handed = did.entry.handed;
  limits = ap (λ (h : HeapState). h.table.limits) did.entry.heap;
  none = refl;
}

pub park_got : (p : Parking) (old new : StoreState) (answer : Parked) → ComesOfParking p old new answer → GotMore old new (entries_of_park (graph_of_store old) p answer)
park_got p old new (Done edges) did = record { entries = did.entries; opening = did.opening; handed = did.handed; limits = did.limits; none = none_parked (graph_of_store old) p }
park_got p old new (Denied denial) did = denied_got (key_of p) p.host denial old new did

pub unpark_got : (p : Parking) (old new : StoreState) (answer : Parked) → ComesOfUnparking p old new answer → GotMore old new (entries_of_unpark (graph_of_store old) p answer)
unpark_got p old new (Done edges) did = record { entries = did.entries; opening = did.opening; handed = did.handed; limits = did.limits; none = none_unparked (graph_of_store old) p }
unpark_got p old new (Denied denial) did = denied_got (take_key_of p) p.host denial old new did

-- ---- how many entries

length_between : (first : Entry) (middle last : List Entry) → length (first ∷ middle ++ last) ≡ 1 + length middle + length last
length_between first middle last = let all = length-append middle last in omega (arith, all)

pub park_count : (p : Parking) (old new : StoreState) (answer : Parked) → ComesOfParking p old new answer → length (entries_of_park (graph_of_store old) p answer) ≡ count_of_park answer
park_count p old new (Done edges) did =
    let g = graph_of_store old in
    let row = listing_of g.label g.made p.user in
    let all = length-append (filling p row) (leaving g p.user) in
    let first = length_between (done_by p.host (key_of p)) (map (putting p) row) (removal p.user (p.account, only right.G) ∷ []) in
    let each = length-map row (putting p) in
    let last = length_leaving g p.user in
    let count = did.count in
    omega (arith, all, first, each, last, count)
park_count p old new (Denied denial) did = refl

pub unpark_count : (p : Parking) (old new : StoreState) (answer : Parked) → ComesOfUnparking p old new answer → length (entries_of_unpark (graph_of_store old) p answer) ≡ count_of_unpark answer
unpark_count p old new (Done edges) did =
    let g = graph_of_store old in
    let row = listing_of g.label g.made p.account in
    let all = length_between (done_by p.host (take_key_of p)) (map (taking p) row) (removal p.user (p.account, only right.T) ∷ removal p.host (p.account, g.label p.host p.account) ∷ []) in
    let each = length-map row (taking p) in
    let count = did.count in
    omega (arith, all, each, count)
unpark_count p old new (Denied denial) did = refl

-- ---- in the lock

-- what is so in the lock is so once the entries were noted as the keeper's
pub noted_more : {P : Type 0} (start : SharedStart) (old new : StoreState) (more : List Entry) (first sessions total next rest left parts amount later entered count out : ℕ) (roll then : RollState) → GotMore old new more
    → (IsBalanced old first sessions total rest parts × P × ((amount ≡ entered) × (out ≡ old.handed)) × GoesOn start old × (sessions ≡ sessions_made start old.entries)) × IsRolled start old roll entered
    → start.may_end ≡ true → count ≡ length more → next ≡ total + count → later ≡ amount + count → left ≡ rest → then ≡ record { signed = roll.signed ++ sign_all Keeper more; below = roll.below }
    → (IsBalanced new first sessions next left parts × P × ((later ≡ entered + count) × (out ≡ new.handed)) × GoesOn start new × (sessions ≡ sessions_made start new.entries)) × IsRolled start new then (entered + count)
noted_more start old new more first sessions total next rest left parts amount later entered count out roll then got held may many counts amounts same is =
    let before : IsBalanced old first sessions total left parts = subst (λ (n : ℕ). IsBalanced old first sessions total n parts) (sym same) held.0.0 in (
      locked_more old new more got.entries got.opening start first sessions total next left parts (before, held.0.1, held.0.2, held.0.3, held.0.4)
          got.none got.limits (λ _. got.handed) (counts ∙ ap (λ (n : ℕ). total + n) many) (amounts ∙ ap (λ (n : ℕ). n + count) held.0.2.0, held.0.2.1 ∙ sym got.handed),
      rolled_ended start old new roll then entered count more held.1 got.entries got.opening may many is,
    )

-- ---- what the keeper knows

pub has_made : (start : SharedStart) (v w : LockedState) (old new : KeeperState) (comes : StoreState → StoreState → Type 0) (entries : ProtectionGraph → List Entry) → HoldsWhenFree start v → HoldsWhenFree start w → Sees v.signed (keeper_knowledge old)
    → HasNotedEnd v w old new → comes v.store w.store → GotMore v.store w.store (entries (graph_of_store v.store)) → HasMadeAtOnce start comes entries old new
has_made start v w old new comes entries held after sees noted came got =
    let graph : graph_of_store v.store ≡ graph_seen start v.signed = graph_is start v.store v.signed held.grown_by held.gone_on in
    let all = got_more v.store.entries w.store.entries (entries (graph_of_store v.store)) got.entries in
    record {
      before = v.signed;
      sees = sees;
      came = found_with start v.signed _ v held refl (found_with start new.seen (comes v.store) w after noted.seen came);
      made = noted.made ∙ ap (λ (l : List Entry). old.made ++ l) all ∙ ap (λ (g : ProtectionGraph). old.made ++ entries g) graph;
      seen = noted.seen ∙ noted.signed ∙ ap (λ (l : List Entry). v.signed ++ sign_all Keeper l) all ∙ ap (λ (g : ProtectionGraph). v.signed ++ sign_all Keeper (entries g)) graph;
      next = noted.next;
    }

-- it made so many entries more
pub made_number : (v w : LockedState) (old new : KeeperState) (more : List Entry) (count : ℕ) → HasNotedEnd v w old new → GotMore v.store w.store more → length more ≡ count → length new.made ≡ length old.made + count
made_number v w old new more count noted got long =
    let all = ap (λ (l : List Entry). length l) (noted.made ∙ ap (λ (l : List Entry). old.made ++ l) (got_more v.store.entries w.store.entries more got.entries)) in
    let sum = length-append old.made more in
    omega (arith, all, sum, long)

-- where it is refused, the keeper has looked
pub none_made : {T E : Type 0} (r : Result T E) (v w : LockedState) (old new : KeeperState) → Sees v.signed (keeper_knowledge old) → HasNotedEnd v w old new → OnErr r (KeepsGraph v.store w.store) → OnErr r (KeeperLooked old new × (new.next ≡ old.next))
none_made (Ok t) v w old new sees noted same = tt
none_made (Err e) v w old new sees noted same = let kept = nothing_got v w old new noted same.entries in (keeper_looked old new v.signed kept.0 kept.1 sees, noted.next)

-- and the reason is one of the store that it has seen
pub refused_at : {T : Type 0} (r : Result T ParkFault) (e : ParkFault) (Q : StoreState → Type 0) (start : SharedStart) (v w : LockedState) (old new : KeeperState) → HoldsWhenFree start v → HasNotedEnd v w old new → OnErr r (KeepsGraph v.store w.store) → (r ≡ Err e → Q v.store)
    → IfErr r (λ why. why ≡ e → AtSeen start new.seen Q)
refused_at (Ok t) e Q start v w old new held noted same told = tt
refused_at (Err why) e Q start v w old new held noted same told = λ is. found_with start new.seen Q v held (nothing_got v w old new noted same.entries).1 (told (ap Err is))

-- ---- laws

module _ (start : SharedStart) (old new : KeeperState) (comes : StoreState → StoreState → Type 0) (entries : ProtectionGraph → List Entry) (did : HasMadeAtOnce start comes entries old new) where
  -- what the call does to the graph of a store, it does to the graph that the keeper has seen
  graph_moved : (f : ProtectionGraph → ProtectionGraph) → ((s next : StoreState) → comes s next → graph_of_store next ≡ f (graph_of_store s)) → graph_seen start new.seen ≡ f (graph_seen start did.before)
  graph_moved f moves =
      let s : StoreState = did.came.0 in
      let next : StoreState = did.came.3.1.0 in
      sym (graph_is start next new.seen did.came.3.1.3.0 did.came.3.1.1) ∙ moves s next did.came.3.1.3.1 ∙ ap f (graph_is start s did.before did.came.3.0 did.came.1)

  begins_before : BeginsWith new.seen did.before
  begins_before = (sign_all Keeper (entries (graph_seen start did.before)), did.seen)

  changes_nothing : ((s next : StoreState) → comes s next → graph_of_store next ≡ graph_of_store s) → ChangesNothing start new.seen
  changes_nothing same = record { before = did.before; begins = begins_before; graph = graph_moved (λ g. g) same }

pub parks_only : (start : SharedStart) (old new : KeeperState) (p : Parking) (edges : ℕ) → HasParked start p old new (Done edges) → ParksOnly start new.seen p
parks_only start old new p edges did =
    let graph = graph_moved start old new _ _ did (λ g. parked g p) (λ s next came. came.graph) in
    record { before = did.before; begins = begins_before start old new _ _ did; graph = graph; subjects = ap (λ (g : ProtectionGraph). g.subjects) graph }

pub unparks_only : (start : SharedStart) (old new : KeeperState) (p : Parking) (edges : ℕ) → HasUnparked start p old new (Done edges) → UnparksOnly start new.seen p
unparks_only start old new p edges did =
    let graph = graph_moved start old new _ _ did (λ g. unparked g p) (λ s next came. came.graph) in
    record { before = did.before; begins = begins_before start old new _ _ did; graph = graph; subjects = ap (λ (g : ProtectionGraph). g.subjects) graph }

pub park_denied : (start : SharedStart) (old new : KeeperState) (p : Parking) (denial : Denial) → HasParked start p old new (Denied denial) → ChangesNothing start new.seen
park_denied start old new p denial did = changes_nothing start old new _ _ did (λ s next came. came.graph)

pub unpark_denied : (start : SharedStart) (old new : KeeperState) (p : Parking) (denial : Denial) → HasUnparked start p old new (Denied denial) → ChangesNothing start new.seen
unpark_denied start old new p denial did = changes_nothing start old new _ _ did (λ s next came. came.graph)

-- who was parked was made, since it made the last of the entries
user_low : (p : Parking) (old new : StoreState) (edges : ℕ) → IsFaithful old → IsParked p old new edges → p.user < (graph_of_store new).made
user_low p old new edges faithful did =
    let g = graph_of_store old in
    let row = listing_of g.label g.made p.user in
    let front : List Entry = filling p row ++ map (removal p.user) row in
    let split : parking g p ≡ front ++ retiring p.user ∷ [] = sym (append_assoc (filling p row) (map (removal p.user) row) (retiring p.user ∷ [])) in
    let low : p.user < (graph_after g (front ++ retiring p.user ∷ [])).made = last_low g front (retiring p.user) (sound_of old faithful) (subst (IsLegal g) split did.legal) in
    subst (λ (h : ProtectionGraph). p.user < h.made) (ap (graph_after g) (sym split) ∙ sym (graph_more old new (parking g p) did.entries did.opening)) low

pub stays_parked : (old new later : StoreState) (p : Parking) (edges : ℕ) (es : List Entry) → IsFaithful old → IsParked p old new edges → later.opening ≡ new.opening → later.entries ≡ new.entries ++ es → ¬ IsSubject (graph_of_store later) p.user
stays_parked old new later p edges es faithful did opening entries again =
    let gone : ¬ IsSubject (graph_of_store new) p.user = λ here. ((is_without (graph_of_store old).subjects p.user p.user).0 (subst (λ (g : ProtectionGraph). IsSubject g p.user) did.graph here)).1 refl in
    no_subject-after (graph_of_store new) es p.user (user_low p old new edges faithful did) gone (subst (λ (g : ProtectionGraph). IsSubject g p.user) (graph_more new later es entries opening) again)

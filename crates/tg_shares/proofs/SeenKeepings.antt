-- What the keeper knows of a withdrawal, a parking and an unparking. The lemmas are those of the proofs of `tg_shared` that have their
-- names, which that crate keeps to itself.
use Rattle.std.proofs.Common.{◌≡◌, ◌∙◌, ◌+◌, ℕ, List, [], ◌∷◌, ◌++◌, ap, arith, length, length-append, map, refl}
use Rattle.tg_rights.specs.RightSet.{RightSet, only}
use Rattle.tg_model.specs.Graph.{ProtectionGraph, listing_of}
use Rattle.tg_journal.specs.declared.entry.Entry.{Entry}
use Rattle.tg_passes.specs.declared.signed.Maker.TheVariants.{Keeper}
use Rattle.tg_passes.specs.Passes.{Sees, sign_all}
use Rattle.tg_store.specs.Store.{StoreState, graph_of_store}
use Rattle.tg_store.specs.Withdrawing.{IsWithdrawn, withdrawing}
use Rattle.tg_shared.specs.Serving.{HasNotedEnd}
use Rattle.tg_shared.specs.Sessions.{HoldsWhenFree, KeeperState, LockedState, SharedStart, graph_seen, keeper_knowledge}
use Rattle.tg_shared.specs.Withdrawing.{HasWithdrawn}
use Rattle.tg_shared.proofs.Calls.{found_with}
use Rattle.tg_shared.proofs.Knowing.{got_more, graph_is}
use Rattle.std.proofs.lemmas.List.{length-map}
use Rattle.tg_rights.specs.declared.Right.TheVariants as right
use Rattle.tg_store.specs.declared.parking.Parking.{Parking}
use Rattle.tg_store.specs.declared.parking.Parked.{Parked}
use Rattle.tg_store.specs.declared.parking.Parked.TheVariants.{Done, Denied}
use Rattle.tg_store.specs.Handing.{done_by}
use Rattle.tg_store.specs.Leaving.{leaving, removal}
use Rattle.tg_store.specs.Parking.{ComesOfParking, filling, key_of, putting}
use Rattle.tg_store.specs.Unparking.{ComesOfUnparking, take_key_of, taking}
use Rattle.tg_shared.specs.Parking.{HasMadeAtOnce, HasParked, HasUnparked, count_of_park, count_of_unpark, entries_of_park, entries_of_unpark}
use Rattle.tg_shared.proofs.Leavings.{length_leaving}

pub has_withdrawn : (start : SharedStart) (v w : LockedState) (old new : KeeperState) (target : ℕ) (rights : RightSet) (keep names : List ℕ) → HoldsWhenFree start v → HoldsWhenFree start w → Sees v.signed (keeper_knowledge old) → HasNotedEnd v w old new
    → IsWithdrawn target rights keep v.store w.store names → HasWithdrawn start target rights keep old new names
has_withdrawn start v w old new target rights keep names held after sees noted left =
    let graph : graph_of_store v.store ≡ graph_seen start v.signed = graph_is start v.store v.signed held.grown_by held.gone_on in
    let more : List Entry = withdrawing (graph_of_store v.store) target rights keep in
    let got = got_more v.store.entries w.store.entries more left.entries in
    record {
      before = v.signed;
      sees = sees;
      came = found_with start v.signed _ v held refl (found_with start new.seen (λ next. IsWithdrawn target rights keep v.store next names) w after noted.seen left);
      made = noted.made ∙ ap (λ (l : List Entry). old.made ++ l) got ∙ ap (λ (g : ProtectionGraph). old.made ++ withdrawing g target rights keep) graph;
      seen = noted.seen ∙ noted.signed ∙ ap (λ (l : List Entry). v.signed ++ sign_all Keeper l) got ∙ ap (λ (g : ProtectionGraph). v.signed ++ sign_all Keeper (withdrawing g target rights keep)) graph;
      next = noted.next;
    }

length_between : (first : Entry) (middle last : List Entry) → length (first ∷ middle ++ last) ≡ 1 + length middle + length last
length_between first middle last = let all = length-append middle last in omega (arith, all)

park_count : (p : Parking) (old new : StoreState) (answer : Parked) → ComesOfParking p old new answer → length (entries_of_park (graph_of_store old) p answer) ≡ count_of_park answer
park_count p old new (Done edges) did =
    let g = graph_of_store old in
    let row = listing_of g.label g.made p.user in
    let all = length-append (filling p row) (leaving g p.user) in
    let first = length_between (done_by p.host (key_of p)) (map (putting p) row) (removal p.user (p.account, only right.G) ∷ []) in
    let each = length-map row (putting p) in
    let last = length_leaving g p.user in
    let count = did.count in
    omega (arith, all, first, each, last, count)
park_count p old new (Denied denial) did = refl

unpark_count : (p : Parking) (old new : StoreState) (answer : Parked) → ComesOfUnparking p old new answer → length (entries_of_unpark (graph_of_store old) p answer) ≡ count_of_unpark answer
unpark_count p old new (Done edges) did =
    let g = graph_of_store old in
    let row = listing_of g.label g.made p.account in
    let all = length_between (done_by p.host (take_key_of p)) (map (taking p) row) (removal p.user (p.account, only right.T) ∷ removal p.host (p.account, g.label p.host p.account) ∷ []) in
    let each = length-map row (taking p) in
    let count = did.count in
    omega (arith, all, each, count)
unpark_count p old new (Denied denial) did = refl

-- the entries that came of it
parked_got : (p : Parking) (v w : LockedState) (answer : Parked) → ComesOfParking p v.store w.store answer → w.store.entries ≡ v.store.entries ++ entries_of_park (graph_of_store v.store) p answer
parked_got p v w (Done edges) did = did.entries
parked_got p v w (Denied denial) did = did.entry.entry

unparked_got : (p : Parking) (v w : LockedState) (answer : Parked) → ComesOfUnparking p v.store w.store answer → w.store.entries ≡ v.store.entries ++ entries_of_unpark (graph_of_store v.store) p answer
unparked_got p v w (Done edges) did = did.entries
unparked_got p v w (Denied denial) did = did.entry.entry

has_made : (start : SharedStart) (v w : LockedState) (old new : KeeperState) (comes : StoreState → StoreState → Type 0) (entries : ProtectionGraph → List Entry) → HoldsWhenFree start v → HoldsWhenFree start w → Sees v.signed (keeper_knowledge old)
    → HasNotedEnd v w old new → comes v.store w.store → w.store.entries ≡ v.store.entries ++ entries (graph_of_store v.store) → HasMadeAtOnce start comes entries old new
has_made start v w old new comes entries held after sees noted came got =
    let graph : graph_of_store v.store ≡ graph_seen start v.signed = graph_is start v.store v.signed held.grown_by held.gone_on in
    let all = got_more v.store.entries w.store.entries (entries (graph_of_store v.store)) got in
    record {
      before = v.signed;
      sees = sees;
      came = found_with start v.signed _ v held refl (found_with start new.seen (comes v.store) w after noted.seen came);
      made = noted.made ∙ ap (λ (l : List Entry). old.made ++ l) all ∙ ap (λ (g : ProtectionGraph). old.made ++ entries g) graph;
      seen = noted.seen ∙ noted.signed ∙ ap (λ (l : List Entry). v.signed ++ sign_all Keeper l) all ∙ ap (λ (g : ProtectionGraph). v.signed ++ sign_all Keeper (entries g)) graph;
      next = noted.next;
    }

-- it made so many entries more
made_number : (v w : LockedState) (old new : KeeperState) (more : List Entry) (count : ℕ) → HasNotedEnd v w old new → w.store.entries ≡ v.store.entries ++ more → length more ≡ count → length new.made ≡ length old.made + count
made_number v w old new more count noted got long =
    let all = ap (λ (l : List Entry). length l) (noted.made ∙ ap (λ (l : List Entry). old.made ++ l) (got_more v.store.entries w.store.entries more got)) in
    let sum = length-append old.made more in
    omega (arith, all, sum, long)

pub has_parked : (start : SharedStart) (p : Parking) (v w : LockedState) (old new : KeeperState) (answer : Parked) → HoldsWhenFree start v → HoldsWhenFree start w → Sees v.signed (keeper_knowledge old) → HasNotedEnd v w old new
    → ComesOfParking p v.store w.store answer → HasParked start p old new answer
has_parked start p v w old new answer held after sees noted came =
    has_made start v w old new (λ s next. ComesOfParking p s next answer) (λ g. entries_of_park g p answer) held after sees noted came (parked_got p v w answer came)

pub has_unparked : (start : SharedStart) (p : Parking) (v w : LockedState) (old new : KeeperState) (answer : Parked) → HoldsWhenFree start v → HoldsWhenFree start w → Sees v.signed (keeper_knowledge old) → HasNotedEnd v w old new
    → ComesOfUnparking p v.store w.store answer → HasUnparked start p old new answer
has_unparked start p v w old new answer held after sees noted came =
    has_made start v w old new (λ s next. ComesOfUnparking p s next answer) (λ g. entries_of_unpark g p answer) held after sees noted came (unparked_got p v w answer came)

pub parked_number : (p : Parking) (v w : LockedState) (old new : KeeperState) (answer : Parked) → HasNotedEnd v w old new → ComesOfParking p v.store w.store answer → length new.made ≡ length old.made + count_of_park answer
parked_number p v w old new answer noted came = made_number v w old new _ _ noted (parked_got p v w answer came) (park_count p v.store w.store answer came)

pub unparked_number : (p : Parking) (v w : LockedState) (old new : KeeperState) (answer : Parked) → HasNotedEnd v w old new → ComesOfUnparking p v.store w.store answer → length new.made ≡ length old.made + count_of_unpark answer
unparked_number p v w old new answer noted came = made_number v w old new _ _ noted (unparked_got p v w answer came) (unpark_count p v.store w.store answer came)

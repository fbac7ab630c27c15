-- The walk along roots, one after the other.
use Rattle.std.proofs.Common.{◌≡◌, ℕ, ◌+◌, ◌<◌, ◌≤◌, List, length, get_or, take, sym, subst, ◌∙◌, Ok, Err, OnOk, Result, IsErrAnd}
use Rattle.std.specs.List.{All, Contains}
use Rattle.std.proofs.lemmas.List.{take_all}
use Rattle.std.proofs.lemmas.List.Elements.{All-nil, Contains-get_or}
use Rattle.tg_word.specs.declared.Place.{Place}
use Rattle.tg_space.specs.SpaceList.{SpaceList}
use Rattle.tg_space.specs.Targets.{from_space, all_root_targets, root_targets_of}
use Rattle.tg_space.specs.declared.kind.Kind.{Kind}
use Rattle.tg_space.specs.declared.root.Root.{Root}
use Rattle.tg_space.specs.declared.root.Root.TheVariants.{Row}
use Rattle.tg_space.specs.declared.room_fault.RoomFault.{RoomFault}
use Rattle.tg_space.specs.declared.room_fault.RoomFault.TheVariants.{HeapFull}
use Rattle.tg_evac.specs.Win.{Win}
use Rattle.tg_evac.specs.Claims.{AreTraced, is_straight}
use Rattle.tg_evac.specs.Claimers.{AreScanned, KeepsWins, KnowsMore, Walked}
use Rattle.tg_evac.specs.Walks.{ClaimsAll, IsUnderWay, MayWalkAlong, Scans, WalksAlong}
use Rattle.tg_evac.proofs.Passing.{walk_still}
use Rattle.tg_evac.proofs.Pieces.{keeps_root, met_root, ok_always, scanned_more, traced_root}
use Rattle.tg_evac.proofs.Walking.{still_met, wins_none, wins_then}

-- more was won and more is known, and what was won is traced from roots
pub record GoesAlong {Table Fixed : Type 0} (walked : Table → Walked Fixed) (knows : Table → (ℕ → Place) → Type 0) (h : SpaceList) (roots : List Root) (before after : Table) : Type 0 where
  pub traced : (all : List Root) → ((root : Root) → Contains roots root → Contains all root) → AreTraced (walked before).kind h all (walked before).won → AreTraced (walked before).kind h all (walked after).won
  pub keeps : KeepsWins (walked before) (walked after)
  pub grows : KnowsMore (knows before) (knows after)

-- the targets of so many of the roots are met, and so many of what was won were scanned
pub record HasWalked {Table Fixed : Type 0} (walked : Table → Walked Fixed) (knows : Table → (ℕ → Place) → Type 0)
    (h : SpaceList) (roots : List Root) (i : ℕ) (before after : Table) (count : ℕ) (aged old : List (List ℕ)) : Type 0 where
  pub along : GoesAlong walked knows h roots before after
  pub met : All (Contains (walked after).met) (all_root_targets (from_space (walked before).kind) h (take i roots))
  pub scanned : AreScanned h (walked after) (knows after) count aged old

abbrev pub no_root : Root
no_root = Row (record { space = 0; block = 0; cell = 0 })

module _ {Table Fixed : Type 0} (walked : Table → Walked Fixed) (knows : Table → (ℕ → Place) → Type 0) (is_full : Table → Type 0) {h : SpaceList} {roots : List Root} where
  -- one step after the other
  pub along_then : {a b c : Table} → GoesAlong walked knows h roots a b → GoesAlong walked knows h roots b c → GoesAlong walked knows h roots a c
  along_then {b = b} {c = c} one two = record {
    traced = λ all held traced. subst (λ (k : Kind). AreTraced k h all (walked b).won → AreTraced k h all (walked c).won) one.keeps.same_kind (two.traced all held) (one.traced all held traced);
    keeps = wins_then one.keeps two.keeps;
    grows = λ to agrees. one.grows to (two.grows to agrees);
  }

  -- a scan, and the claims of what the next root names
  pub scan_along : {T : Type 0} {b c : Table} {count : ℕ} {aged old : List (List ℕ)} {result : Result T RoomFault} → Scans walked knows is_full h b c count aged old result → GoesAlong walked knows h roots b c
  scan_along scans = record { traced = λ all held. scans.traced all; keeps = scans.goes.keeps; grows = scans.goes.grows }

  pub root_along : {T : Type 0} {b c : Table} {result : Result T RoomFault} (i : ℕ) → i < length roots →
      ClaimsAll walked knows is_full h (is_straight (walked b).kind (get_or roots i no_root)) (root_targets_of (from_space (walked b).kind) h (get_or roots i no_root)) b c result → GoesAlong walked knows h roots b c
  root_along i inside claims = record {
    traced = λ all held. traced_root h (get_or roots i no_root) claims.added all (held (get_or roots i no_root) (Contains-get_or roots i no_root inside));
    keeps = keeps_root h (get_or roots i no_root) claims.added;
    grows = claims.grows;
  }

  -- where either was refused
  pub walks_refused : {T : Type 0} {a c : Table} {count : ℕ} {aged old : List (List ℕ)} (result : Result T RoomFault) (fault : RoomFault) → IsErrAnd result (λ x. x ≡ fault) →
      GoesAlong walked knows h roots a c → (fault ≡ HeapFull → is_full c) → WalksAlong walked knows is_full h roots a c count aged old result
  walks_refused (Ok x) fault same along full = absurd same
  walks_refused (Err x) fault same along full = record {
    traced = along.traced;
    goes = record { keeps = along.keeps; grows = along.grows; full = λ is. full (sym same ∙ is) };
    met = tt;
    scanned = tt;
    ended = tt;
  }

  -- before the first root
  pub walked_none : {kind : Kind} {a : Table} {m : ℕ} {aged old : List (List ℕ)} → MayWalkAlong walked knows kind h roots a m aged old → HasWalked walked knows h roots 0 a a m aged old
  walked_none {a = a} may = record {
    along = record { traced = λ all held traced. traced; keeps = wins_none (λ (w : Win). Unit {0}) (walked a); grows = λ to agrees. agrees };
    met = All-nil (Contains (walked a).met);
    scanned = may.scanned;
  }

  module _ {a b : Table} {i n : ℕ} {aged old : List (List ℕ)} (was : HasWalked walked knows h roots i a b n aged old) where
    -- what the next scan is handed
    pub walked_under_way : {kind : Kind} {m : ℕ} {aged_before old_before : List (List ℕ)} → MayWalkAlong walked knows kind h roots a m aged_before old_before → IsUnderWay walked knows kind h b n aged old
    walked_under_way may =
        let all = may.traced.0 in
        record {
          walk = walk_still was.along.keeps may.walk;
          traced = (all, subst (λ (k : Kind). AreTraced k h all (walked b).won) (sym was.along.keeps.same_kind) (was.along.traced all may.traced.1 may.traced.2));
          copies = was.scanned;
        }

    -- once more was scanned
    pub walked_scan : {c : Table} {count m : ℕ} {aged_after old_after : List (List ℕ)} → Scans walked knows is_full h b c count aged_after old_after (Ok (tt {0})) → m ≡ count → HasWalked walked knows h roots i a c m aged_after old_after
    walked_scan {c = c} {aged_after = aged_after} {old_after = old_after} scans ended = record {
      along = along_then was.along (scan_along scans);
      met = still_met scans.goes.keeps (all_root_targets (from_space (walked a).kind) h (take i roots)) was.met;
      scanned = subst (λ (k : ℕ). AreScanned h (walked c) (knows c) k aged_after old_after) (sym ended) scans.copies;
    }

    -- the last scan
    pub walks_all : {T : Type 0} {c : Table} {m : ℕ} {aged_after old_after : List (List ℕ)} {result : Result T RoomFault} → length roots ≤ i →
        Scans walked knows is_full h b c (length (walked c).won) aged_after old_after result → OnOk result (m ≡ length (walked c).won) → WalksAlong walked knows is_full h roots a c m aged_after old_after result
    walks_all {result = result} all scans ended =
        let along = along_then was.along (scan_along scans) in
        record {
          traced = along.traced;
          goes = record { keeps = along.keeps; grows = along.grows; full = scans.goes.full };
          met = ok_always result (still_met scans.goes.keeps (all_root_targets (from_space (walked a).kind) h roots)
              (subst (λ (js : List Root). All (Contains (walked b).met) (all_root_targets (from_space (walked a).kind) h js)) (take_all i roots all) was.met));
          scanned = scans.copies;
          ended = ended;
        }

    -- with the targets of the next root
    pub walked_root : {c : Table} → i < length roots →
        ClaimsAll {T = Unit {0}} walked knows is_full h (is_straight (walked b).kind (get_or roots i no_root)) (root_targets_of (from_space (walked b).kind) h (get_or roots i no_root)) b c (Ok (tt {0})) → HasWalked walked knows h roots (i + 1) a c n aged old
    walked_root inside claims =
        let next = root_along i inside claims in
        record {
          along = along_then was.along next;
          met = met_root h roots i no_root inside was.along.keeps next.keeps was.met claims.met;
          scanned = scanned_more was.scanned claims.added claims.grows;
        }

-- One scan after the other.
use Rattle.std.proofs.Common.{◌≡◌, ℕ, List, sym, subst, ◌∙◌, Ok, Err, Result, IsErrAnd}
use Rattle.tg_word.specs.declared.Place.{Place}
use Rattle.tg_space.specs.SpaceList.{SpaceList}
use Rattle.tg_space.specs.declared.kind.Kind.{Kind}
use Rattle.tg_space.specs.declared.room_fault.RoomFault.{RoomFault}
use Rattle.tg_evac.specs.Win.{Win}
use Rattle.tg_evac.specs.Claims.{AreTraced}
use Rattle.tg_evac.specs.Claimers.{Walked}
use Rattle.tg_evac.specs.Walks.{IsUnderWay, Scans}
use Rattle.tg_evac.proofs.Passing.{walk_still}
use Rattle.tg_evac.proofs.Walking.{wins_none, wins_then}

module _ {Table Fixed : Type 0} (walked : Table → Walked Fixed) (knows : Table → (ℕ → Place) → Type 0) (is_full : Table → Type 0) {h : SpaceList} where
  -- before the first one
  pub scans_none : {kind : Kind} {table : Table} {scanned : ℕ} {aged old : List (List ℕ)} → IsUnderWay walked knows kind h table scanned aged old → Scans walked knows is_full h table table scanned aged old (Ok (tt {0}))
  scans_none {table = table} under = record {
    goes = record { keeps = wins_none (λ (w : Win). Unit {0}) (walked table); grows = λ to agrees. agrees; full = tt };
    traced = λ roots traced. traced;
    copies = under.copies;
  }

  pub scans_both : {T : Type 0} {a b c : Table} {m n : ℕ} {aged old aged_after old_after : List (List ℕ)} {result : Result T RoomFault} →
      Scans walked knows is_full h a b m aged old (Ok (tt {0})) → Scans walked knows is_full h b c n aged_after old_after result → Scans walked knows is_full h a c n aged_after old_after result
  scans_both {b = b} {c = c} one two = record {
    goes = record { keeps = wins_then one.goes.keeps two.goes.keeps; grows = λ to agrees. one.goes.grows to (two.goes.grows to agrees); full = two.goes.full };
    traced = λ roots traced.
        subst (λ (k : Kind). AreTraced k h roots (walked b).won → AreTraced k h roots (walked c).won) one.goes.keeps.same_kind (two.traced roots) (one.traced roots traced);
    copies = two.copies;
  }

  -- what the next one is handed
  pub still_under_way : {kind : Kind} {a b : Table} {m n : ℕ} {aged old aged_after old_after : List (List ℕ)} →
      Scans walked knows is_full h a b n aged_after old_after (Ok (tt {0})) → IsUnderWay walked knows kind h a m aged old → IsUnderWay walked knows kind h b n aged_after old_after
  still_under_way {b = b} scans was = record {
    walk = walk_still scans.goes.keeps was.walk;
    traced = (was.traced.0, subst (λ (k : Kind). AreTraced k h was.traced.0 (walked b).won) (sym scans.goes.keeps.same_kind) (scans.traced was.traced.0 was.traced.1));
    copies = scans.copies;
  }

  -- the fault goes on to the caller
  pub scans_refused : {T U : Type 0} {a b : Table} {m n : ℕ} {aged old aged_after old_after : List (List ℕ)} (result : Result T RoomFault) (fault : RoomFault) → IsErrAnd result (λ x. x ≡ fault) →
      Scans {T = U} walked knows is_full h a b m aged old (Err fault) → Scans walked knows is_full h a b n aged_after old_after result
  scans_refused (Ok x) fault same scans = absurd same
  scans_refused (Err x) fault same scans = record {
    goes = record { keeps = scans.goes.keeps; grows = scans.goes.grows; full = λ is. scans.goes.full (sym same ∙ is) };
    traced = scans.traced;
    copies = tt;
  }

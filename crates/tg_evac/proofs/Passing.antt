-- What goes on to the caller: a fault, and what a walk has kept.
use Rattle.std.proofs.Common.{◌≡◌, ℕ, Bool, List, sym, ap, subst, ◌∙◌, Ok, Err, Result, IsErrAnd, IfErr, OnOk}
use Rattle.tg_space.specs.SpaceList.{SpaceList}
use Rattle.tg_space.specs.SpaceTable.{SpaceTable, kept_blocks}
use Rattle.tg_space.specs.declared.kind.Kind.{Kind}
use Rattle.tg_evac.specs.Win.{Win}
use Rattle.tg_word.specs.declared.Place.{Place}
use Rattle.tg_word.specs.Word.{place_in}
use Rattle.tg_space.specs.Targets.{from_space}
use Rattle.tg_space.specs.declared.root.Root.{Root}
use Rattle.tg_space.specs.declared.copied.Copied.{Copied}
use Rattle.tg_space.specs.declared.room_fault.RoomFault.{RoomFault}
use Rattle.tg_space.specs.declared.room_fault.RoomFault.TheVariants.{HeapFull}
use Rattle.tg_evac.specs.Claims.{IsClaimOf}
use Rattle.tg_evac.specs.Claimers.{AddsWins, KeepsWins, KnowsMore, Walked}
use Rattle.tg_evac.specs.Collects.{CollectsRoots}
use Rattle.tg_evac.specs.Room.{IsReachedFrom, LacksRoomFor}
use Rattle.tg_evac.specs.Walks.{ClaimsAll, WalkGoesOn, IsTableFor, MayWalk}

-- the same fault
pub passed_on : {A E : Type 0} (r : Result A E) (P : E → Type 0) (y : E) → IsErrAnd r (λ x. x ≡ y) → P y → IfErr r P
passed_on (Ok x) P y same p = absurd same
passed_on (Err x) P y same p = subst P (sym same) p

-- what holds where nothing was refused
pub refused_always : {A E : Type 0} (r : Result A E) (y : E) (P : Type 0) → IsErrAnd r (λ x. x ≡ y) → OnOk r P
refused_always (Ok x) y P same = absurd same
refused_always (Err x) y P same = tt

-- a collection that is refused
pub collects_refused : {Fault : Type 0} {heap_full : Fault} {kind : Kind} {t : SpaceTable} {roots : List Root} {more helpers : ℕ} (result : Result Copied Fault) (fault : Fault) → IsErrAnd result (λ x. x ≡ fault) →
    (fault ≡ heap_full → LacksRoomFor t.limits.space_blocks helpers (kept_blocks kind t.spaces) (IsReachedFrom kind t.spaces roots)) → CollectsRoots heap_full kind t roots more helpers result
collects_refused (Ok x) fault same full = absurd same
collects_refused (Err x) fault same full = record { collected = tt; moved = tt; few = tt; full = λ is. full (sym same ∙ is) }

-- the table is for the same collection
pub table_still : {Fixed : Type 0} {reason : Win → Type 0} {kind : Kind} {h : SpaceList} {a b : Walked Fixed} → AddsWins reason a b → IsTableFor kind h a → IsTableFor kind h b
table_still {h = h} adds is = record {
  same = adds.same_kind ∙ is.same;
  whole = adds.as_many ∙ is.whole;
  kept = adds.same_kept ∙ is.kept ∙ ap (λ (k : Kind). kept_blocks k h) (sym adds.same_kind);
}

pub walk_still : {Fixed : Type 0} {reason : Win → Type 0} {kind : Kind} {h : SpaceList} {a b : Walked Fixed} → AddsWins reason a b → MayWalk kind h a → MayWalk kind h b
walk_still adds is = record { pointers = is.pointers; table = table_still adds is.table }

-- whether the cell that a word names is moved, as the table has it
pub moves_as : {Fixed : Type 0} {kind : Kind} {h : SpaceList} {w : Walked Fixed} (p : Place) (word : ℕ) (moves b : Bool) → IsTableFor kind h w → p ≡ place_in word → moves ≡ from_space kind p.space → moves ≡ b → from_space w.kind (place_in word).space ≡ b
moves_as {kind = kind} p word moves b table at is test = ap (λ (k : Kind). from_space k (place_in word).space) table.same ∙ ap (λ (q : Place). from_space kind q.space) (sym at) ∙ sym is ∙ test

module _ {Table Fixed : Type 0} (walked : Table → Walked Fixed) (knows : Table → (ℕ → Place) → Type 0) (is_full : Table → Type 0) {before after : Table} where
  -- what was claimed till a claim was refused
  pub claims_refused : {T : Type 0} {h : SpaceList} {straight : Bool} {cells : List ℕ} (r : Result T RoomFault) (fault : RoomFault) → IsErrAnd r (λ x. x ≡ fault) →
      AddsWins (IsClaimOf h straight cells) (walked before) (walked after) → KnowsMore (knows before) (knows after) → (fault ≡ HeapFull → is_full after) → ClaimsAll walked knows is_full h straight cells before after r
  claims_refused (Ok x) fault same added grows full = absurd same
  claims_refused (Err x) fault same added grows full = record { added = added; grows = grows; met = tt; full = λ is. full (sym same ∙ is) }

  -- what was won till then
  pub goes_refused : {T : Type 0} (r : Result T RoomFault) (fault : RoomFault) → IsErrAnd r (λ x. x ≡ fault) →
      KeepsWins (walked before) (walked after) → KnowsMore (knows before) (knows after) → (fault ≡ HeapFull → is_full after) → WalkGoesOn walked knows is_full before after r
  goes_refused r fault same keeps grows full = record { keeps = keeps; grows = grows; full = passed_on r (λ x. x ≡ HeapFull → is_full after) fault same full }

-- What the keeper's withdrawal of rights over a vertex leaves, and what the keeper knows then.
use Rattle.std.specs.Prelude.{◌≡◌, ℕ, List, [], ◌++◌}
use Rattle.tg_rights.specs.RightSet.{RightSet}
use Rattle.tg_passes.specs.declared.signed.Maker.TheVariants.{Keeper}
use Rattle.tg_passes.specs.declared.signed.Signed.{Signed}
use Rattle.tg_passes.specs.Passes.{BeginsWith, Sees, sign_all}
use Rattle.tg_store.specs.Store.{StoreState, IsFaithful, graph_of_store}
use Rattle.tg_store.specs.Withdrawing.{AreHoldersOfSome, IsWithdrawn, withdrawing, withdrawn}
use Rattle.tg_shared.specs.Laws.{HasExactly}
use Rattle.tg_shared.specs.Sessions.{AtSeen, KeeperState, SharedStart, graph_seen, keeper_knowledge}

-- The keeper withdrew rights over the target, and these names were returned. A store may have been in the lock when exactly these
-- entries had been made since the start. The withdrawal made of it a store that may have been in the lock next. The keeper sees the
-- entries before. It has made exactly the removes, and has then seen both.
pub record HasWithdrawn (start : SharedStart) (target : ℕ) (rights : RightSet) (keep : List ℕ) (old new : KeeperState) (names : List ℕ) : Type 0 where
  pub before : List Signed
  pub sees : Sees before (keeper_knowledge old)
  pub came : AtSeen start before (λ s. AtSeen start new.seen (λ next. IsWithdrawn target rights keep s next names))
  pub made : new.made ≡ old.made ++ withdrawing (graph_seen start before) target rights keep
  pub seen : new.seen ≡ before ++ sign_all Keeper (withdrawing (graph_seen start before) target rights keep)
  pub next : new.next ≡ old.next

-- The graph after these entries is the graph after a front of them, without the withdrawn rights. The same vertices are subjects.
-- The vertices with these names still hold some of the rights.
pub record WithdrawsOnly (start : SharedStart) (seen : List Signed) (target : ℕ) (rights : RightSet) (keep names : List ℕ) : Type 0 where
  pub before : List Signed
  pub begins : BeginsWith seen before
  pub graph : graph_seen start seen ≡ withdrawn (graph_seen start before) target rights keep
  pub subjects : (graph_seen start seen).subjects ≡ (graph_seen start before).subjects
  pub left : AreHoldersOfSome (graph_seen start seen) rights target names

-- Whatever entries follow those that were seen, nobody who is reached holds one of the rights over the target.
abbrev pub StaysAway : SharedStart → List Signed → RightSet → ℕ → Type 0
StaysAway start seen rights target =
    (all : List Signed) (s : StoreState) → HasExactly start all s → IsFaithful s → BeginsWith all seen → AreHoldersOfSome (graph_of_store s) rights target []

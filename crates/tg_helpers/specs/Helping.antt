-- What a store's collection by several helpers does.
use Rattle.std.specs.Prelude.{◌≡◌, ◌≢◌, ℕ, Result, Err, IfOk, OnOk}
use Rattle.tg_parallel.specs.declared.fault.HelpersFault.{HelpersFault}
use Rattle.tg_parallel.specs.declared.fault.HelpersFault.TheVariants.{HeapFull, NoThread}
use Rattle.tg_space.specs.declared.kind.Kind.{Kind}
use Rattle.tg_store.specs.Collecting.{IsSwept, KeepsHistory}
use Rattle.tg_store.specs.Room.{LacksRoomToCollect}
use Rattle.tg_store.specs.Store.{StoreState, HasFewBlocks}

-- A collection by so many helpers: what it leaves of the store, with as many blocks more a space, and why it may be refused, which
-- leaves the store as it was. One helper alone is never told that there is no thread.
pub record CollectsBy (kind : Kind) (helpers : ℕ) (old new : StoreState) (result : Result ℕ HelpersFault) : Type 0 where
  pub swept : IfOk result (IsSwept kind old new)
  pub blocks : OnOk result (HasFewBlocks kind helpers old.heap.table new.heap.table)
  pub full : result ≡ Err HeapFull → LacksRoomToCollect kind helpers old.heap
  pub alone : helpers ≡ 1 → result ≢ Err NoThread
  pub history : KeepsHistory old new result

-- The payments of purses into a till, and the law that each entry of a client was paid for.
use Rattle.std.specs.Prelude.{◌≡◌, ◌+◌, ℕ, length}
use Rattle.tg_shared.specs.Sessions.{LockedState}
use Rattle.tg_shares.specs.declared.purse.Portion.{Portion}
use Rattle.tg_shares.specs.Shares.{Pays}

-- The shares that are left in all purses. With them comes how many entries there were when the store was shared out, and how many
-- entries were given out then.
pub record TillState : Type 0 where
  pub left : Portion
  pub before : ℕ
  pub given : ℕ

-- exactly this was paid in
pub record TakesIn (part : Portion) (old new : TillState) : Type 0 where
  pub left : Pays part old.left new.left
  pub before : new.before ≡ old.before
  pub given : new.given ≡ old.given

-- Add the entries that were made to the entries that are left in all purses. The sum is the number of entries from before, of the
-- keeper's entries and of the entries that were given out. So each entry of a client was paid for.
abbrev pub ArePaid : TillState → LockedState → Type 0
ArePaid till locked = length locked.store.entries + till.left.entries ≡ till.before + locked.entered + till.given

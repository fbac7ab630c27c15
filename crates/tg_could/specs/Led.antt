-- What could come about where no separation parts it: whom walks lead to, and to whom they lead the right.
use Rattle.std.specs.Prelude.{◌≢◌, ◌⊎◌, ℕ, ◌<◌, length}
use Rattle.tg_rights.specs.declared.Right.{Right}
use Rattle.tg_rights.specs.declared.Right.TheVariants.{T, G}
use Rattle.tg_model.specs.declared.opening.TheConstants.{MAX_WORKERS}
use Rattle.tg_model.specs.Graph.{ProtectionGraph}
use Rattle.tg_model.specs.Picture.{Holds}
use Rattle.tg_could.specs.Turns.{Acts, MayCome}

-- back to those from whom the right may come, or forward from one who acts and may get it
pub data Way : Type 0 where
  back : Way
  forward : Way

-- Whom the walks lead to that begin with the holders of a right over y, or where y may yet be made with those who may make it:
-- the least two sets that no separation can do without, one for each way.
pub data Led (silent : ℕ → Type 0) (right : Right) (y : ℕ) (g : ProtectionGraph) : Way → ℕ → Type 0 where
  source : {s : ℕ} → Holds g.label s right y → Led silent right y g back s
  maker : {p : ℕ} → MayCome g y → Acts silent g p → Led silent right y g back p
  take_back : {a b : ℕ} → Holds g.label a T b → Led silent right y g back b → Led silent right y g back a
  take_on : {a b : ℕ} → Holds g.label a T b → Led silent right y g forward a → Led silent right y g forward b
  grant_on : {a b : ℕ} → Holds g.label a G b → Led silent right y g forward a → Led silent right y g back b
  grant_back : {a b : ℕ} → Holds g.label a G b → Led silent right y g forward b → Led silent right y g back a
  turns_forward : {p : ℕ} → Acts silent g p → Led silent right y g back p → Led silent right y g forward p
  turns_back : {p : ℕ} → Acts silent g p → Led silent right y g forward p → Led silent right y g back p

-- The right over y is led to x: x holds it, or acts and may get it, or is granted to by one who may, or may yet be made by one.
pub data IsBrought (silent : ℕ → Type 0) (right : Right) (y : ℕ) (g : ProtectionGraph) (x : ℕ) : Type 0 where
  is_held : Holds g.label x right y → IsBrought silent right y g x
  is_got : Acts silent g x → Led silent right y g back x → IsBrought silent right y g x
  is_given : {a : ℕ} → Holds g.label a G x → Led silent right y g forward a → IsBrought silent right y g x
  is_made : {p : ℕ} → MayCome g x → Acts silent g p → Led silent right y g back p → IsBrought silent right y g x

-- y isn't alone: one more may be spawned, or another one acts
abbrev pub HasHelp : (ℕ → Type 0) → ProtectionGraph → ℕ → Type 0
HasHelp silent g y = (length g.subjects < MAX_WORKERS) ⊎ ((p : ℕ) × Acts silent g p × (p ≢ y))

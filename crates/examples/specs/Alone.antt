-- Some rights over a vertex that an owner keeps to itself. Nobody else ever comes to hold them.
use Rattle.std.specs.Prelude.{◌≡◌, ◌⊎◌, ℕ, ◌<◌, Bool, true, false, Option}
use Rattle.tg_rights.specs.RightSet.{has}
use Rattle.tg_rights.specs.declared.Right.{Right}
use Rattle.tg_rights.specs.declared.Right.TheVariants.{A, T, W}
use Rattle.tg_model.specs.declared.command.Command.TheVariants.{Grant, Read, Write, Append}
use Rattle.tg_model.specs.declared.command.Deed.{Deed}
use Rattle.tg_model.specs.declared.command.Deed.TheVariants.{Plain}
use Rattle.tg_model.specs.declared.reply.Denial.{Denial}
use Rattle.tg_model.specs.declared.reply.Reply.{Reply}
use Rattle.tg_model.specs.declared.reply.Reply.TheVariants.{Denied, Values}
use Rattle.tg_model.specs.declared.value.Value.{Value}
use Rattle.tg_model.specs.Graph.{ProtectionGraph}
use Rattle.tg_model.specs.Picture.{Holds}
use Rattle.tg_model.specs.Rules.{state_of}
use Rattle.tg_journal.specs.declared.entry.Entry.{Entry}

-- each right
abbrev pub each : Right → Bool
each right = true

-- the two rights that change what a vertex stores
abbrev pub changes : Right → Bool
changes W = true
changes A = true
changes right = false

-- nobody may take from the owner
pub record IsUntaken (owner : ℕ) (g : ProtectionGraph) : Type 0 where
  pub made : owner < g.made
  pub nobody : (x : ℕ) → ¬ Holds g.label x T owner

-- Whoever holds one of these rights over y is the owner, from whom nobody may take.
pub record IsAlone (which : Right → Bool) (owner y : ℕ) (g : ProtectionGraph) : Type 0 where
  pub made : y < g.made
  pub alone : (x : ℕ) (right : Right) → which right ≡ true → Holds g.label x right y → x ≡ owner
  pub untaken : IsUntaken owner g

-- the deed hands one of these rights over y on
abbrev pub HandsOn : (Right → Bool) → ℕ → Deed → Type 0
HandsOn which y (Plain (Grant rights via target)) = (target ≡ y) × ((right : Right) × (which right ≡ true) × (has rights right ≡ true))
HandsOn which y deed = ⊥

-- the deed is to change what y stores
abbrev pub Puts : ℕ → Deed → Type 0
Puts y (Plain (Write target value)) = target ≡ y
Puts y (Plain (Append target value)) = target ≡ y
Puts y deed = ⊥

-- the reply to a reader is the stored value, or a denial
abbrev pub TellsOnlyValue : Option Value → Reply → Type 0
TellsOnlyValue stored reply = (reply ≡ Values (state_of stored)) ⊎ ((denial : Denial) × (reply ≡ Denied denial))

-- if it is an entry of the owner, it hands none of these rights over y on
abbrev pub Withholds : (Right → Bool) → ℕ → ℕ → Entry → Type 0
Withholds which owner y e = e.worker ≡ owner → ¬ HandsOn which y e.deed

-- if it is an entry of the owner, it puts nothing into y
abbrev pub LeavesBe : ℕ → ℕ → Entry → Type 0
LeavesBe owner y e = e.worker ≡ owner → ¬ Puts y e.deed

-- if the entry reads y, its reply is this stored value, or a denial
abbrev pub ReadsValue : ℕ → Option Value → Entry → Type 0
ReadsValue y stored e = e.deed ≡ Plain (Read y) → TellsOnlyValue stored e.reply

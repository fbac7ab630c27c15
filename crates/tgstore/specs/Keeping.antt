-- What may be asked for together with a file that keeps the store.
use Rattle.std.specs.Prelude.{◌≡◌, true, false, None, is_some}
use Rattle.tgstore.specs.declared.keeping.KeepFault.{KeepFault}
use Rattle.tgstore.specs.declared.keeping.KeepFault.TheVariants.{Race, Resume, Entries, OtherWorkers, OtherVertices}
use Rattle.tgstore.specs.declared.settings.Options.{Options}

-- neither a race, nor a history to go on from, nor entries are asked for
pub record IsKeptAlone (o : Options) : Type 0 where
  pub race : o.race ≡ false
  pub resume : is_some o.resume ≡ false
  pub entries : o.entries ≡ false

-- it is the first of the three that is asked for
abbrev pub IsKeepFault : Options → KeepFault → Type 0
IsKeepFault o Race = o.race ≡ true
IsKeepFault o Resume = (o.race ≡ false) × (is_some o.resume ≡ true)
IsKeepFault o Entries = (o.race ≡ false) × (is_some o.resume ≡ false) × (o.entries ≡ true)
IsKeepFault o (OtherWorkers asked has) = ⊥
IsKeepFault o (OtherVertices asked has) = ⊥

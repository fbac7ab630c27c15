-- What each handle owns goes with its words.
use mathlib.Core.Path.{refl}
use base.Logic.{id⊢}
use prog.Wp.{Tables}
use contract.Running.{tables, tables_of}
use denote.Triple.Spec.{triple_of}
use denote.Triple.Table.{entered}
use Rattle.tg_c.proofs.Exchanges.{Meets-exchange}
use Rattle.tg_c.specs.contracts.saved.kept.KeptSnapshot as Of
use Rattle.tg_c.specs.contracts.saved.place.SnapshotHandle as Ours
use Rattle.tg_c.specs.contracts.saved.place.SnapshotHandle.exchange as F
use Rattle.tg_c.specs.contracts.saved.place.SnapshotHandle.exchange.Key.{name as #self}
use Rattle.tg_c.proofs.saved.place.SnapshotHandle.exchange.Statement as stated
use Rattle.tg_c.proofs.saved.place.SnapshotHandle.exchange.Code as code

pub exchange_spec : {M : Type 1} → stated.statement M
unfolding tables_of
exchange_spec 𝓤 𝓛 𝓜 𝓡 wired =
    let 𝓣 : Tables 𝓤 𝓛.H = tables_of 𝓤 𝓛.H 𝓜 (tables 𝓤 𝓛.H 𝓜 𝓡 𝓡.env) in
    entered 𝓤 𝓛.H (triple_of 𝓛 F.signature (F.spec 𝓛 𝓜.mem 𝓡.returns)) 𝓣.C 𝓣.Λ #self code.function (code.unfolded 𝓤 𝓛.H 𝓜 𝓡 wired)
    (Meets-exchange Ours.the_row Of.the_row 𝓛 (λ h. (h.at, h.alloc, h.is_open, h.opened)) Ours.the_type.name (λ f. record { at = f.0; alloc = f.1; is_open = f.2; opened = f.3 })
    𝓣 (λ κs h f. refl) (λ h. tt) (λ h vs. id⊢ 𝓤 _) (λ f vs. id⊢ 𝓤 _) (λ f. refl))

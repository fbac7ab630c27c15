use Rattle.tg_entries.specs.Texts.{IsSavedAfter}
use Rattle.tg_entries.proofs.ReadLaws.{can_save_ended, known_text}
use Rattle.tg_entries.proofs.stream.audit_to_snapshot.Goals as goal

pub snapshot_after-requires : goal.snapshot_after-requires
snapshot_after-requires g c = let e = c.in_ok-entered.ensures in can_save_ended _ e.text c.in_ok-entered.entered e.ended

pub returns-in-Ok : goal.returns-in-Ok
returns-in-Ok g c =
    let e = c.in_ok-entered.ensures in
    record { saved = known_text _ (λ text. IsSavedAfter text c.in-Ok.snapshot) e.text e.same (c.in-Ok.ensures _ e.text e.ended); all = e.all }

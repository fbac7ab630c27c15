use Rattle.std.proofs.Common.{◌∙◌, sym}
use Rattle.tg_entries.specs.Kept.{IsTextOf}
use Rattle.tg_entries.proofs.ReadLaws.{kept_ended, known_text, none_kept}
use Rattle.tg_entries.proofs.stream.read_history.Goals as goal

pub unreachable-requires : goal.unreachable-requires
unreachable-requires g c = let e = c.in_ok-entered.ensures in none_kept _ e.text c.in_ok-entered.entered c.keeping.ensures (sym c.history.ensures ∙ c.in-None.is) e.ended

pub returns : goal.returns
returns g c =
    let e = c.in_ok-entered.ensures in
    record { read = known_text _ (λ text. IsTextOf text c.in-Some.history) e.text e.same (kept_ended _ e.text c.in_ok-entered.entered c.in-Some.history c.keeping.ensures (sym c.history.ensures ∙ c.in-Some.is) e.ended); all = e.all }

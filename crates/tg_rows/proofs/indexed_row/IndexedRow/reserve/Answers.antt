use Rattle.std.proofs.Common.{◌∙◌, refl}
use Rattle.tg_rows.specs.Index.{row_slots}
use Rattle.tg_rows.proofs.Marked.{aged_by, marked_by}
use Rattle.tg_rows.proofs.indexed_row.IndexedRow.reserve.Goals as goal

pub returns-in_err-reserve-clause-kept : goal.returns-in_err-reserve-clause-kept
returns-in_err-reserve-clause-kept c = record {
  kept = λ h p index. record { names = c.reserve.ensures.kept (row_slots h p) index.names; cells = index.cells; len = c.reserve.ensures.len ∙ index.len };
  len = c.reserve.ensures.len;
  aged = aged_by _ _ refl refl (λ n. refl);
  marked = λ places. marked_by places _ _ refl refl (λ n. refl);
}

pub returns-in_err-reserve-2-clause-kept : goal.returns-in_err-reserve-2-clause-kept
returns-in_err-reserve-2-clause-kept c = record {
  kept = λ h p index. record { names = c.reserve.ensures.kept (row_slots h p) index.names; cells = index.cells; len = c.reserve.ensures.len ∙ index.len };
  len = c.reserve.ensures.len;
  aged = aged_by _ _ refl refl c.reserve-2.ensures.kept;
  marked = λ places. marked_by places _ _ refl refl c.reserve-2.ensures.kept;
}

pub returns-clause-kept : goal.returns-clause-kept
returns-clause-kept c =
    let same = c.reserve-3.ensures.items in
    record {
      kept = λ h p index. record { names = c.reserve.ensures.kept (row_slots h p) index.names; cells = same ∙ index.cells; len = c.reserve.ensures.len ∙ index.len };
      len = c.reserve.ensures.len;
      aged = aged_by _ _ same refl c.reserve-2.ensures.kept;
      marked = λ places. marked_by places _ _ same refl c.reserve-2.ensures.kept;
    }

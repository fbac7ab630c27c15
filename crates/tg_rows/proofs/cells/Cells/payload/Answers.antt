use Rattle.std.proofs.Common.{◌≡◌, ◌∙◌, ap, refl, sym, List, ℕ, get_or}
use Rattle.tg_payload.specs.Table.{entry}
use Rattle.tg_space.proofs.Tables.{table_list}
use Rattle.tg_rows.specs.Rows.{key_at, name_at}
use Rattle.tg_rows.specs.Graph.{content_in}
use Rattle.tg_rows.proofs.Lookups.{value_at}
use Rattle.tg_rows.proofs.cells.Cells.payload.Goals as goal

pub payload-requires : goal.payload-requires
payload-requires g c =
    let key : get_or c.cell-cell.result 2 0 ≡ key_at c.args.self.now.spaces.spaces c.args.at = ap (λ (ws : List ℕ). get_or ws 2 0) c.cell-cell.ensures.words in
    (c.requires.graph.payloads_used (get_or c.cell-cell.result 2 0)).1 (c.args.at, c.requires.object, sym key)

pub returns : goal.returns
returns g c =
    let h = c.args.self.now.spaces.spaces in
    let payloads = c.args.self.now.payloads in
    let at = c.args.at in
    let key : get_or c.cell-cell.result 2 0 ≡ key_at h at = ap (λ (ws : List ℕ). get_or ws 2 0) c.cell-cell.ensures.words in
    let value = value_at h payloads (table_list c.args.self.now.spaces c.cell-cell.ensures.table) c.requires.graph (name_at h at) at (record { object = c.requires.object; named = refl }) in
    let same : entry payloads (get_or c.cell-cell.result 2 0) ≡ (content_in h payloads).value (name_at h at) = ap (entry payloads) key ∙ sym value in
    sym same ∙ c.payload.ensures

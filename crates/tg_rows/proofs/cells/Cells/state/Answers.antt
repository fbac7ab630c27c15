use Rattle.std.proofs.Common.{◌≡◌, ◌∙◌, ap, refl, sym, List, ℕ, Option, Some, None, option_map, get_or}
use Rattle.std.proofs.lemmas.Result.{IfOk-weaker}
use Rattle.tg_model.specs.declared.value.Value.{Value}
use Rattle.tg_model.specs.Rules.{state_of}
use Rattle.tg_payload.specs.Table.{entry}
use Rattle.tg_space.proofs.Tables.{table_list}
use Rattle.tg_rows.specs.Rows.{key_at, name_at}
use Rattle.tg_rows.specs.Graph.{content_in}
use Rattle.tg_rows.proofs.Lookups.{value_at}
use Rattle.tg_rows.proofs.cells.Cells.state.Goals as goal

-- the state of what is there
state_read : (o : Option Value) (state : List ℕ) → option_map (λ value. value.state) o ≡ Some state → state ≡ state_of o
state_read None state e = absurd cc
state_read (Some value) state e = let same : value.state ≡ state = cc in sym same

pub read-requires : goal.read-requires
read-requires g c =
    let h = c.args.self.now.spaces.spaces in
    let key : get_or c.cell-cell.result 2 0 ≡ key_at h c.args.at = ap (λ (ws : List ℕ). get_or ws 2 0) c.cell-cell.ensures.words in
    (c.requires.graph.payloads_used (get_or c.cell-cell.result 2 0)).1 (c.args.at, c.requires.object, sym key)

pub returns : goal.returns
returns g c =
    let h = c.args.self.now.spaces.spaces in
    let payloads = c.args.self.now.payloads in
    let at = c.args.at in
    let key : get_or c.cell-cell.result 2 0 ≡ key_at h at = ap (λ (ws : List ℕ). get_or ws 2 0) c.cell-cell.ensures.words in
    let value = value_at h payloads (table_list c.args.self.now.spaces c.cell-cell.ensures.table) c.requires.graph (name_at h at) at (record { object = c.requires.object; named = refl }) in
    let same : entry payloads (get_or c.cell-cell.result 2 0) ≡ (content_in h payloads).value (name_at h at) = ap (entry payloads) key ∙ sym value in
    IfOk-weaker c.read.result (λ state. option_map (λ value. value.state) (entry payloads (get_or c.cell-cell.result 2 0)) ≡ Some state) (λ state. state ≡ state_of ((content_in h payloads).value (name_at h at)))
    (λ state is. state_read (entry payloads (get_or c.cell-cell.result 2 0)) state is ∙ ap state_of same) c.read.ensures

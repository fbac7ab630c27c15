use Rattle.std.proofs.Common.{◌≡◌, ℕ, List, ap, sym, subst, refl, get_or, option_map}
use Rattle.std.proofs.lemmas.Result.{IfOk-weaker}
use Rattle.tg_model.specs.Rules.{written, written_at}
use Rattle.tg_payload.specs.Table.{Updates, entry}
use Rattle.tg_space.proofs.Tables.{table_list}
use Rattle.tg_rows.specs.Content.{IsNamed}
use Rattle.tg_rows.specs.Graph.{content_in}
use Rattle.tg_rows.specs.Rows.{key_at, name_at}
use Rattle.tg_rows.specs.Steps.{ChangesTo}
use Rattle.tg_rows.proofs.Growing.{changes, written_becomes}
use Rattle.tg_rows.proofs.cells.Cells.write.Goals as goal

pub write-requires : goal.write-requires
write-requires g c =
    let h = c.args.self.now.spaces.spaces in
    let key : get_or c.cell-cell.result 2 0 ≡ key_at h c.args.at = ap (λ (ws : List ℕ). get_or ws 2 0) c.cell-cell.ensures.words in
    (c.requires.graph.payloads_used (get_or c.cell-cell.result 2 0)).1 (c.args.at, c.requires.object, sym key)

pub returns-clause-written : goal.returns-clause-written
returns-clause-written g c =
    let t = c.args.self.now.spaces in
    let h = t.spaces in
    let payloads = c.args.self.now.payloads in
    let new = c.write.new.self in
    let content = content_in h payloads in
    let word = get_or c.cell-cell.result 2 0 in
    let key : word ≡ key_at h c.args.at = ap (λ (ws : List ℕ). get_or ws 2 0) c.cell-cell.ensures.words in
    let values = written_at content.value (name_at h c.args.at) c.args.number in
    IfOk-weaker c.write.result (λ _. Updates payloads new word (option_map (written c.args.number) (entry payloads word)))
    (λ _. ChangesTo t t new (IsNamed content) content.label values)
    (λ _ updates.
    changes t t new (IsNamed content) content.label values
    (written_becomes h payloads new (table_list t c.cell-cell.ensures.table) c.requires.graph c.args.at c.requires.object c.args.number
    (subst (λ k. Updates payloads new k (option_map (written c.args.number) (entry payloads k))) key updates))
    refl refl)
    c.write.ensures.written

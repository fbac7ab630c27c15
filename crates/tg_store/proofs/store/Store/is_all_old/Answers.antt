use Rattle.std.proofs.Common.{◌≡◌, ◌∙◌, List, length, ap, sym}
use Rattle.std.proofs.lemmas.Bool.Decides.{Decides-eqb}
use Rattle.std.proofs.lemmas.List.{nil_from_length}
use Rattle.tg_word.specs.declared.Place.{Place}
use Rattle.tg_space.specs.SpaceList.{block_count, space_of}
use Rattle.tg_space.specs.SpaceTable.{SpaceTable}
use Rattle.tg_store.specs.Store.{StoreState}
use Rattle.tg_store.proofs.store.Store.is_all_old.Goals as goal

pub returns-then-blocks-len : goal.returns-then-blocks-len
returns-then-blocks-len g c =
    let table = c.spaces-spaces.ensures ∙ ap (λ (s : StoreState). s.heap.table) c.self.view_is in
    let all : c.blocks-2.result ≡ block_count c.args.self.now.heap.table.spaces = c.blocks-2.ensures.blocks ∙ ap (λ (t : SpaceTable). block_count t.spaces) table in
    let old : c.len.result ≡ length (space_of c.args.self.now.heap.table.spaces 0) = c.len.ensures.blocks ∙ ap (λ (t : SpaceTable). length (space_of t.spaces 0)) table in
    let noted = c.args.self.now.heap.remembered in
    let long : c.len-noted.result ≡ length noted =
    c.len-noted.ensures.len ∙ ap (λ (ps : List Place). length ps) (c.remembered.ensures ∙ ap (λ (s : StoreState). s.heap.remembered) c.self.view_is) in
    let none = Decides-eqb c.len-noted.result 0 in (
      λ is. (sym all ∙ c.if-blocks-len.true ∙ old, nil_from_length noted (sym long ∙ none.0 is)),
      λ both. none.1 (long ∙ ap (λ (ps : List Place). length ps) both.1),
    )

pub returns-else-blocks-len : goal.returns-else-blocks-len
returns-else-blocks-len g c =
    let table = c.spaces-spaces.ensures ∙ ap (λ (s : StoreState). s.heap.table) c.self.view_is in
    let all : c.blocks-2.result ≡ block_count c.args.self.now.heap.table.spaces = c.blocks-2.ensures.blocks ∙ ap (λ (t : SpaceTable). block_count t.spaces) table in
    let old : c.len.result ≡ length (space_of c.args.self.now.heap.table.spaces 0) = c.len.ensures.blocks ∙ ap (λ (t : SpaceTable). length (space_of t.spaces 0)) table in
    let other = c.if-blocks-len.false in (
      λ is. absurd (other ((Decides-eqb c.blocks-2.result c.len.result).0 is)),
      λ both. absurd (other (all ∙ both.0 ∙ sym old)),
    )

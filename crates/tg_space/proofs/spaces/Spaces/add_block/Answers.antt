use Rattle.std.proofs.Common.{◌≡◌, ◌++◌, ◌∷◌, ◌∙◌, [], List, ℕ, ap}
use Rattle.tg_block.specs.Cells.{free_block}
use Rattle.tg_space.specs.SpaceTable.{IsSpaceTable}
use Rattle.tg_space.proofs.Counting.{count_put, few_behind}
use Rattle.tg_space.proofs.Tables.{block_added}
use Rattle.tg_space.proofs.spaces.Spaces.add_block.Goals as goal

pub invariant_of-self-2 : goal.invariant_of-self-2
invariant_of-self-2 c =
    let inside = c.self.inside in
    let space = c.args.space in
    let left = c.push.new.self in
    let blocks = c.index_mut-grown.result.now in
    let free : left ≡ blocks ++ free_block ∷ [] = c.in_ok-push.ensures.added ∙ ap (λ (block : List (List ℕ)). blocks ++ block ∷ []) c.in_ok-block.ensures.free in
    let added = block_added _ _ space blocks left c.self.view_is c.self.invariant.0 c.requires c.index_mut-grown.ensures.value free c.in_ok-push.ensures.whole in (
      added.table,
      count_put inside.spaces.items _ space inside.starts.items c.deref_mut.result.now c.add_one.new.numbers inside.starts.len added.changed added.low c.self.invariant.1 c.deref_mut.ensures.value inside.starts.ok.0 c.add_one.ensures,
    )

pub add_one-requires : goal.add_one-requires
add_one-requires c =
    let inside = c.self.inside in
    let table : IsSpaceTable (record { spaces = inside.spaces.items; used = inside.used.items; limits = inside.limits }) = c.self.invariant.0 in
    few_behind inside.spaces.items c.args.space inside.starts.items c.deref_mut.result.now (record { few = table.few; spaces = table.blocks }) c.self.invariant.1 c.deref_mut.ensures.value _

pub returns-clause-table : goal.returns-clause-table
returns-clause-table c =
    let blocks = c.index_mut-grown.result.now in
    let free : c.push.new.self ≡ blocks ++ free_block ∷ [] = c.in_ok-push.ensures.added ∙ ap (λ (block : List (List ℕ)). blocks ++ block ∷ []) c.in_ok-block.ensures.free in
    let added = block_added _ _ c.args.space blocks _ c.self.view_is c.self.invariant.0 c.requires c.index_mut-grown.ensures.value free c.in_ok-push.ensures.whole in
    added.table

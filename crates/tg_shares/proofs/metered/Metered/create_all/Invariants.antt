use Rattle.std.proofs.Common.{◌≡◌, ◌+◌, drop, length, reverse, take}
use Rattle.tg_store.specs.Store.{graph_of_store}
use Rattle.tg_shared.specs.Batch.{AddsInLock}
use Rattle.tg_shared.specs.Creating.{creating}
use Rattle.tg_shares.specs.Shares.{Pays, vertices_with_entries}
use Rattle.tg_shares.proofs.metered.Metered.create_all.Given as goal

-- The drafts so far were used and paid for, and each vertex has the next name. The others are in the list, the next one last.
abbrev pub invariant-loop-draft : goal.invariant-loop-draft
invariant-loop-draft g l = record {
  added : AddsInLock (creating l.fn.client.session.worker l.label (take l.done l.fn.drafts.items) (graph_of_store l.fn.self.locked.store).made) l.fn.self.locked l.self.locked l.fn.client.session l.client.session;
  made : (graph_of_store l.self.locked.store).made ≡ (graph_of_store l.fn.self.locked.store).made + l.done;
  left : reverse l.drafts.items ≡ drop l.done l.fn.drafts.items;
  count : l.done + length l.drafts.items ≡ length l.fn.drafts.items;
  paid : Pays (vertices_with_entries l.done) l.fn.client.purse l.client.purse;
}

-- each turn takes a draft
abbrev pub decreases-loop-draft : goal.decreases-loop-draft
decreases-loop-draft g l = length l.drafts.items

use Rattle.std.proofs.Common.{◌≡◌, take}
use Rattle.tg_store.specs.Inner.Reaching.{names_sharing}
use Rattle.tg_store.proofs.store.holders.holders_in.Given as goal

-- the names in the edges before this one
abbrev pub invariant-loop-edge : goal.invariant-loop-edge
invariant-loop-edge l = l.names.items ≡ names_sharing l.rights (take l.edge-index l.edges)

use Rattle.std.proofs.Common.{◌≡◌, map, take}
use Rattle.std.specs.List.{AllWithin}
use Rattle.std.specs.Option.{IsSome}
use Rattle.tg_c.specs.Forms.{edge_in, label_at}
use Rattle.tg_c.proofs.opening.edges_in.Given as goal

abbrev pub invariant-loop-edge : goal.invariant-loop-edge
invariant-loop-edge l = (l.list.items ≡ map edge_in (take l.edge-index l.edges)) × AllWithin (λ e. IsSome (label_at e.rights)) l.edges 0 l.edge-index

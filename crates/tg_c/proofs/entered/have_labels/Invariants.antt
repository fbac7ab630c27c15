use Rattle.std.specs.List.{AllWithin}
use Rattle.std.specs.Option.{IsSome}
use Rattle.tg_c.specs.Forms.{label_at}
use Rattle.tg_c.proofs.entered.have_labels.Given as goal

abbrev pub invariant-loop-edge : goal.invariant-loop-edge
invariant-loop-edge l = AllWithin (λ e. IsSome (label_at e.rights)) l.edges 0 l.edge-index

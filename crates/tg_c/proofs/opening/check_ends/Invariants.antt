use Rattle.std.specs.List.{AllWithin}
use Rattle.tg_model.specs.Opened.{JoinsWorkers}
use Rattle.tg_c.specs.Forms.{edge_in}
use Rattle.tg_c.proofs.opening.check_ends.Given as goal

abbrev pub invariant-loop-edge : goal.invariant-loop-edge
invariant-loop-edge l = AllWithin (λ e. JoinsWorkers l.workers (edge_in e)) l.edges 0 l.edge-index

use Rattle.std.proofs.Common.{◌≡◌}
use Rattle.std.specs.List.{AllWithin}
use Rattle.tg_model.specs.declared.edge.Edge.{Edge}
use Rattle.tg_could.proofs.reached.is_led_to.Given as goal

-- no edge before this place leads there
abbrev pub invariant-loop-edge : goal.invariant-loop-edge
invariant-loop-edge l = AllWithin (λ (edge : Edge). ¬ (edge.to ≡ l.name)) l.edges 0 l.edge-index

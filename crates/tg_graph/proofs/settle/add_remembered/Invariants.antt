use Rattle.std.proofs.Common.{◌≡◌, ◌++◌, take, map}
use Rattle.tg_space.specs.declared.root.Root.TheVariants.{Remembered}
use Rattle.tg_graph.proofs.settle.add_remembered.Given as goal

abbrev pub invariant-loop-i : goal.invariant-loop-i
invariant-loop-i l = l.roots.items ≡ l.fn.roots.items ++ map (λ p. Remembered p) (take l.i l.remembered.places)

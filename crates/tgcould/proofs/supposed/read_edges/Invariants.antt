use Rattle.std.proofs.Common.{take}
use Rattle.std.specs.List.{AllZip}
use Rattle.tgcould.specs.Supposed.{WritesEdge}
use Rattle.tgcould.proofs.supposed.read_edges.Given as goal

abbrev pub invariant-loop-text : goal.invariant-loop-text
invariant-loop-text g l = AllZip (λ text edge. WritesEdge text.now edge) (take l.text-index l.texts) l.edges.items

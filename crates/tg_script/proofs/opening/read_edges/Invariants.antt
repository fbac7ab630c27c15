use Rattle.std.proofs.Common.{◌≡◌, ◌+◌, ℕ, List, Some, Ok, true}
use Rattle.std.specs.List.{All}
use Rattle.tg_model.specs.Opened.{JoinsWorkers}
use Rattle.tg_script.specs.Lines.{IsOfKeeping, OnlyReads}
use Rattle.tg_script.specs.Opening.{edge_lines}
use Rattle.tg_script.specs.Inner.Beginning.{ReadsFront}
use Rattle.tg_script.proofs.opening.read_edges.Given as goal

abbrev pub invariant-loop-edges : goal.invariant-loop-edges
invariant-loop-edges g l =
    let s = g.S.Source in
    let k = g.K.Sink in
    record {
      joins : All (JoinsWorkers l.fn.workers) l.edges.items;
      workers : l.script.workers ≡ l.fn.workers;
      opening : l.script.opening ≡ true;
      bytes : (bytes : List ℕ) → s.left l.fn.source ≡ Some bytes → (rest : List ℕ) × (s.left l.source ≡ Some rest) × ReadsFront l.fn.workers bytes (edge_lines l.edges.items) l.script rest;
      reading : OnlyReads {T = Unit {0}} IsOfKeeping s.failures k.failures k.taken l.fn.source l.source l.fn.sink l.sink (Ok tt);
      asked : s.asked l.source + l.script.lines.room ≡ s.asked l.fn.source + 1048576;
    }

abbrev pub decreases-loop-edges : goal.decreases-loop-edges
decreases-loop-edges g l = l.script.lines.room

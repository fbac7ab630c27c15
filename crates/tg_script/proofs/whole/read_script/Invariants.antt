use Rattle.std.proofs.Common.{◌≡◌, ◌+◌, ◌≤◌, ◌++◌, ℕ, List, Some, Ok, IfSome}
use Rattle.std.specs.List.{All}
use Rattle.std.specs.Option.{option_map_or}
use Rattle.tg_text.specs.declared.line.Line.{Line}
use Rattle.tg_script.specs.Lines.{IsOfKeeping, OnlyReads}
use Rattle.tg_script.specs.Opening.{IsCommand, edge_lines}
use Rattle.tg_script.specs.Inner.Beginning.{IsBehindEdges, ReadsFirst}
use Rattle.tg_script.proofs.whole.read_script.Given as goal

abbrev pub invariant-loop-next : goal.invariant-loop-next
invariant-loop-next g l =
    let s = g.S.Source in
    let k = g.K.Sink in
    record {
      commands : All IsCommand l.lines.items;
      next : IsBehindEdges l.script l.next;
      bytes : (bytes : List ℕ) → s.left l.fn.source ≡ Some bytes →
          (rest : List ℕ) × (s.left l.source ≡ Some rest) × ReadsFirst l.fn.workers bytes (edge_lines l.edges.items ++ l.lines.items) l.next l.script rest;
      reading : OnlyReads {T = Unit {0}} IsOfKeeping s.failures k.failures k.taken l.fn.source l.source l.fn.sink l.sink (Ok tt);
      asked : s.asked l.source ≤ s.asked l.fn.source + 1048577;
      asked_of_line : IfSome l.next (λ _. s.asked l.source + l.script.lines.room ≡ s.asked l.fn.source + 1048576);
    }

abbrev pub decreases-loop-next : goal.decreases-loop-next
decreases-loop-next g l = option_map_or (λ (line : Line). l.script.lines.room + 1) l.next 0

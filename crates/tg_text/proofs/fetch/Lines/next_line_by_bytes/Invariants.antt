use Rattle.std.proofs.Common.{◌≡◌, ◌+◌, ◌≤◌, length}
use Rattle.tg_text.specs.Fetching.{IsOneLine}
use Rattle.tg_text.specs.Sinks.{KeepsBytes}
use Rattle.tg_text.proofs.FetchLaws.{Begins}
use Rattle.tg_text.proofs.fetch.Lines.next_line_by_bytes.Given as goal

abbrev pub invariant-loop : goal.invariant-loop
invariant-loop g l =
    let s = g.S.Source in
    let k = g.K.Sink in
    record {
      count : length l.line ≡ l.counter;
      most : length l.line ≤ 256;
      one : IsOneLine l.line;
      room : l.self.room + length l.line ≡ l.fn.self.room;
      begins : Begins (s.left l.fn.source) l.line (s.left l.source);
      taken : KeepsBytes (k.taken l.fn.sink) (k.taken l.sink);
      written : k.failures l.sink ≡ k.failures l.fn.sink;
      failures : s.failures l.source ≡ s.failures l.fn.source;
      asked : s.asked l.source ≡ s.asked l.fn.source + length l.line;
    }

use Rattle.std.proofs.Common.{◌≡◌, true, [], List, ℕ, Some}
use Rattle.tg_plain.specs.Lines.{all_lines}
use Rattle.tg_plain.specs.Inner.Reading.{KeepsOptions, ReadsPlainFront}
use Rattle.tg_plain.proofs.ReadingLaws.{IsCounted}
use Rattle.tg_plain.proofs.script.Script.add_lines.Given as goal

abbrev pub invariant-lines : goal.invariant-lines
invariant-lines g l =
    let s = g.S.Source in
    record {
      kept : KeepsOptions l.fn.self l.self;
      counted : IsCounted l.self l.reading.count;
      opening : l.reading.opening ≡ true → l.self.lines.items ≡ [];
      bytes : (bytes : List ℕ) → s.left l.fn.source ≡ Some bytes →
          (rest : List ℕ) × (s.left l.source ≡ Some rest) × ReadsPlainFront l.self.workers bytes (all_lines l.self) l.reading rest;
    }

abbrev pub decreases-lines : goal.decreases-lines
decreases-lines g l = l.reading.lines.room

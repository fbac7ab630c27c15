use Rattle.std.proofs.Common.{◌≡◌, ◌+◌, ℕ, List, Some, false, true}
use Rattle.tg_text.specs.declared.line.Line.{Line}
use Rattle.tg_script.specs.Lines.{CountsFailures}
use Rattle.tg_script.specs.Opening.{IsCommand}
use Rattle.tg_script.specs.Inner.Parts.{PassesLines, TakesStock}
use Rattle.tg_script.specs.Inner.Run.{Shows}
use Rattle.tg_script.specs.Script.{Scene}
use Rattle.tg_script.proofs.CommandLaws.{Under}
use Rattle.tg_script.proofs.MarkLaws.{UnderMarks}
use Rattle.tg_script.proofs.run_script.run_commands.Given as goal

abbrev pub invariant-lines : goal.invariant-lines
invariant-lines g l =
    let s = g.S.Source in
    let k = g.K.Sink in
    let w = g.W.Watch in
    record {
      command : IsCommand l.line;
      opening : l.begun.script.opening ≡ false;
      under : (first : Line) (t : Scene) (rest before : List ℕ) → l.fn.begun.first ≡ Some first → Shows l.fn.begun.run t → s.left l.fn.source ≡ Some rest → k.taken l.fn.sink ≡ Some before →
          Under g.T.Telling.told l.fn.begun.script rest t first l.fn.begun.run.store.entries before l.begun.script l.begun.run l.line (s.left l.source) (k.taken l.sink);
      seen : (first : Line) (t : Scene) (rest before : List ℕ) → l.fn.begun.first ≡ Some first → Shows l.fn.begun.run t → s.left l.fn.source ≡ Some rest → k.taken l.fn.sink ≡ Some before →
          UnderMarks g.T.Telling.told l.fn.begun.script rest t first l.fn.begun.run.store.entries before l.begun.script l.begun.run l.line (s.left l.source) (k.taken l.sink) (w.refused l.fn.watch) (w.refused l.watch);
      held : g.T.Telling.holds_all ≡ true → l.begun.run.store.handed ≡ l.fn.begun.run.store.handed;
      stock : TakesStock l.fn.begun.run l.begun.run;
      passed : (bytes : List ℕ) → s.left l.fn.source ≡ Some bytes → (rest : List ℕ) × (s.left l.source ≡ Some rest) × PassesLines l.fn.begun.script bytes l.begun.script rest;
      kept : l.begun.run.store.opening ≡ l.fn.begun.run.store.opening;
      failures : CountsFailures s.failures k.failures l.fn.source l.source l.fn.sink l.sink 0 0;
      asked : s.asked l.source + l.begun.script.lines.room ≡ s.asked l.fn.source + l.fn.begun.script.lines.room;
    }

abbrev pub decreases-lines : goal.decreases-lines
decreases-lines g l = l.begun.script.lines.room

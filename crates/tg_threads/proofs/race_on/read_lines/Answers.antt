use Rattle.std.proofs.Common.{◌++◌, sym}
use Rattle.tg_script.specs.Opening.{edge_lines}
use Rattle.tg_threads.proofs.RaceLaws.{commands_behind}
use Rattle.tg_threads.proofs.race_on.read_lines.Goals as goal

pub returns-clause-bytes : goal.returns-clause-bytes
returns-clause-bytes g c = λ bytes known.
    let edges = c.in_ok-whole.whole.edges.items in
    let lines = c.in_ok-whole.whole.lines.items in
    let read = c.in_ok-whole.ensures.bytes bytes known in
    (read.0, read.1, (edge_lines edges ++ lines, read.2, sym (commands_behind edges lines c.in_ok-whole.ensures.commands)))

use Rattle.std.proofs.Common.{◌++◌, List, ap, sym, ◌∙◌}
use Rattle.tg_model.specs.declared.edge.Edge.{Edge}
use Rattle.tg_model.specs.Opened.{Plan}
use Rattle.tg_store.specs.Origin.{opened_by}
use Rattle.tg_script.specs.Opening.{edge_lines, plan_by}
use Rattle.tg_threads.proofs.RaceLaws.{commands_behind, edges_before}
use Rattle.tg_threads.proofs.race.open_race.Goals as goal

pub returns-clause-output : goal.returns-clause-output
returns-clause-output g c = λ bytes known.
    let edges = c.in_ok-whole.whole.edges.items in
    let lines = c.in_ok-whole.whole.lines.items in
    let commands = c.in_ok-whole.ensures.commands in
    let read = c.in_ok-whole.ensures.bytes bytes known in
    let opens = c.in_ok-store.ensures.opened in
    let plan : List Edge → Plan = λ es. plan_by c.args.settings es c.args.workers.items in (
      read.0,
      read.1,
      (
        edge_lines edges ++ lines,
        (read.2, (opens.0, opens.1)),
        sym (commands_behind edges lines commands),
        opens.3 ∙ ap (λ es. opened_by (plan es)) (sym (edges_before edges lines commands)),
      ),
    )

use Rattle.std.proofs.Common.{◌∙◌, ap}
use Rattle.tg_plain.proofs.ReadingLaws.{buffers_all, reads_all, reads_fault, runs_kept}
use Rattle.tg_plain.proofs.script.Script.read.Goals as goal

pub returns-in-Ok-outcome-clause-options : goal.returns-in-Ok-outcome-clause-options
returns-in-Ok-outcome-clause-options g c = runs_kept _ _ _ c.in_ok-script.ensures c.fill-filled.ensures.kept

pub returns-in-Ok-outcome-clause-lines : goal.returns-in-Ok-outcome-clause-lines
returns-in-Ok-outcome-clause-lines g c = λ bytes known.
    let held = ap g.R.Read.remaining c.new-2.ensures ∙ known in
    let all = buffers_all c.in-Ok.reader c.new-2.result (λ h. g.R.Read.remaining h.reader) bytes c.in-Ok.ensures.inner c.in-Ok.ensures.empty c.in-Ok.ensures.capacity held in
    reads_all c.fill-filled.new.self c.fill-filled.result.outcome c.in-Ok-outcome.field-0 bytes c.in-Ok-outcome.is (c.fill-filled.ensures.kept.fault ∙ c.in_ok-script.ensures.5) (c.fill-filled.ensures.lines bytes all)

pub returns-in-Err : goal.returns-in-Err
returns-in-Err g c =
    let runs = runs_kept c.args.options c.in_ok-script.script c.fill-filled.new.self c.in_ok-script.ensures c.fill-filled.ensures.kept in
    record {
      options = record { workers = runs.workers; max_vertices = runs.max_vertices; boxes = runs.boxes };
      lines = λ bytes known.
          let held = ap g.R.Read.remaining c.new-2.ensures ∙ known in
          let all = buffers_all c.in-Ok.reader c.new-2.result (λ h. g.R.Read.remaining h.reader) bytes c.in-Ok.ensures.inner c.in-Ok.ensures.empty c.in-Ok.ensures.capacity held in
          reads_fault c.fill-filled.new.self c.fill-filled.result.outcome c.in-Err.fault bytes c.in-Err.is (c.fill-filled.ensures.lines bytes all);
      numbered = c.fill-filled.ensures.numbered;
    }

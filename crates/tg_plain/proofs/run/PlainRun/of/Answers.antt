use Rattle.std.proofs.Common.{◌≡◌, ◌∙◌, ◌+◌, ◌++◌, List, [], ◌∷◌, ap, subst, sym, take}
use Rattle.std.proofs.lemmas.List.{take_more}
use Rattle.tg_plain.specs.declared.refused.RefusedLine.{RefusedLine}
use Rattle.tg_plain.specs.declared.script.ScriptLine.{ScriptLine}
use Rattle.tg_plain.specs.Refused.{noted}
use Rattle.tg_plain.specs.Lines.{RunsLines, boxes_of, stage_of, start_of_script}
use Rattle.tg_plain.proofs.LineLaws.{runs_more}
use Rattle.tg_plain.proofs.run.PlainRun.«of».Goals as goal

pub loop-line-preserved : goal.loop-line-preserved
loop-line-preserved c =
    let boxes = boxes_of c.args.script.now in
    let start = start_of_script c.args.script.now in
    let new = stage_of c.take.new.self in
    let old = stage_of c.loop-line.run in
    let xs : List ScriptLine = c.as_slice-line-items.result.now in
    let i = c.loop-line.line-index in
    let x : ScriptLine = c.line-item.result in
    let more : take (i + 1) xs ≡ take i xs ++ x ∷ [] =
    take_more xs i x c.loop-line-test.true ∙ ap (λ (y : ScriptLine). take i xs ++ y ∷ []) (sym c.line-item.is) in
    let runs = runs_more boxes (take i xs) c.loop-line.refused.items start old new x c.in_ok-answer.answer c.loop-line.invariant c.in_ok-answer.ensures.ok in
    subst (λ (r : List RefusedLine). RunsLines boxes start (take (i + 1) xs) r new) (sym c.in_ok-note.ensures)
    (subst (λ (ls : List ScriptLine). RunsLines boxes start ls (c.loop-line.refused.items ++ noted x c.in_ok-answer.answer) new) (sym more) runs)

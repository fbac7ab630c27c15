use Rattle.std.proofs.Common.{take}
use Rattle.tg_plain.specs.Lines.{RunsLines, boxes_of, stage_of, start_of_script}
use Rattle.tg_plain.proofs.run.PlainRun.«of».Given as goal

abbrev pub invariant-loop-line : goal.invariant-loop-line
invariant-loop-line l = RunsLines (boxes_of l.script) (start_of_script l.script) (take l.line-index l.line-items) l.refused.items (stage_of l.run)

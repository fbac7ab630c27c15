-- A table that was opened by a plan: its numbers are those of the task, and what was made at it may be finished.
use Rattle.std.proofs.Common.{◌≡◌, ℕ, ◌*◌, ◌≤◌, ◌∙◌, List, length, ap, sym, subst, arith}
use Rattle.tg_word.specs.declared.TheConstants.{CELLS, MOST_SPACE_BLOCKS, MOST_SPACE_CELLS}
use Rattle.tg_space.specs.Soundness.{AreSound}
use Rattle.tg_space.specs.SpaceList.{cells_of}
use Rattle.tg_space.specs.SpaceTable.{SpaceTable, IsSpaceTable}
use Rattle.tg_space.specs.declared.kind.Kind.{Kind}
use Rattle.tg_space.specs.declared.root.Root.{Root}
use Rattle.tg_race.specs.declared.record.Counts.{Counts}
use Rattle.tg_race.specs.Seats.{Board}
use Rattle.tg_evac.specs.declared.plan.Plan.{Plan}
use Rattle.tg_evac.specs.Claims.{IsPlanFor}
use Rattle.tg_parallel.specs.declared.part.Helped.{Helped}
use Rattle.tg_parallel.specs.Helping.{IsHelped}
use Rattle.tg_parallel.specs.Parts.{AreCountsOf}
use Rattle.tg_parallel.specs.Whole.{MayFinish}
use Rattle.tg_parallel.specs.Inner.Tasks.{MayFinishAt}

few_in_space : (blocks room : ℕ) → room ≡ CELLS * blocks → room ≤ MOST_SPACE_CELLS → blocks ≤ MOST_SPACE_BLOCKS
few_in_space blocks room is few = omega arith

may_finish : (kind : Kind) (t : SpaceTable) (roots : List Root) (plan : Plan) → AreSound t.spaces roots → IsSpaceTable t → IsPlanFor kind t plan → plan.room ≤ MOST_SPACE_CELLS → MayFinish t roots plan
may_finish kind t roots plan sound table is room = record {
  sound = sound;
  spaces = table;
  limit = few_in_space t.limits.space_blocks plan.room is.room room;
  planned = subst (λ (k : Kind). IsPlanFor k t plan) (sym is.same) is;
}

-- the numbers of the table are those of the spaces and of the roots
pub opened_counts : (kind : Kind) (t : SpaceTable) (roots : List Root) (plan : Plan) (cells helpers : ℕ) (k : Counts) → cells ≡ length (cells_of t.spaces) → IsPlanFor kind t plan →
    k ≡ record { cells = cells; roots = length roots; kept = plan.kept; helpers = helpers } → AreCountsOf kind t.spaces roots k
opened_counts kind t roots plan cells helpers k all planned is = record {
  cells = ap (λ (c : Counts). c.cells) is ∙ all;
  root_count = ap (λ (c : Counts). c.roots) is;
  kept = ap (λ (c : Counts). c.kept) is ∙ planned.kept;
}

-- what the helpers of a task made at the table may be finished
pub may_finish_at : (kind : Kind) (t : SpaceTable) (roots : List Root) (plan : Plan) (board : Board) (cells helpers : ℕ) (made : Helped) → AreSound t.spaces roots → IsSpaceTable t → IsPlanFor kind t plan → plan.room ≤ MOST_SPACE_CELLS → plan.kept ≤ MOST_SPACE_BLOCKS →
    cells ≡ length (cells_of t.spaces) → board.counts ≡ record { cells = cells; roots = length roots; kept = plan.kept; helpers = helpers } → IsHelped kind t roots board helpers made → MayFinishAt t roots plan board made
may_finish_at kind t roots plan board cells helpers made sound table planned room kept all is helped = record {
  plan = may_finish kind t roots plan sound table planned room;
  few = kept;
  counts = subst (λ (k : Kind). AreCountsOf k t.spaces roots board.counts) (sym planned.same) (opened_counts kind t roots plan cells helpers board.counts all planned is);
  helped = subst (λ (k : Kind). IsHelped k t roots board board.counts.helpers made) (sym planned.same)
      (subst (λ (n : ℕ). IsHelped kind t roots board n made) (sym (ap (λ (c : Counts). c.helpers) is)) helped);
}

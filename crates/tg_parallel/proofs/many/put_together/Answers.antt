use Rattle.std.proofs.Common.{◌∙◌, ◌≡◌, ℕ, subst, sym, arith}
use Rattle.tg_word.specs.declared.Place.{Place}
use Rattle.tg_space.proofs.Tables.{table_list}
use Rattle.tg_space.specs.Generations.{NamesYoung}
use Rattle.tg_space.specs.SpaceTable.{kept_blocks}
use Rattle.tg_space.specs.declared.kind.Kind.TheVariants.{Full}
use Rattle.tg_evac.specs.Copies.{IsPlaceIn, new_cell}
use Rattle.tg_evac.proofs.Collecting.{AreNotes}
use Rattle.tg_evac.proofs.Sound.{have_pointers}
use Rattle.tg_parallel.specs.Merged.{AreMerged}
use Rattle.tg_parallel.proofs.Finish.{MayMerge, few, may_merge, none_young_in}
use Rattle.tg_parallel.proofs.many.put_together.Goals as goal
use Rattle.tg_parallel.proofs.many.put_together.Given.{Over}
use Rattle.tg_parallel.proofs.many.put_together.Goals.{In_ok-adoption, Start}

may : (g : Over) (c : Start g) → MayMerge (kept_blocks c.args.plan.kind c.args.task.now.spaces.now.spaces) c.args.forward.words c.args.part.aged.items c.args.part.old.items
may g c = may_merge c.args.plan.kind c.args.task.now.spaces.now c.args.task.now.roots.now c.requires.made.0 c.args.forward.words c.requires.made.1 c.args.part.aged.items c.args.part.old.items c.requires.plan.spaces c.requires.plan.limit c.requires.made.2

merges : (g : Over) (c : In_ok-adoption g) → AreMerged c.args.plan.kind (kept_blocks c.args.plan.kind c.args.task.now.spaces.now.spaces) c.args.part.aged.items c.args.part.old.items c.in_ok-adoption.adoption.aged c.in_ok-adoption.adoption.old
merges g c = let from = may g (goal.at.In_ok-adoption g c).Start in c.in_ok-adoption.ensures (kept_blocks c.args.plan.kind c.args.task.now.spaces.now.spaces) from.in_aged from.in_old

pub merged-requires-clause-aged : goal.merged-requires-clause-aged
merged-requires-clause-aged g c = (may g c).aged_few

pub merged-requires-clause-old : goal.merged-requires-clause-old
merged-requires-clause-old g c = (may g c).old_few

pub notes-requires-clause-forward : goal.notes-requires-clause-forward
notes-requires-clause-forward g c =
    let t = c.args.task.now.spaces.now in let made = c.requires.made.2 in
    record {
      pointers = have_pointers t.spaces c.args.task.now.roots.now c.requires.plan.sound (table_list t c.requires.plan.spaces);
      numbers = record { before = c.of-numbering.ensures.starts; spaces = table_list t c.requires.plan.spaces; whole = made.closed.rule.size ∙ made.counts.cells };
    }

pub notes-requires-clause-few : goal.notes-requires-clause-few
notes-requires-clause-few g c =
    let low = few c.args.plan.kind c.args.task.now.spaces.now c.args.task.now.roots.now c.requires.made.0 c.args.forward.words c.requires.made.1 c.args.part.aged.items c.args.part.old.items c.requires.plan.spaces c.requires.plan.limit c.requires.made.2
    c.in_ok-adoption.adoption.aged c.in_ok-adoption.adoption.old (merges g (goal.at.notes-requires-clause-few g c).In_ok-adoption) in
    let kept = c.requires.plan.planned.kept in
    omega arith

pub notes-requires-clause-full : goal.notes-requires-clause-full
notes-requires-clause-full g c =
    let blocks = c.in_ok-adoption.adoption.old in
    subst (λ (n : ℕ). c.args.plan.kind ≡ Full → (p : Place) → IsPlaceIn 0 n blocks p → NamesYoung (new_cell n blocks p) → ⊥) (sym c.requires.plan.planned.kept)
    (none_young_in c.args.plan.kind c.args.task.now.spaces.now c.args.task.now.roots.now c.requires.made.0 c.args.forward.words c.requires.made.1 c.args.part.aged.items c.args.part.old.items c.requires.plan.spaces c.requires.plan.limit c.requires.made.2
    c.in_ok-adoption.adoption.aged blocks (merges g (goal.at.notes-requires-clause-full g c).In_ok-adoption))

pub returns-clause-merged : goal.returns-clause-merged
returns-clause-merged g c = merges g (goal.at.returns-clause-merged g c).In_ok-adoption

pub returns-clause-noted : goal.returns-clause-noted
returns-clause-noted g c =
    subst (λ (n : ℕ). AreNotes c.args.plan.kind c.args.task.now.spaces.now.spaces c.args.task.now.roots.now c.args.forward.words n c.in_ok-adoption.adoption.old c.in_ok-remembered.remembered.places) c.requires.plan.planned.kept
    c.in_ok-remembered.ensures

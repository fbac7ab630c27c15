use Rattle.std.proofs.Common.{arith, if◌then◌else◌, ◌+◌, ◌≤◌, ◌≡◌, ◌∙◌, ap, refl, sym, subst}
use Rattle.std.specs.Vec.{vec_len}
use Rattle.std.proofs.lemmas.Result.{IfOk-weaker}
use Rattle.tg_text.specs.declared.line.Line.{Line}
use Rattle.tg_space.specs.declared.kind.Kind.TheVariants as kind
use Rattle.tg_text.specs.declared.line.Line.TheVariants as line
use Rattle.tg_script.specs.Script.{create_of, spawn_of}
use Rattle.tg_threads.specs.Boxes.{Boxed}
use Rattle.tg_threads.specs.Tasks.{HasRun, IsRunFor, is_deed, is_spawn_line}
use Rattle.tg_threads.proofs.RunLaws.{arena_now, asked_runs, collected_runs, create_each, made_runs, plain_each, served_of}
use Rattle.tg_threads.proofs.worker.run_task.Goals as goal

pub returns-in-Full-clause-run : goal.returns-in-Full-clause-run
returns-in-Full-clause-run g c = λ before is by.
    let b : Boxed = record { line = line.Full; value = c.args.task.draft } in
    rw c.in-Full.is (collected_runs (arena_now g.L.Round.start c.args.context.now.helpers c.collect.new.session) before b kind.Full c.collect.result c.args.session.now c.collect.new.session (λ e a told. told) c.collect.ensures.collected c.collect.ensures.looked)

pub returns-in-Minor-clause-run : goal.returns-in-Minor-clause-run
returns-in-Minor-clause-run g c = λ before is by.
    let b : Boxed = record { line = line.Minor; value = c.args.task.draft } in
    rw c.in-Minor.is (collected_runs (arena_now g.L.Round.start c.args.context.now.helpers c.collect-in-Minor.new.session) before b kind.Nursery c.collect-in-Minor.result c.args.session.now c.collect-in-Minor.new.session (λ e a told. told) c.collect-in-Minor.ensures.collected c.collect-in-Minor.ensures.looked)

pub returns-in-Plain-clause-run : goal.returns-in-Plain-clause-run
returns-in-Plain-clause-run g c = λ before is by.
    let old = c.args.session.now in
    let new = c.apply.new.session in
    let box = c.args.task.draft in
    let Q : Line → Type 0 = λ l. IsRunFor old.worker l in
    let served = served_of c.args.served c.args.task.line c.is_refused.result c.is_refused.ensures c.if-is_refused.false (ap is_deed c.in-Plain.is) in
    IfOk-weaker c.apply.result _ _
    (λ t asked.
    let P : Line → Type 0 = λ l. HasRun (arena_now g.L.Round.start c.args.context.now.helpers new) before (record { line = l; value = box }) t old new in
    subst P (sym c.in-Plain.is) (asked_runs g.L.Round.start c.args.context.now.helpers c.in-Plain.worker before c.in-Plain.command box t old new (is ∙ served) (subst Q c.in-Plain.is by) asked))
    c.apply.ensures.told.asked

pub returns-in-Create-clause-run : goal.returns-in-Create-clause-run
returns-in-Create-clause-run g c = λ before is by.
    let old = c.args.session.now in
    let new = c.create.new.session in
    let box = c.args.task.draft in
    let Q : Line → Type 0 = λ l. IsRunFor old.worker l in
    let served = served_of c.args.served c.args.task.line c.is_refused.result c.is_refused.ensures c.if-is_refused.false (ap is_deed c.in-Create.is) in
    let b : Boxed = record { line = line.Create c.in-Create.worker c.in-Create.label; value = box } in
    IfOk-weaker c.create.result _ _
    (λ t made.
    let P : Line → Type 0 = λ l. HasRun (arena_now g.L.Round.start c.args.context.now.helpers new) before (record { line = l; value = box }) t old new in
    subst P (sym c.in-Create.is) (made_runs g.L.Round.start c.args.context.now.helpers c.in-Create.worker before b (create_of c.in-Create.label) t old new (is ∙ served) (subst Q c.in-Create.is by) (λ e a told. told) made))
    c.create.ensures.told.asked

pub returns-in-Spawn-clause-run : goal.returns-in-Spawn-clause-run
returns-in-Spawn-clause-run g c = λ before is by.
    let old = c.args.session.now in
    let new = c.spawn.new.session in
    let box = c.args.task.draft in
    let Q : Line → Type 0 = λ l. IsRunFor old.worker l in
    let served = served_of c.args.served c.args.task.line c.is_refused.result c.is_refused.ensures c.if-is_refused.false (ap is_deed c.in-Spawn.is) in
    let b : Boxed = record { line = line.Spawn c.in-Spawn.worker c.in-Spawn.label; value = box } in
    IfOk-weaker c.spawn.result _ _
    (λ t made.
    let P : Line → Type 0 = λ l. HasRun (arena_now g.L.Round.start c.args.context.now.helpers new) before (record { line = l; value = box }) t old new in
    subst P (sym c.in-Spawn.is) (made_runs g.L.Round.start c.args.context.now.helpers c.in-Spawn.worker before b (spawn_of c.in-Spawn.label) t old new (is ∙ served) (subst Q c.in-Spawn.is by) (λ e a told. told) made))
    c.spawn.ensures.told.asked

pub returns-in-Plain-clause-spawned : goal.returns-in-Plain-clause-spawned
returns-in-Plain-clause-spawned g c = record {
  each = IfOk-weaker c.apply.result _ _ (λ t asked. plain_each g.L.Round.start c.in-Plain.command t c.args.session.now c.apply.new.session c.args.spawned.now.items asked) c.apply.ensures.told.asked;
  kept = refl;
  fits = omega arith;
}

pub returns-in-Create-clause-spawned : goal.returns-in-Create-clause-spawned
returns-in-Create-clause-spawned g c = record {
  each = IfOk-weaker c.create.result _ _ (λ t made. create_each g.L.Round.start c.in-Create.label c.args.task.draft t c.args.session.now c.create.new.session c.args.spawned.now.items made) c.create.ensures.told.asked;
  kept = refl;
  fits = omega arith;
}

pub returns-in-Spawn-clause-spawned : goal.returns-in-Spawn-clause-spawned
returns-in-Spawn-clause-spawned g c = record {
  each = c.spawn.ensures.spawned.each;
  kept = c.spawn.ensures.spawned.kept;
  fits = subst (λ (l : Line). vec_len c.spawn.new.spawned ≤ vec_len c.args.spawned.now + (if is_spawn_line l then 1 else 0)) (sym c.in-Spawn.is) c.spawn.ensures.spawned.fits;
}

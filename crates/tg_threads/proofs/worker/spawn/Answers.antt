use Rattle.std.proofs.Common.{List, Option, arith, refl, rules, sym, subst}
use Rattle.std.specs.Prelude.{IfOk}
use Rattle.tg_model.specs.declared.value.Value.{Value}
use Rattle.tg_script.specs.Script.{spawn_of}
use Rattle.tg_shared.specs.Sessions.{AreFresh, SessionState}
use Rattle.tg_threads.specs.Tasks.{HasMadeVertex, subjects_spawned}
use Rattle.tg_threads.proofs.RunLaws.{has_receipt, heap_front, not_made_asked, not_spawned, ok_where, one_spawned, still_each, told_of_answer}
use Rattle.tg_threads.proofs.worker.spawn.Goals as goal

pub returns-in-Ok-clause-told : goal.returns-in-Ok-clause-told
returns-in-Ok-clause-told g c =
    let old = c.args.session.now in
    let new = c.spawn.new.self in
    record {
      asked = subst (λ (box : Option Value). HasMadeVertex g.L.Round.start (spawn_of c.args.label) box c.last_told.result old new) (sym c.in-Some.is)
          (told_of_answer g.L.Round.start old new (spawn_of c.args.label c.in-Some.draft) _ c.last_told.result c.in-Ok.ensures.receipt c.last_told.ensures);
      gone = tt;
    }

pub returns-in-Err-clause-told : goal.returns-in-Err-clause-told
returns-in-Err-clause-told g c =
    let old = c.args.session.now in
    let new = c.spawn.new.self in
    record {
      asked = subst (λ (box : Option Value). IfOk c.not_made.result (λ t. HasMadeVertex g.L.Round.start (spawn_of c.args.label) box t old new)) (sym c.in-Some.is)
          (not_made_asked g.L.Round.start (spawn_of c.args.label c.in-Some.draft) c.in-Err.refused.why c.not_made.result old new (heap_front g.L.Round.start new.seen _ c.in-Err.ensures.refusals.heap_full) c.not_made.ensures.fault c.in-Err.ensures.refusals.full (c.in-Err.ensures.workers_full) (c.in-Err.ensures.refused)
          c.not_made.ensures.refused c.not_made.ensures.entered);
      gone = search rules;
    }

pub returns-in-Ok-clause-spawned : goal.returns-in-Ok-clause-spawned
returns-in-Ok-clause-spawned g c =
    let old = c.args.session.now in
    let new = c.spawn.new.self in
    let fresh = c.in-Ok.fresh in
    let held = c.args.spawned.now.items in
    record {
      each = λ had. subst (λ (ss : List SessionState). AreFresh (subjects_spawned new.receipts) ss) (sym c.push_reserved.ensures.items)
          (one_spawned old new fresh _ (spawn_of c.args.label c.in-Some.draft) _ held refl c.in-Ok.ensures.receipt.receipt c.in-Ok.ensures.fresh had);
      kept = c.push_reserved.ensures.capacity;
      fits = search rules;
    }

pub returns-in-Err-clause-spawned : goal.returns-in-Err-clause-spawned
returns-in-Err-clause-spawned g c =
    let old = c.args.session.now in
    let new = c.spawn.new.self in
    let same = not_spawned g.L.Round.start (spawn_of c.args.label c.in-Some.draft) c.in-Err.refused.why old new c.in-Err.ensures.refusals.full c.in-Err.ensures.workers_full c.in-Err.ensures.refused in
    record {
      each = ok_where c.not_made.result _ (still_each old new c.args.spawned.now.items same);
      kept = refl;
      fits = omega arith;
    }

pub last_told-requires : goal.last_told-requires
last_told-requires g c = has_receipt c.args.session.now.receipts c.spawn.new.self.receipts _ c.in-Ok.ensures.receipt.receipt.1

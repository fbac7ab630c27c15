use Rattle.std.proofs.Common.{Option, rules, sym, subst}
use Rattle.std.specs.Prelude.{IfOk}
use Rattle.tg_model.specs.declared.value.Value.{Value}
use Rattle.tg_script.specs.Script.{create_of}
use Rattle.tg_threads.specs.Tasks.{HasMadeVertex}
use Rattle.tg_threads.proofs.RunLaws.{has_receipt, heap_front, not_made_asked, told_of_answer}
use Rattle.tg_threads.proofs.worker.create.Goals as goal

pub returns-in-Ok : goal.returns-in-Ok
returns-in-Ok g c =
    let old = c.args.session.now in
    let new = c.create.new.self in
    record {
      told = record {
        asked = subst (λ (box : Option Value). HasMadeVertex g.L.Round.start (create_of c.args.label) box c.last_told.result old new) (sym c.in-Some.is)
            (told_of_answer g.L.Round.start old new (create_of c.args.label c.in-Some.draft) _ c.last_told.result c.in-Ok.ensures.receipt c.last_told.ensures);
        gone = tt;
      };
    }

pub returns-in-Err : goal.returns-in-Err
returns-in-Err g c =
    let old = c.args.session.now in
    let new = c.create.new.self in
    record {
      told = record {
        asked = subst (λ (box : Option Value). IfOk c.not_made.result (λ t. HasMadeVertex g.L.Round.start (create_of c.args.label) box t old new)) (sym c.in-Some.is)
            (not_made_asked g.L.Round.start (create_of c.args.label c.in-Some.draft) c.in-Err.refused.why c.not_made.result old new (heap_front g.L.Round.start new.seen _ c.in-Err.ensures.refusals.heap_full) c.not_made.ensures.fault c.in-Err.ensures.refusals.full (λ w. absurd (c.in-Err.ensures.no_workers_full w)) (λ other more. c.in-Err.ensures.refused other)
            c.not_made.ensures.refused c.not_made.ensures.entered);
        gone = search rules;
      };
    }

pub last_told-requires : goal.last_told-requires
last_told-requires g c = has_receipt c.args.session.now.receipts c.create.new.self.receipts _ c.in-Ok.ensures.receipt.receipt.1

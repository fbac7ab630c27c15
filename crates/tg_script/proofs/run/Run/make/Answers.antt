use Rattle.std.proofs.Common.{◌∙◌, List, refl, subst, sym}
use Rattle.tg_model.specs.declared.value.Value.{Value}
use Rattle.tg_script.specs.declared.run.Run.{Run}
use Rattle.tg_script.specs.Inner.Run.{HandlesBy, MakesEntryBy, line_making, making_answer}
use Rattle.tg_script.specs.Inner.Supply.{values_left}
use Rattle.tg_script.proofs.RunLaws.{handles_making, making_entry, without_stock}
use Rattle.tg_script.proofs.run.Run.make.Goals as goal

pub returns-in-Some : goal.returns-in-Some
returns-in-Some g c =
    let old = c.args.self.now in
    let store = c.make-made.ensures in
    let new : Run _ = record { store = c.make-made.new.self; supply = c.tell.new.supply; helpers = old.helpers } in
    let l = line_making c.args.kind c.args.worker c.args.label in
    let a = making_answer c.make-made.result in
    let left = values_left c.take.new.self in
    let values = sym c.in-Some.ensures.values in
    rw c.tell.ensures.answer (record {
      answered = subst (λ (x : List Value). HandlesBy old.store x old.helpers l a new) values
          (handles_making old.store old.helpers new c.args.kind c.args.worker c.args.label c.in-Some.draft left c.make-made.result
          (record { vertex = store.made; refusals = store.refusals; too_many = store.too_many }) c.tell.ensures.stock refl);
      entered = record {
        entry = subst (λ (x : List Value). MakesEntryBy old.store x l a new.store) values
            (making_entry old.store new.store c.args.kind c.args.worker c.args.label c.in-Some.draft left c.make-made.result
            (record { named = store.entry; no_more = store.no_more_entry; too_many = store.too_many_entry; others = store.refused; opening = store.refusals.opening }));
        held = λ holds. store.refusals.handed;
      };
    })

pub returns-in-None : goal.returns-in-None
returns-in-None g c =
    let old = c.args.self.now in
    let new : Run _ = record { store = old.store; supply = c.take.new.self; helpers = old.helpers } in
    let told = c.in-None.ensures in
    let refused = without_stock old new c.args.kind c.args.worker c.args.label refl told.empty (sym told.values ∙ told.empty) refl in
    record { answered = refused.0; entered = record { entry = refused.1; held = λ holds. refl } }

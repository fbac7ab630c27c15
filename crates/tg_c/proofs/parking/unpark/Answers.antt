use Rattle.std.proofs.Common.{◌∙◌, sym, ap, Ok, Err}
use Rattle.std.proofs.lemmas.Result.{err_from_is_err_and}
use Rattle.tg_c.specs.Parking.{IsUnparkingAnswered}
use Rattle.tg_c.specs.Statuses.{of_park, refused_as}
use Rattle.tg_c.proofs.CallLaws.{served}
use Rattle.tg_c.proofs.parking.unpark.Goals as goal

pub returns-in_err-unparked : goal.returns-in_err-unparked
returns-in_err-unparked c =
    let given = err_from_is_err_and c.from_residual.result c.from_residual.ensures.1 in
    let told = c.unpark-unparked.ensures in
    served of_park (IsUnparkingAnswered c.args.parking) c.args.place.now c.put.new.self c.from_residual.result
    c.deref_mut.result.now.store c.unpark-unparked.new.self c.unpark-unparked.result
    c.in-Some.ensures.taken.0 c.put.ensures.open (sym (ap (λ s. s.store) (c.deref_mut.ensures.value ∙ c.in-Some.ensures.taken.1))) (ap (λ s. s.store) c.put.ensures.opened)
    (given.1 ∙ ap Err given.2 ∙ sym (ap (λ a. refused_as of_park a) c.in_err-unparked.was)) (record {
      comes = told.comes;
      no_such_worker = told.no_such_worker;
      in_use = told.in_use;
      refused = told.refused;
    })

pub returns : goal.returns
returns c =
    let told = c.unpark-unparked.ensures in
    served of_park (IsUnparkingAnswered c.args.parking) c.args.place.now c.put.new.self (Ok c.in_ok-unparked.field-0)
    c.deref_mut.result.now.store c.unpark-unparked.new.self c.unpark-unparked.result
    c.in-Some.ensures.taken.0 c.put.ensures.open (sym (ap (λ s. s.store) (c.deref_mut.ensures.value ∙ c.in-Some.ensures.taken.1))) (ap (λ s. s.store) c.put.ensures.opened)
    (sym (ap (λ a. refused_as of_park a) c.in_ok-unparked.was)) (record {
      comes = told.comes;
      no_such_worker = told.no_such_worker;
      in_use = told.in_use;
      refused = told.refused;
    })

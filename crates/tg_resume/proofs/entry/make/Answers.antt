use Rattle.std.proofs.Common.{◌≡◌, ◌∙◌, Err, Result, ap, sym, subst}
use Rattle.std.proofs.lemmas.Result.{err_from_is_err_and}
use Rattle.tg_model.specs.declared.reply.Reply.{Reply}
use Rattle.tg_model.specs.Making.{deed_making}
use Rattle.tg_space.specs.declared.room_fault.RoomFault.{RoomFault}
use Rattle.tg_space.specs.declared.room_fault.RoomFault.TheVariants.{HeapFull}
use Rattle.tg_resume.specs.Inner.Replaying.{Does}
use Rattle.tg_resume.proofs.Doing.{not_collected}
use Rattle.tg_resume.proofs.entry.make.Goals as goal

pub returns-in_err-collect-in-Err-HeapFull : goal.returns-in_err-collect-in-Err-HeapFull
returns-in_err-collect-in-Err-HeapFull g c =
    let old = c.args.store.now in
    let deed = deed_making c.args.kind c.args.label c.args.draft in
    let fault : RoomFault = c.in_err-collect-in-Err-HeapFull.field-0.0 in
    let given = err_from_is_err_and c.from_residual.result c.from_residual.ensures.1 in
    let same : c.from_residual.result ≡ Err fault = given.1 ∙ ap (λ (f : RoomFault). Err f) given.2 in
    let full : c.in-Err-HeapFull.field-0.why ≡ HeapFull = cc in
    subst (λ (r : Result Reply RoomFault). Does c.args.worker deed old c.collect.new.self r) (sym same)
    (not_collected _ c.args.worker deed old c.try_making.new.store c.in-Err-HeapFull.field-0 c.in-Err-HeapFull.ensures.tried full
    c.collect.new.self fault c.in_err-collect-in-Err-HeapFull.ensures.history
    (λ is. c.in_err-collect-in-Err-HeapFull.ensures.full (ap (λ (f : RoomFault). Err f) is)))

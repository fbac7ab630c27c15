use Rattle.tg_c.specs.Calls.{AreSubjectNames, IsShown}
use Rattle.tg_c.specs.Statuses.{TellsNames}
use Rattle.tg_c.proofs.CallLaws.{hears_as, names_told}
use Rattle.tg_exports.proofs.store.tg_subjects.Goals as goal

pub returns : goal.returns
returns c =
    hears_as (λ why. why) AreSubjectNames c.args.store.now c.subjects.new.place (IsShown c.args.names.now c.subjects.new.into c.subjects.result)
    (TellsNames c.tell_number.result (record { count = c.args.count.now; names = c.args.names.now }) (record { count = c.tell_number.new.out; names = c.subjects.new.into })) c.subjects.ensures
    (λ told shown. names_told c.tell_number.result c.args.count.now c.tell_number.new.out c.args.names.now c.subjects.new.into c.subjects.result told c.tell_number.ensures shown)

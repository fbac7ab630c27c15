use Rattle.tg_c.specs.Calls.{AreNames, IsShown}
use Rattle.tg_c.specs.Statuses.{TellsNames}
use Rattle.tg_c.proofs.CallLaws.{hears_as, names_told}
use Rattle.tg_exports.proofs.store.tg_names.Goals as goal

pub returns : goal.returns
returns c =
    hears_as (λ why. why) AreNames c.args.store.now c.names.new.place (IsShown c.args.names.now c.names.new.into c.names.result)
    (TellsNames c.tell_number.result (record { count = c.args.count.now; names = c.args.names.now }) (record { count = c.tell_number.new.out; names = c.names.new.into })) c.names.ensures
    (λ told shown. names_told c.tell_number.result c.args.count.now c.tell_number.new.out c.args.names.now c.names.new.into c.names.result told c.tell_number.ensures shown)

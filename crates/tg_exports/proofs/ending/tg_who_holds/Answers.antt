use Rattle.std.proofs.Common.{Result, Err, List, ℕ}
use Rattle.tg_c.specs.Calls.{IsShown}
use Rattle.tg_c.specs.Ending.{AreToldHolders}
use Rattle.tg_c.specs.Statuses.{TellsNames}
use Rattle.tg_c.specs.declared.refusal.CallRefusal.{CallRefusal}
use Rattle.tg_c.specs.declared.refusal.CallRefusal.TheVariants as refusal
use Rattle.tg_c.proofs.CallLaws.{hears_as, names_told}
use Rattle.tg_exports.proofs.ending.tg_who_holds.Goals as goal

pub returns : goal.returns
returns c =
    let shown : Result (List ℕ) CallRefusal → Type 0 = IsShown c.args.names.now c.who_holds.new.into c.who_holds.result in
    let tells : Result (List ℕ) CallRefusal → Type 0 = TellsNames c.tell_number.result (record { count = c.args.count.now; names = c.args.names.now }) (record { count = c.tell_number.new.out; names = c.who_holds.new.into }) in
    let told : (answer : Result (List ℕ) CallRefusal) → shown answer → tells answer = λ answer is. names_told c.tell_number.result c.args.count.now c.tell_number.new.out c.args.names.now c.who_holds.new.into c.who_holds.result answer c.tell_number.ensures is in
    record {
      asked = λ right is. hears_as (λ why. why) (AreToldHolders right c.args.name) c.args.store.now c.who_holds.new.place shown tells (c.who_holds.ensures.asked right is) told;
      bad_rights = λ none. let refused = c.who_holds.ensures.bad_rights none in (refused.0, told (Err refusal.BadRights) refused.1);
    }

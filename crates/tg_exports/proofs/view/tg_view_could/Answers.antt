use Rattle.std.proofs.Common.{◌≡◌, Result, Ok, Err, ℕ, subst}
use Rattle.tg_c.specs.declared.refusal.CallRefusal.{CallRefusal}
use Rattle.tg_c.specs.declared.refusal.CallRefusal.TheVariants as refusal
use Rattle.tg_c.specs.Statuses.{TellsNumber}
use Rattle.tg_c.specs.View.{kind_seen}
use Rattle.tg_exports.proofs.view.tg_view_could.Goals as goal

pub returns : goal.returns
returns c =
    let tells : Result ℕ CallRefusal → Type 0 = TellsNumber c.tell_number.result c.args.kind.now c.tell_number.new.out in
    let hear : (told : Result ℕ CallRefusal) → c.ask_view.result ≡ told → tells told = λ told is. subst tells is c.tell_number.ensures in
    let asked = c.ask_view.ensures in
    record {
      bad_rights = λ none. let refused = asked.bad_rights none in (hear (Err refusal.BadRights) refused.0, refused.1);
      not_open = λ right is closed. let refused = asked.not_open right is closed in (hear (Err refusal.NotOpen) refused.0, refused.1);
      told = λ right is opened.
          let told = asked.told right is opened in
          (record { glimpse = told.0.glimpse; told = hear (Ok (kind_seen told.0.glimpse)) told.0.told; is = told.0.is }, told.1, told.2);
    }

use Rattle.std.proofs.Common.{inl, inr, subst}
use Rattle.std.proofs.lemmas.Result.{IfOk-weaker}
use Rattle.std.specs.Prelude.{IfSome}
use Rattle.tg_plain.specs.Past.{IsInputOf, IsLeftBy}
use Rattle.tg_plain.specs.declared.input.InputText.TheVariants.{Entries, Lines}
use Rattle.tg_plain.proofs.PastLaws.{given_step}
use Rattle.tg_plain.proofs.ReadingLaws.{leaves_outcome}
use Rattle.tg_plain.proofs.outcome.Outcome.given.Goals as goal

pub returns-in-Lines : goal.returns-in-Lines
returns-in-Lines g c =
    let read = c.in_ok-input.ensures in
    let is = subst (λ i. IfSome read.0 (λ bytes. IsInputOf c.args.options bytes i)) c.in-Lines.is read.2 in
    given_step g.R.Reader.Read.remaining c.args.options.kept read.0 c.of.result (λ bytes. IsInputOf c.args.options bytes (Lines c.in-Lines.script)) (IsLeftBy c.args.options) read.1 is
    (λ bytes is. IfOk-weaker c.of.result _ _ (λ outcome left. inl left)
    (leaves_outcome c.args.options bytes c.in-Lines.script c.of.result is.0 is.1 is.2 c.of.ensures.left c.of.ensures.whole))

pub returns-in-Entries : goal.returns-in-Entries
returns-in-Entries g c =
    let read = c.in_ok-input.ensures in
    let is = subst (λ i. IfSome read.0 (λ bytes. IsInputOf c.args.options bytes i)) c.in-Entries.is read.2 in
    given_step g.R.Reader.Read.remaining c.args.options.kept read.0 c.of_history.result (λ bytes. IsInputOf c.args.options bytes (Entries c.in-Entries.history)) (IsLeftBy c.args.options) read.1 is
    (λ bytes is. IfOk-weaker c.of_history.result _ _ (λ outcome left. inr (left bytes is.0)) c.of_history.ensures)

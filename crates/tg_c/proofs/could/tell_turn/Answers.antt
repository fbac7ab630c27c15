use Rattle.std.proofs.Common.{◌≡◌, ◌∙◌, List, Option, Some, length, slice_get, ok_or, refl, sym, subst, ap, arith}
use Rattle.std.proofs.lemmas.Option.{slice_get_read}
use Rattle.tg_graph.specs.Shown.{shown_in}
use Rattle.tg_could.specs.Turns.{Turn}
use Rattle.tg_c.specs.declared.refusal.CallRefusal.TheVariants as refusal
use Rattle.tg_c.specs.Could.{TellsTurn, turns_in}
use Rattle.tg_c.proofs.could.tell_turn.Goals as goal

pub returns : goal.returns
returns c =
    let turn : Turn = c.index-turns-at.result in
    let here : slice_get (turns_in c.args.outlook.now.told) c.args.at ≡ Some turn =
    subst (λ (ts : List Turn). slice_get ts c.args.at ≡ Some turn) c.turns-turns.ensures
    (slice_get_read c.turns-turns.result.now (length c.turns-turns.result.now) c.args.at turn refl (omega (arith, c.if-turns-at.false)) c.index-turns-at.is) in
    subst (λ (o : Option Turn). TellsTurn 0 (record { record_out = c.args.out.now; numbers = c.args.numbers.now }) (record { record_out = c.turn_out.result; numbers = c.put_numbers.new.out }) (ok_or o refusal.BadPlace)) (sym here)
    (refl, λ i. record { record_out = c.turn_out.ensures i; numbers = (c.put_numbers.ensures ∙ ap (λ ns. shown_in ns c.args.numbers.now) c.numbers_of_turn.ensures) i })

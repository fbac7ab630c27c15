use Rattle.std.proofs.Common.{◌≡◌, ◌∙◌, ap, sym}
use Rattle.tg_model.specs.declared.command.Command.{Command}
use Rattle.tg_model.specs.declared.verb.Verb.{Verb}
use Rattle.tg_model.specs.declared.verb.Arguments.{Arguments}
use Rattle.tg_model.specs.Commands.{verb_and_arguments}
use Rattle.tg_model.proofs.CommandLaws.{parts-same}
use Rattle.tg_model.proofs.command.Command.same.Goals as goal

pub returns-then-is : goal.returns-then-is
returns-then-is c =
    let own : c.parts-verb.result ≡ verb_and_arguments c.args.self.now = c.parts-verb.ensures in
    let others : c.parts-other_verb.result ≡ verb_and_arguments c.args.other.now = c.parts-other_verb.ensures in (
      λ same.
          let verb : c.parts-verb.result.0 ≡ c.parts-other_verb.result.0 = c.is.ensures.0 c.if-is.true in
          let behind : c.parts-verb.result.1 ≡ c.parts-other_verb.result.1 = c.same.ensures.0 same in
          parts-same c.args.self.now c.args.other.now
          (sym (ap (λ (p : Verb × Arguments). p.0) own) ∙ verb ∙ ap (λ (p : Verb × Arguments). p.0) others)
          (sym (ap (λ (p : Verb × Arguments). p.1) own) ∙ behind ∙ ap (λ (p : Verb × Arguments). p.1) others),
      λ e. c.same.ensures.1
          (ap (λ (p : Verb × Arguments). p.1) own ∙ ap (λ (command : Command). (verb_and_arguments command).1) e ∙ sym (ap (λ (p : Verb × Arguments). p.1) others)),
    )

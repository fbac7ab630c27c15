-- What is decided and answered on a content is what the graph answers for which it stands.
use Rattle.std.proofs.Common.{◌≡◌, ℕ, Some, None, sym, ap, ◌∙◌}
use Rattle.std.proofs.lemmas.List.Elements.{All-contains_itself}
use Rattle.tg_model.specs.declared.command.Command.{Command}
use Rattle.tg_model.specs.declared.command.Deed.TheVariants.{Plain}
use Rattle.tg_model.specs.declared.reply.Denial.{Denial}
use Rattle.tg_model.specs.declared.reply.Reply.{Reply}
use Rattle.tg_model.specs.declared.reply.Reply.TheVariants as reply
use Rattle.tg_model.specs.Graph.{ProtectionGraph, IsSubject}
use Rattle.tg_model.specs.Rules.{denial_of, denied_or, reply_of, answer_of}
use Rattle.tg_rows.specs.Content.{Content}
use Rattle.tg_graph.specs.Standing.{IsContentOf}
use Rattle.tg_graph.proofs.StandingLaws.{answer_of-stands}
use Rattle.tg_rules.specs.Effect.{IsReplyOn}

-- ---- answers

module _ (c : Content) (g : ProtectionGraph) (stands : IsContentOf c g) (x : ℕ) (command : Command) (subject : IsSubject g x) where
  pub answer-denied : (denial : Denial) → denial_of c.label c.value x command ≡ Some denial → answer_of g x (Plain command) ≡ reply.Denied denial
  answer-denied denial denied =
      answer_of-stands c g stands x command subject
      ∙ ap (λ d. denied_or d (reply_of c.label c.value g.made x command)) denied

  pub answer-served : (answer : Reply) → denial_of c.label c.value x command ≡ None → IsReplyOn c x command answer → answer_of g x (Plain command) ≡ answer
  answer-served answer none is =
      answer_of-stands c g stands x command subject
      ∙ ap (λ d. denied_or d (reply_of c.label c.value g.made x command)) none
      ∙ sym (is g.made (λ k d inside. stands.made _ (All-contains_itself c.names k d inside)))

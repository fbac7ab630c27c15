use Rattle.std.proofs.Common.{ℕ, List, sym, ap, ◌∙◌, subst}
use Rattle.tg_model.specs.declared.command.Command.{Command}
use Rattle.tg_model.specs.declared.command.Command.TheVariants.{Take, Grant}
use Rattle.tg_model.specs.declared.command.Deed.TheVariants.{Plain}
use Rattle.tg_model.specs.Graph.{without_subject}
use Rattle.tg_model.specs.Rules.{step}
use Rattle.tg_could.specs.Inner.Trial.{Stands}
use Rattle.tg_could.proofs.TurnLaws.{handed-by}
use Rattle.tg_could.proofs.witness.trial.Trial.take_command.Goals as goal

pub returns-in-Take : goal.returns-in-Take
returns-in-Take c =
    handed-by c.hand_on.result c.args.edges.now c.args.self.now c.hand_on.new.self c.args.worker (Take c.in-Take.rights c.in-Take.via c.in-Take.target) c.args.asked.now c.in-Take.is
    c.hand_on.ensures (λ g h. ((h.0, h.1, h.2, h.3, h.4), h.5))

pub returns-in-Grant : goal.returns-in-Grant
returns-in-Grant c =
    handed-by c.hand_on-in-Grant.result c.args.edges.now c.args.self.now c.hand_on-in-Grant.new.self c.args.worker (Grant c.in-Grant.rights c.in-Grant.via c.in-Grant.target) c.args.asked.now c.in-Grant.is
    c.hand_on-in-Grant.ensures (λ g h. ((h.0, h.1, h.2, h.3, h.4), h.5))

pub returns-in-Retire : goal.returns-in-Retire
returns-in-Retire c t g stands =
    subst (λ (command : Command). Stands c.args.edges.now (record c.args.self.now { subjects = c.leave_out.new.names }) (step g c.args.worker (Plain command))) (sym c.in-Retire.is)
    (record {
      subjects = ap (λ (l : List ℕ). without_subject l c.args.worker) stands.subjects ∙ sym c.leave_out.ensures;
      made = stands.made;
      limit = stands.limit;
      first = stands.first;
      later = stands.later;
    })

use Rattle.std.proofs.Common.{◌≡◌, ℕ, None, subst}
use Rattle.tg_model.specs.declared.command.Command.{Command}
use Rattle.tg_model.specs.declared.command.Command.TheVariants.{Take, Grant}
use Rattle.tg_model.specs.Graph.{ProtectionGraph}
use Rattle.tg_model.specs.Rules.{Permits, denial_of}
use Rattle.tg_model.proofs.AllowedLaws.{permits-no_denial}
use Rattle.tg_journal.specs.Live.{graph_kept}
use Rattle.tg_journal.proofs.live.LiveGraph.serve.Goals as goal

-- a command for which there is no denial is permitted
permitted : (g : ProtectionGraph) (x : ℕ) (command asked : Command) → command ≡ asked → denial_of g.label g.value x command ≡ None → Permits g.label g.value x asked
permitted g x command asked is none = permits-no_denial g.label g.value x asked (subst (λ (c : Command). denial_of g.label g.value x c ≡ None) is none)

pub add-requires : goal.add-requires
add-requires c =
    let allowed = permitted (graph_kept c.args.self.now) c.args.worker _ (Take c.in-Take.rights c.in-Take.via c.in-Take.target) c.in-Take.is c.requires in
    (c.in-Take.via, allowed.4)

pub add-requires-in-Grant : goal.add-requires-in-Grant
add-requires-in-Grant c =
    let allowed = permitted (graph_kept c.args.self.now) c.args.worker _ (Grant c.in-Grant.rights c.in-Grant.via c.in-Grant.target) c.in-Grant.is c.requires in
    (c.args.worker, allowed.4)

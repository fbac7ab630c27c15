use Rattle.std.proofs.Common.{◌∙◌, ap, sym}
use Rattle.tg_word.specs.declared.Place.{Place}
use Rattle.tg_space.specs.Targets.{young_spaces}
use Rattle.tg_graph.proofs.Starts.{word_named}
use Rattle.tg_graph.proofs.settle.add_if_young.Goals as goal

pub returns : goal.returns
returns c = λ h names.
    word_named h c.args.word (ap (λ (p : Place). young_spaces p.space) (sym c.place_of-named.ensures) ∙ sym c.moves.ensures ∙ c.if-not-moves.false) names c.args.roots.now.items c.push.new.self.items (rw c.place_of-named.ensures at c.in_ok-push.ensures.items)

use Rattle.std.proofs.Common.{ap, ◌∙◌}
use Rattle.std.proofs.lemmas.Bool.Decides.{Decides-at}
use Rattle.tg_remember.specs.Notes.{place_of_key}
use Rattle.tg_remember.proofs.NoteLemmas.{list_any-Decides, list_any-keys}
use Rattle.tg_remember.proofs.Remembered.contains.Goals as goal

pub returns : goal.returns
returns c =
    Decides-at _ _
    (c.contains.ensures
    ∙ list_any-keys c.self.inside.keys.keys c.args.self.now.places c.key_of.result c.args.place (ap place_of_key c.key_of.ensures) (ap (λ notes. notes.places) c.self.view_is))
    (list_any-Decides c.args.place c.args.self.now.places)

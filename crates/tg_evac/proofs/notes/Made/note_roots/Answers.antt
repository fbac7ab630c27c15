use Rattle.std.proofs.Common.{◌↔◌, ◌⊎◌, List, subst}
use Rattle.std.specs.List.{Contains}
use Rattle.std.proofs.lemmas.List.{take_all}
use Rattle.tg_word.specs.declared.Place.{Place}
use Rattle.tg_space.specs.Generations.{NamesYoung}
use Rattle.tg_space.specs.declared.root.Root.{Root}
use Rattle.tg_space.specs.declared.root.Root.TheVariants.{Row, Remembered}
use Rattle.tg_evac.specs.Copies.{moved_cell}
use Rattle.tg_evac.proofs.Copying.{noted_root}
use Rattle.tg_evac.proofs.notes.Made.note_roots.Goals as goal

pub loop-root-preserved : goal.loop-root-preserved
loop-root-preserved c =
    let young = λ (p : Place). NamesYoung (moved_cell c.args.self.moves.kind c.args.self.spaces.now.spaces c.args.self.moves.forward.now.words p) in
    noted_root c.args.roots.now c.loop-root.root-index (Row (record { space = 0; block = 0; cell = 0 })) c.loop-root-test.true young c.args.remembered.now.places c.loop-root.remembered.places c.note_root.new.remembered.places
    c.loop-root.invariant c.in_ok-note_root.ensures

pub returns : goal.returns
returns c p =
    subst (λ (rs : List Root). Contains c.loop-root.remembered.places p ↔ (Contains c.args.remembered.now.places p ⊎ (Contains rs (Remembered p) × NamesYoung (moved_cell c.args.self.moves.kind c.args.self.spaces.now.spaces c.args.self.moves.forward.now.words p))))
    (take_all c.loop-root.root-index c.args.roots.now c.loop-root-test.false) (c.loop-root.invariant p)

use Rattle.std.proofs.Common.{◌≡◌, List, ℕ, inl, inr, sym, ap, subst, ⊎_elim, ◌∙◌}
use Rattle.std.specs.List.{All}
use Rattle.std.proofs.lemmas.Result.{on_ok_weaker}
use Rattle.tg_space.specs.Collection.{new_place}
use Rattle.tg_space.specs.Generations.{NamesYoung}
use Rattle.tg_space.specs.SpaceList.{SpaceList, cell_at}
use Rattle.tg_space.specs.Soundness.{IsOldCell, IsPointer, IsRootIn}
use Rattle.tg_space.specs.Targets.{from_space, image_of, pointers_of}
use Rattle.tg_space.proofs.Numbered.{names_numbered}
use Rattle.tg_space.specs.declared.root.Root.{Root}
use Rattle.tg_space.specs.declared.root.Root.TheVariants.{Remembered}
use Rattle.tg_word.specs.declared.Place.{Place}
use Rattle.tg_evac.specs.Claims.{HavePointers}
use Rattle.tg_evac.specs.Copies.{moved_cell}
use Rattle.tg_evac.proofs.notes.Made.note_root.Goals as goal

-- what a remembered cell names is there
named_there : (h : SpaceList) (root : Root) (p : Place) → root ≡ Remembered p → IsRootIn h root → HavePointers h → (words : List ℕ) → words ≡ cell_at h p → All (IsPointer h) (pointers_of words)
named_there h root p is held pointers words are =
    let old : IsOldCell h p = subst (λ (r : Root). IsRootIn h r) is held in
    subst (λ ws. All (IsPointer h) (pointers_of ws)) (sym are) (pointers.words p old.held)

pub image-words-requires : goal.image-words-requires
image-words-requires c = names_numbered _ _ _ c.requires.forward.numbers _ (named_there c.args.self.spaces.now.spaces c.args.root c.in-Remembered.place c.in-Remembered.is c.requires.root c.requires.forward.pointers c.words.result.now c.words.ensures.words)

pub returns-in-Remembered : goal.returns-in-Remembered
returns-in-Remembered c =
    let h = c.args.self.spaces.now.spaces in let kind = c.args.self.moves.kind in let forward = c.args.self.moves.forward.now.words in let place = c.in-Remembered.place in
    let words : c.image-words.result ≡ moved_cell kind h forward place = c.image-words.ensures h c.requires.forward.numbers.before (named_there c.args.self.spaces.now.spaces c.args.root c.in-Remembered.place c.in-Remembered.is c.requires.root c.requires.forward.pointers c.words.result.now c.words.ensures.words) ∙ ap (image_of (from_space kind) h (new_place forward)) c.words.ensures.words in
    let old : IsOldCell h place = subst (λ (r : Root). IsRootIn h r) c.in-Remembered.is c.requires.root in
    on_ok_weaker c.note_young.result (λ noted p. (
      (λ held. ⊎_elim (λ early. inl early)
          (λ is. inr (c.in-Remembered.is ∙ ap Remembered (sym is.0), subst (λ (ws : List ℕ). NamesYoung ws) (words ∙ ap (moved_cell kind h forward) (sym is.0)) is.2))
          ((noted p).0 held)),
      (λ has. (noted p).1 (⊎_elim (λ early. inl early)
          (λ root.
          let both : Remembered place ≡ Remembered p = sym c.in-Remembered.is ∙ root.0 in
          let same : p ≡ place = cc in
          inr (same, old.space, subst (λ (ws : List ℕ). NamesYoung ws) (ap (moved_cell kind h forward) same ∙ sym words) root.1))
          has)),
    )) c.note_young.ensures

-- A cell that is put into the open block, and then moved where it stands.
use Rattle.std.proofs.Common.{◌≡◌, ℕ, ◌<◌, ◌++◌, ◌∷◌, List, [], length, get_or, set, sym, ap, arith, ◌∙◌}
use Rattle.std.specs.List.{flat_map}
use Rattle.std.specs.Result.{OnOk}
use Rattle.std.proofs.Math.Seq.{set-append_seam}
use Rattle.std.proofs.Common.{Result, Ok, Err}
use Rattle.std.proofs.lemmas.List.{append_assoc, get_or_push, length_push}
use Rattle.std.proofs.lemmas.List.Elements.{All-push}
use Rattle.tg_word.specs.declared.Place.{Place}
use Rattle.tg_space.specs.SpaceList.{SpaceList, BlockList}
use Rattle.tg_space.specs.Targets.{from_space, image_of}
use Rattle.tg_space.specs.declared.kind.Kind.{Kind}
use Rattle.tg_evac.specs.Claimers.{AddsCopy}
use Rattle.tg_evac.specs.Copies.{IsOpenBlock}

module _ (last items : List (List ℕ)) (words : List ℕ) (at : ℕ) (is : at ≡ length last) (pushed : items ≡ last ++ words ∷ []) where
  -- the last cell is the one that was put there
  pub read_last : (d : List ℕ) → get_or items at d ≡ words
  read_last d = ap (λ (cells : List (List ℕ)). get_or cells at d) pushed ∙ get_or_push last words d at (sym is)

  module _ (copy : List ℕ) where
    pub set_last : set items at copy ≡ last ++ copy ∷ []
    set_last =
        ap (λ (cells : List (List ℕ)). set cells at copy) pushed ∙ ap (λ (n : ℕ). set (last ++ words ∷ []) n copy) is ∙ set-append_seam last words [] copy

    pub still_open : IsOpenBlock last → length last < 64 → length copy ≡ 8 → IsOpenBlock (set items at copy)
    still_open fits low wide =
        let long = length_push last copy in
        rw set_last (omega arith, All-push (λ (cell : List ℕ). length cell ≡ 8) last copy fits.1 wide)

    -- the blocks with one more copy
    pub one_copied : {E : Type 0} (r : Result (Unit {0}) E) (kind : Kind) (h : SpaceList) (knows : (ℕ → Place) → Type 0) (before : List (List ℕ)) (full : BlockList) (source : List ℕ) → source ≡ words →
        flat_map (λ (block : List (List ℕ)). block) full ++ last ≡ before → OnOk r ((to : ℕ → Place) → knows to → copy ≡ image_of (from_space kind) h to source) →
        OnOk r (AddsCopy kind h knows words before (flat_map (λ (block : List (List ℕ)). block) full ++ set items at copy))
    one_copied (Ok _) kind h knows before full source same view image = record {
      copy = copy;
      is = ap (λ (cells : List (List ℕ)). flat_map (λ (block : List (List ℕ)). block) full ++ cells) set_last
          ∙ sym (append_assoc (flat_map (λ (block : List (List ℕ)). block) full) last (copy ∷ []))
          ∙ ap (λ (cells : List (List ℕ)). cells ++ copy ∷ []) view;
      image = λ to agrees. image to agrees ∙ ap (image_of (from_space kind) h to) same;
    }
    one_copied (Err _) kind h knows before full source same view image = tt

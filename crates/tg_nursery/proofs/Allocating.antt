-- An allocation hands out a fresh free cell and changes nothing else.
use Rattle.std.proofs.Common.{◌≡◌, ℕ, ◌<◌, ◌+◌, ◌*◌, ◌⊎◌, inl, inr, Bool, true, false, List, length, set, refl, ap, subst, sym, arith, ⊎_elim}
use Rattle.std.specs.Prelude.{nat_lt, slice_index}
use Rattle.std.proofs.lemmas.List.{get_or-set_same}
use Rattle.tg_word.specs.declared.Place.{Place}
use Rattle.tg_block.specs.Cells.{free_cell}
use Rattle.tg_space.specs.SpaceList.{HasCell, space_of, cell_at}
use Rattle.tg_space.specs.SpaceTable.{SpaceTable, used_of, with_one_used, place_in_space, number_in_space}
use Rattle.tg_space.proofs.Tables.{cell_at-with_block, kept-with_block}
use Rattle.tg_nursery.specs.Allocation.{Allocates, room_made}

-- what making room keeps
record Keeps (old made : SpaceTable) : Type 0 where
  used : made.used ≡ old.used
  limits : made.limits ≡ old.limits
  kept : (q : Place) → HasCell old.spaces q → HasCell made.spaces q × (cell_at made.spaces q ≡ cell_at old.spaces q)
  added : (q : Place) → HasCell made.spaces q → HasCell old.spaces q ⊎ (cell_at made.spaces q ≡ free_cell)

room_keeps : (old : SpaceTable) (space : ℕ) → space < length old.spaces → Keeps old (room_made old space)
room_keeps old space low = by_test (nat_lt (used_of old space) (64 * length (space_of old.spaces space))) refl
  where
    by_test : (b : Bool) → nat_lt (used_of old space) (64 * length (space_of old.spaces space)) ≡ b → Keeps old (room_made old space)
    by_test true t = rw t (record { used = refl; limits = refl; kept = λ q held. (held, refl); added = λ q held. inl held })
    by_test false t =
        rw t
        (record {
          used = refl;
          limits = refl;
          kept = kept-with_block old.spaces space low;
          added = λ q held. ⊎_elim (λ was. inl was.0) (λ free. inr free) (cell_at-with_block old.spaces space low q held);
        })

pub allocates : (old made new : SpaceTable) (space : ℕ) (p : Place) → space < length old.spaces → space < length old.used → made ≡ room_made old space → new ≡ with_one_used made space → p ≡ place_in_space space (used_of made space) → HasCell made.spaces p → cell_at made.spaces p ≡ free_cell → Allocates old new space p
allocates old made new space p low counted made_is new_is p_is held free =
    let keeps : Keeps old made = subst (λ (t : SpaceTable). Keeps old t) (sym made_is) (room_keeps old space low) in
    let used_is : used_of made space ≡ used_of old space = ap (λ (xs : List ℕ). slice_index xs space) keeps.used in
    let number_is : number_in_space p ≡ used_of old space = omega (arith, ap number_in_space p_is, used_is) in
    let nursery : p.space ≡ space = ap (λ (q : Place). q.space) p_is in
    let used_now : used_of (with_one_used made space) space ≡ used_of made space + 1 =
    get_or-set_same made.used space (used_of made space + 1) 0 (omega (arith, counted, ap (λ (xs : List ℕ). length xs) keeps.used)) in
    subst (λ (t : SpaceTable). Allocates old t space p) (sym new_is)
    (record {
      nursery = nursery;
      held = held;
      free = free;
      fresh = omega arith;
      handed_out = λ young. omega (arith, number_is, used_is, used_now, ap (λ (s : ℕ). used_of (with_one_used made space) s) nursery);
      kept = keeps.kept;
      added = keeps.added;
      counted = λ i. set (keeps.used i) space (used_is i + 1);
      limits = keeps.limits;
    })

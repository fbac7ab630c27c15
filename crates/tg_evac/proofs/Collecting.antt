-- The copies of the won cells are a collection.
use Rattle.std.proofs.Common.{◌≡◌, ◌≢◌, ◌↔◌, ℕ, ◌<◌, ◌≤◌, ◌+◌, ◌*◌, ◌^◌, ◌⊎◌, List, [], length, get_or, map, lit<, refl, sym, ap, subst, arith, ◌∙◌, inl, inr, ⊎_elim}
use Rattle.std.specs.List.{All, Contains}
use Rattle.std.proofs.lemmas.List.{length-map, nil_from_length}
use Rattle.std.proofs.lemmas.List.Elements.{All-contains, Contains-get_or}
use Rattle.std.proofs.lemmas.Bool.{cases_eq}
use Rattle.tg_block.specs.Cells.{IsBlock, free_cell}
use Rattle.tg_word.specs.declared.Place.{Place}
use Rattle.tg_word.specs.Word.{link_to, place_in}
use Rattle.tg_space.specs.Closure.{IsInClosure}
use Rattle.tg_space.specs.Collection.{AreFewBlocks, Collected, IsNewPlace, IsForwarded, IsMadeInOld, IsCollection, new_place}
use Rattle.tg_space.specs.Generations.{AreInGenerations, NamesYoung}
use Rattle.tg_space.specs.SpaceList.{SpaceList, BlockList, IsSpaceList, cell_at, cells_of}
use Rattle.tg_space.specs.SpaceTable.{SpaceTable, IsSpaceTable, adopted, kept_blocks}
use Rattle.tg_space.specs.Targets.{from_space, all_root_targets, targets_of, image_of}
use Rattle.tg_space.specs.declared.kind.Kind.{Kind}
use Rattle.tg_space.specs.declared.kind.Kind.TheVariants.{Full, Nursery}
use Rattle.tg_space.specs.declared.root.Root.{Root}
use Rattle.tg_space.specs.declared.root.Root.TheVariants.{Remembered}
use Rattle.tg_space.proofs.Tables.{table_list}
use Rattle.tg_evac.specs.Win.{Win}
use Rattle.tg_evac.specs.Claims.{AreDistinctWins, Claimed, AreClaims, HasNewPlace, AreGivenInOrder, IsPlanFor, IsTracedFrom, IsWonIn, AreTraced, AreWordsOf, cells_won, won_in}
use Rattle.tg_evac.specs.Claimers.{copies_to}
use Rattle.tg_evac.specs.Copies.{HoldCells, HoldCopies, IsPlaceIn, copy_of, moved_cell, new_cell}
use Rattle.tg_evac.proofs.Claiming.{apart_of, each_word, few_blocks, have_places, in_room, pair_of}
use Rattle.tg_evac.proofs.Copying.{map_found, map_has}
use Rattle.tg_evac.proofs.Reasons.{all_in_old, are_aged}
use Rattle.tg_evac.proofs.InOrder.{copies_in_order, held_count, none_in_aged, none_young_block}
use Rattle.tg_evac.proofs.Adopted.{old_place, aged_place, new_is}

-- what the pairs of a whole collection are, whoever won them, and in whatever order
pub record AreWins (kind : Kind) (h : SpaceList) (roots : List Root) (forward : List ℕ) (won : List Win) : Type 0 where
  pub whole : length forward ≡ length (cells_of h)
  pub words : AreWordsOf won forward
  pub traced : AreTraced kind h roots won
  pub reached : (n : ℕ) → Contains (cells_won won) n ↔ IsInClosure (all_root_targets (from_space kind) h roots) (targets_of (from_space kind) h) n
  pub places : All (HasNewPlace (kept_blocks kind h)) won
  pub apart : AreDistinctWins won

-- the notes of these roots, and of these blocks of Old after as many others
abbrev pub AreNotes : Kind → SpaceList → List Root → List ℕ → ℕ → BlockList → List Place → Type 0
AreNotes kind h roots forward kept old notes = (p : Place) → Contains notes p ↔ ((Contains roots (Remembered p) × NamesYoung (moved_cell kind h forward p)) ⊎ (IsPlaceIn 0 kept old p × NamesYoung (new_cell kept old p)))

-- what their copies are, and what was noted
pub record AreCopies (kind : Kind) (h : SpaceList) (roots : List Root) (won : List Win) (made : Collected) : Type 0 where
  pub aged_copies : HoldCopies 1 0 (copy_of kind h made.forward) won made.aged
  pub old_copies : HoldCopies 0 (kept_blocks kind h) (copy_of kind h made.forward) won made.old
  pub none_aged : kind ≡ Full → made.aged ≡ []
  pub few : kept_blocks kind h + length made.old ≤ 2 ^ 20
  pub noted : AreNotes kind h roots made.forward (kept_blocks kind h) made.old made.notes

-- only a nursery collection copies to Aged
only_nursery : (kind : Kind) (h : SpaceList) (roots : List Root) (won : List Win) → AreTraced kind h roots won → (w : Win) → Contains won w → (place_in w.word).space ≡ 1 → kind ≡ Nursery
only_nursery Full h roots won traced w held aged = absurd (let zero_is = all_in_old h roots won traced w held in omega arith)
only_nursery Nursery h roots won traced w held aged = refl

in_generations : (kind : Kind) (h : SpaceList) (roots : List Root) (forward : List ℕ) (won : List Win) → IsSpaceList h → AreWins kind h roots forward won → AreInGenerations kind h roots forward
in_generations Full h roots forward won is are = λ c low some.
    let found = pair_of won forward are.words c (rw are.whole low) some in
    record { some = some; there = ap (λ (n : ℕ). (place_in n).space) found.3 ∙ all_in_old h roots won are.traced found.0 found.1 }
in_generations Nursery h roots forward won is are =
    are_aged h roots forward won is are.words (λ w held. (All-contains (HasNewPlace (kept_blocks Nursery h)) won w are.places held).two) are.traced are.whole

-- in a full collection no copy in Old names a young cell
pub none_young : (kind : Kind) (h : SpaceList) (roots : List Root) (forward : List ℕ) (won : List Win) → IsSpaceList h → AreWins kind h roots forward won → (old : BlockList) → HoldCopies 0 (kept_blocks kind h) (copy_of kind h forward) won old →
    kind ≡ Full → (p : Place) → IsPlaceIn 0 (kept_blocks kind h) old p → NamesYoung (new_cell (kept_blocks kind h) old p) → ⊥
none_young Full h roots forward won is are old hold full =
    let words = each_word (λ (word : ℕ). (place_in word).space ≡ 0) refl won forward are.words (λ k d low. all_in_old h roots won are.traced (get_or won k d) (Contains-get_or won k d low)) in
    none_young_block h forward (have_places 0 won forward are.words are.places) words won old is are.whole are.words.stand hold
none_young Nursery h roots forward won is are old hold full = absurd cc

module _ (kind : Kind) (h : SpaceList) (roots : List Root) (won : List Win) (made : Collected)
    (is : IsSpaceList h) (are : AreWins kind h roots made.forward won) (copies : AreCopies kind h roots won made) where
  abbrev forward : List ℕ
  forward = made.forward

  abbrev aged : BlockList
  aged = made.aged

  abbrev old : BlockList
  old = made.old

  stands : (w : Win) → Contains won w → IsWonIn forward w
  stands w held = All-contains (IsWonIn forward) won w are.words.stand held

  place_of_win : (w : Win) → Contains won w → HasNewPlace (kept_blocks kind h) w
  place_of_win w held = All-contains (HasNewPlace (kept_blocks kind h)) won w are.places held

  -- the copy of a pair is at its place
  copy_stands : (w : Win) → Contains won w → IsNewPlace kind h aged old (place_in w.word) × (cell_at (adopted kind h aged old) (place_in w.word) ≡ copy_of kind h forward w.cell)
  copy_stands w held = ⊎_elim
      (λ (in_old : (place_in w.word).space ≡ 0).
      let has = copies.old_copies.copied w held in_old in let there = old_place h aged old (place_in w.word) kind has.place in
      (there.0, there.1 ∙ has.words))
      (λ (other : (place_in w.word).space ≢ 0).
      let two = (place_of_win w held).two in
      let one : (place_in w.word).space ≡ 1 = omega arith in
      let has = copies.aged_copies.copied w held one in let there = aged_place h aged old (place_in w.word) has.place in
      let nursery : Nursery ≡ kind = sym (only_nursery kind h roots won are.traced w held one) in
      let at : cell_at (adopted Nursery h aged old) (place_in w.word) ≡ copy_of kind h forward w.cell = there.1 ∙ has.words in (
        subst (λ (k : Kind). IsNewPlace k h aged old (place_in w.word)) nursery there.0,
        subst (λ (k : Kind). cell_at (adopted k h aged old) (place_in w.word) ≡ copy_of kind h forward w.cell) nursery at,
      ))
      (cases_eq (place_in w.word).space 0)

  -- the pair of a forwarded cell
  pair : (c : ℕ) → IsForwarded h forward c → (w : Win) × Contains won w × (w.cell ≡ c) × (get_or forward c 0 ≡ w.word)
  pair c fw = pair_of won forward are.words c (rw are.whole fw.0) fw.1

  reached_ok : (c : ℕ) → c < length (cells_of h) → get_or forward c 0 ≢ 0 ↔ IsInClosure (all_root_targets (from_space kind) h roots) (targets_of (from_space kind) h) c
  reached_ok c low = (
    (λ some. let found = pair c (low, some) in (are.reached c).0 (subst (λ (n : ℕ). Contains (cells_won won) n) found.2 (map_has (λ (w : Win). w.cell) won found.0 found.1))),
    (λ r none.
        let found = map_found (λ (w : Win). w.cell) won c ((are.reached c).1 r) in
        let st = stands found.0 found.1 in
        st.some (sym st.word ∙ ap (λ (n : ℕ). get_or forward n 0) found.2 ∙ none)),
  )

  words_ok : (c : ℕ) → IsForwarded h forward c → get_or forward c 0 ≡ link_to (new_place forward c)
  words_ok c fw = let found = pair c fw in found.3 ∙ (place_of_win found.0 found.1).link ∙ ap (λ (n : ℕ). link_to (place_in n)) (sym found.3)

  placed_ok : (c : ℕ) → IsForwarded h forward c → IsNewPlace kind h aged old (new_place forward c)
  placed_ok c fw =
      let found = pair c fw in
      subst (λ (n : ℕ). IsNewPlace kind h aged old (place_in n)) (sym found.3) (copy_stands found.0 found.1).0

  copied_ok : (c : ℕ) → IsForwarded h forward c → cell_at (adopted kind h aged old) (new_place forward c) ≡ image_of (from_space kind) h (new_place forward) (get_or (cells_of h) c [])
  copied_ok c fw =
      let found = pair c fw in
      ap (λ (n : ℕ). cell_at (adopted kind h aged old) (place_in n)) found.3 ∙ (copy_stands found.0 found.1).1 ∙ ap (copy_of kind h forward) found.2

  apart_ok : (c d : ℕ) → IsForwarded h forward c → d < length (cells_of h) → get_or forward c 0 ≡ get_or forward d 0 → c ≡ d
  apart_ok c d fw low e =
      let other : IsForwarded h forward d = (low, λ z. fw.1 (e ∙ z)) in
      let x = pair c fw in let y = pair d other in
      sym x.2 ∙ are.apart x.0 y.0 x.1 y.1 (sym x.3 ∙ e ∙ y.3) ∙ y.2

  -- no pair has a place to which no cell goes
  no_pair : (p : Place) → ((c : ℕ) → c < length (cells_of h) → get_or forward c 0 ≢ link_to p) → (w : Win) → Contains won w → place_in w.word ≢ p
  no_pair p none w held e =
      let st = stands w held in
      none w.cell (rw (← are.whole) st.cell) (st.word ∙ (place_of_win w held).link ∙ ap link_to e)

  rest_ok : (p : Place) → IsNewPlace kind h aged old p → ((c : ℕ) → c < length (cells_of h) → get_or forward c 0 ≢ link_to p) → cell_at (adopted kind h aged old) p ≡ free_cell
  rest_ok p new none = ⊎_elim
      (λ (in_old : IsPlaceIn 0 (kept_blocks kind h) old p). (old_place h aged old p kind in_old).1 ∙ copies.old_copies.rest p in_old (no_pair p none))
      (λ in_aged.
      let free = (aged_place h aged old p in_aged.1).1 ∙ copies.aged_copies.rest p in_aged.1 (no_pair p none) in
      subst (λ (k : Kind). cell_at (adopted k h aged old) p ≡ free_cell) (sym in_aged.0) free)
      (new_is h aged old p kind new)

  -- ---- notes

  noted_ok : (p : Place) → Contains made.notes p ↔ ((words : List ℕ) × IsMadeInOld kind h roots forward aged old p words × NamesYoung words)
  noted_ok p = (forth, back)
    where
      forth : Contains made.notes p → (words : List ℕ) × IsMadeInOld kind h roots forward aged old p words × NamesYoung words
      forth held = ⊎_elim
          (λ root. (moved_cell kind h forward p, inr (root.0, refl), root.1))
          (λ copy.
          let there = old_place h aged old p kind copy.0 in
          (cell_at (adopted kind h aged old) p, inl (there.0, copy.0.space, refl), subst (λ (ws : List ℕ). NamesYoung ws) (sym there.1) copy.1))
          ((copies.noted p).0 held)

      back : ((words : List ℕ) × IsMadeInOld kind h roots forward aged old p words × NamesYoung words) → Contains made.notes p
      back made = ⊎_elim
          (λ copy. ⊎_elim
          (λ (in_old : IsPlaceIn 0 (kept_blocks kind h) old p).
          (copies.noted p).1 (inr (in_old, subst (λ (ws : List ℕ). NamesYoung ws) (copy.2 ∙ (old_place h aged old p kind in_old).1) made.2)))
          (λ in_aged. absurd (let one = in_aged.1.space in let zero_is = copy.1 in omega arith))
          (new_is h aged old p kind copy.0))
          (λ root. (copies.noted p).1 (inl (root.0, subst (λ (ws : List ℕ). NamesYoung ws) root.1 made.2)))
          made.1

  pub is_collection : IsCollection kind h roots made
  is_collection = record {
    whole = are.whole;
    reached = reached_ok;
    words = words_ok;
    placed = placed_ok;
    generations = in_generations kind h roots forward won is are;
    copied = copied_ok;
    apart = apart_ok;
    rest = rest_ok;
    noted = noted_ok;
    none_aged = copies.none_aged;
    few = copies.few;
  }

-- ---- from the claims

-- the claims of all that the roots reach
pub record AreEnded (kind : Kind) (t : SpaceTable) (roots : List Root) (c : Claimed) : Type 0 where
  pub table : IsSpaceTable t
  pub plan : IsPlanFor kind t c.plan
  pub claims : AreClaims c
  pub traced : IsTracedFrom kind t.spaces roots c

-- the blocks of Aged and of Old with the copies
pub record AreFilled (kind : Kind) (h : SpaceList) (c : Claimed) (aged old : BlockList) : Type 0 where
  pub aged_whole : All IsBlock aged
  pub old_whole : All IsBlock old
  pub in_aged : HoldCells (copies_to 1 kind h (new_place c.forward) c.won) aged
  pub in_old : HoldCells (copies_to 0 kind h (new_place c.forward) c.won) old

module _ (kind : Kind) (t : SpaceTable) (roots : List Root) (c : Claimed) (ended : AreEnded kind t roots c) where
  abbrev claims : AreClaims c
  claims = ended.claims

  abbrev kept : ℕ
  kept = kept_blocks kind t.spaces

  kept_is : c.plan.kept ≡ kept
  kept_is = ended.plan.kept

  -- what they are, whoever won them
  wins : AreWins kind t.spaces roots c.forward c.won
  wins = record {
    whole = ended.traced.whole;
    words = claims.words;
    traced = ended.traced.traced;
    reached = ended.traced.reached;
    places = subst (λ (n : ℕ). All (HasNewPlace n) c.won) kept_is claims.places;
    apart = apart_of c.won claims.apart;
  }

  -- there are few enough copies of either space
  pub few_copies : (space : ℕ) → space < 2 → length (copies_to space kind t.spaces (new_place c.forward) c.won) ≤ 2 ^ 26
  few_copies space two = rw length-map (in_room c claims space two)

  module _ (aged old : BlockList) (filled : AreFilled kind t.spaces c aged old) where
    abbrev copy : ℕ → List ℕ
    copy = copy_of kind t.spaces c.forward

    -- the blocks have room for the copies and a few more
    count_of : (space : ℕ) (blocks : BlockList) → All IsBlock blocks → (held : HoldCells (copies_to space kind t.spaces (new_place c.forward) c.won) blocks) → 64 * length blocks ≡ length (won_in space c.won) + held.free
    count_of space blocks whole held =
        held_count (map (λ (w : Win). copy w.cell) (won_in space c.won)) blocks held whole ∙ ap (λ (n : ℕ). n + held.free) (length-map (won_in space c.won) (λ (w : Win). copy w.cell))

    aged_count : 64 * length aged ≡ length (won_in 1 c.won) + filled.in_aged.free
    aged_count = count_of 1 aged filled.aged_whole filled.in_aged

    old_count : 64 * length old ≡ length (won_in 0 c.won) + filled.in_old.free
    old_count = count_of 0 old filled.old_whole filled.in_old

    pub few : (notes : List Place) → AreFewBlocks t.limits.space_blocks kept 0 (record { forward = c.forward; aged = aged; old = old; notes = notes })
    few notes = few_blocks c claims t.limits.space_blocks kept filled.in_aged.free filled.in_old.free ended.plan.room kept_is aged old notes aged_count filled.in_aged.few old_count filled.in_old.few

    aged_copies : HoldCopies 1 0 copy c.won aged
    aged_copies = copies_in_order 1 0 (lit< tt) c.won (claims.in_order 1 (lit< tt)) (let room = in_room c claims 1 (lit< tt) in omega arith) copy aged filled.aged_whole filled.in_aged

    old_copies : HoldCopies 0 kept copy c.won old
    old_copies =
        let ends = claims.ends 0 (lit< tt) in let room = claims.few 0 in
        copies_in_order 0 kept (lit< tt) c.won (subst (λ (n : ℕ). AreGivenInOrder 0 (64 * n) (won_in 0 c.won)) kept_is (claims.in_order 0 (lit< tt)))
        (let same = kept_is in omega arith) copy old filled.old_whole filled.in_old

    none_aged : kind ≡ Full → aged ≡ []
    none_aged full =
        let none = none_in_aged t.spaces roots c.won (subst (λ (k : Kind). AreTraced k t.spaces roots c.won) full ended.traced.traced) in
        let count = aged_count in let free = filled.in_aged.few in
        nil_from_length aged (omega arith)

    pub old_few : c.plan.kept + length old ≤ 2 ^ 20
    old_few =
        let ends = claims.ends 0 (lit< tt) in let room = claims.few 0 in let count = old_count in let free = filled.in_old.few in
        omega arith

    pub none_young_in : kind ≡ Full → (p : Place) → IsPlaceIn 0 c.plan.kept old p → NamesYoung (new_cell c.plan.kept old p) → ⊥
    none_young_in full =
        subst (λ (n : ℕ). (p : Place) → IsPlaceIn 0 n old p → NamesYoung (new_cell n old p) → ⊥) (sym kept_is) (none_young kind t.spaces roots c.forward c.won (table_list t ended.table) wins old old_copies full)

    pub collected : (notes : List Place) → AreNotes kind t.spaces roots c.forward c.plan.kept old notes → IsCollection kind t.spaces roots (record { forward = c.forward; aged = aged; old = old; notes = notes })
    collected notes noted = is_collection kind t.spaces roots c.won (record { forward = c.forward; aged = aged; old = old; notes = notes }) (table_list t ended.table) wins
        (record {
          aged_copies = aged_copies;
          old_copies = old_copies;
          none_aged = none_aged;
          few = subst (λ (n : ℕ). n + length old ≤ 2 ^ 20) kept_is old_few;
          noted = subst (λ (n : ℕ). AreNotes kind t.spaces roots c.forward n old notes) kept_is noted;
        })

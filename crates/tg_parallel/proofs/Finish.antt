-- What one record that represents all has won is a collection, where it is complete and its table was closed.
use Rattle.std.proofs.Common.{◌≡◌, ◌≢◌, ℕ, ◌+◌, ◌-◌, ◌/◌, ◌^◌, ◌<◌, ◌≤◌, ◌==◌, if◌then◌else◌, nat_lt, List, [], ◌∷◌, Bool, true, false, IsTrue, length, get_or, map, refl, sym, ap, subst, ◌∙◌, eqb-true, ⊎_elim, arith}
use Rattle.std.specs.List.{All, Contains}
use Rattle.std.proofs.lemmas.Bool.{cases_lt, cases_eq, and_parts}
use Rattle.std.proofs.lemmas.Bool.Decides.{nat_tests}
use Rattle.std.proofs.lemmas.List.{get_or_past}
use Rattle.std.proofs.lemmas.List.Elements.{All-contains, All-get_or, All-map, All-weaker, Contains-get_or, Contains-append_right, Contains-append_cases}
use Rattle.tg_word.specs.declared.Place.{Place}
use Rattle.tg_word.specs.Word.{IsPlace, link_to, place_in}
use Rattle.tg_block.specs.Cells.{cell_of, free_cell}
use Rattle.tg_space.specs.Closure.{IsComplete}
use Rattle.tg_space.specs.Collection.{Collected, IsCollection, new_place}
use Rattle.tg_space.specs.Generations.{NamesYoung}
use Rattle.tg_space.specs.SpaceList.{BlockList, IsSpace, SpaceList, cells_of}
use Rattle.tg_space.specs.SpaceTable.{SpaceTable, IsSpaceTable, kept_blocks}
use Rattle.tg_space.specs.Targets.{from_space, targets_of, root_targets_of, all_root_targets}
use Rattle.tg_space.specs.declared.kind.Kind.{Kind}
use Rattle.tg_space.specs.declared.kind.Kind.TheVariants.{Full, Nursery}
use Rattle.tg_space.specs.declared.root.Root.{Root}
use Rattle.tg_space.proofs.Tables.{table_list}
use Rattle.tg_space.proofs.Tracing.{closure_is_won}
use Rattle.tg_race.specs.declared.record.Counts.{Counts}
use Rattle.tg_race.specs.declared.record.Record.{Record}
use Rattle.tg_race.specs.Board.{IsClosedTable}
use Rattle.tg_race.specs.Race.{AreConsecutive, chunks_of, is_chunk, owns}
use Rattle.tg_race.specs.Weights.{weigh}
use Rattle.tg_race.specs.Words.{AGED, OLD, IsPair, place_of, has_pair, same_pair, same_place}
use Rattle.tg_race.proofs.Closed.{consecutive, one_cell}
use Rattle.tg_race.proofs.Drawn.{number_found}
use Rattle.tg_race.proofs.PlaceWords.{word_of-some}
use Rattle.tg_race.proofs.Standing.{closed_pairs}
use Rattle.tg_evac.specs.Win.{Win}
use Rattle.tg_evac.specs.Claims.{AreDistinctWins, AreTraced, AreWordsOf, HasNewPlace, IsWonIn, cells_won}
use Rattle.tg_evac.specs.Copies.{HasCopy, HavePlaces, HoldCopies, IsPlaceIn, copy_of, new_cell}
use Rattle.tg_evac.proofs.Collecting.{AreNotes, AreWins, is_collection, none_young}
use Rattle.tg_evac.proofs.Claiming.{have_places}
use Rattle.tg_evac.proofs.Copying.{map_found, map_has, same_place as place_from}
use Rattle.tg_evac.proofs.Reasons.{all_in_old, traced_cells}
use Rattle.tg_parallel.specs.Merged.{AreInOrder, AreMerged}
use Rattle.tg_parallel.specs.Whole.{IsWholePart}
use Rattle.tg_parallel.specs.Parts.{AreImages, HasCopies, HasPlaces, Numbered, cells_met, numbers_of, roots_in, roots_of_chunk, win_of, wins_of}
use Rattle.tg_parallel.proofs.Joins.{owned_aged, owned_old}
use Rattle.tg_parallel.proofs.Lists.{any_found, chunk_has, flat_found, flat_has, once_differ}
use Rattle.tg_parallel.proofs.Room.{blocks_long, numbers_within}
use Rattle.tg_parallel.proofs.Wins.{link_is, place_back, traced_all, won_has, won_inside, won_word}

-- what is handed over may be merged, and each word has a place
pub record MayMerge (kept : ℕ) (words : List ℕ) (aged old : Numbered) : Type 0 where
  pub aged_few : length aged ≤ 2 ^ 20
  pub old_few : length old ≤ 2 ^ 20
  pub in_aged : AreConsecutive 0 (numbers_of aged)
  pub in_old : AreConsecutive kept (numbers_of old)
  pub places : HavePlaces words

-- a chunk past the last, where one was claimed
past_found : (k : Counts) (xs : List ℕ) → 0 < weigh (λ c. if is_chunk k c then 0 else 1) xs → (c : ℕ) × Contains xs c × (chunks_of k ≤ c)
past_found k [] h = absurd (omega arith)
past_found k (x ∷ xs) h = go (nat_lt x (chunks_of k)) refl h (past_found k xs)
  where
    go : (b : Bool) → nat_lt x (chunks_of k) ≡ b → 0 < (if b then 0 else 1) + weigh (λ c. if is_chunk k c then 0 else 1) xs → (0 < weigh (λ c. if is_chunk k c then 0 else 1) xs → (c : ℕ) × Contains xs c × (chunks_of k ≤ c)) → (c : ℕ) × Contains (x ∷ xs) c × (chunks_of k ≤ c)
    go true e h more = let found = more (omega arith) in (found.0, Contains-append_right (x ∷ []) xs found.0 found.1, found.2)
    go false e h more = (x, (0, omega arith, refl), grind (arith, nat_tests))

-- ---- the blocks in order are the copies in the new blocks of a space

module _ (space start : ℕ) (copy : ℕ → List ℕ) (won : List (ℕ × Place)) (blocks : Numbered) (numbers : AreConsecutive start (numbers_of blocks)) (sorted : BlockList) (order : AreInOrder start blocks sorted)
    (all : All (HasCopies space copy won) blocks) (mine : (q : ℕ × Place) → Contains won q → q.1.space ≡ space → Contains (numbers_of blocks) q.1.block) (inside : (q : ℕ × Place) → Contains won q → IsPlace q.1) where
  sorted_long : length sorted ≡ length (numbers_of blocks)
  sorted_long = order.as_many ∙ blocks_long blocks (numbers_of blocks) refl

  within : (n : ℕ) → Contains (numbers_of blocks) n → (start ≤ n) × (n - start < length sorted)
  within n held =
      let is = (numbers.exactly n).0 held in let from = is.0 in let below = is.1 in let long = sorted_long in
      (from, omega arith)

  -- the block with a number is at its place
  sorted_is : (n : ℕ) (found : (b : ℕ × List (List ℕ)) × Contains blocks b × (b.0 ≡ n)) → get_or sorted (n - start) [] ≡ found.0.1
  sorted_is n found = ap (λ (m : ℕ). get_or sorted (m - start) []) (sym found.2) ∙ All-contains (λ (b : ℕ × List (List ℕ)). get_or sorted (b.0 - start) [] ≡ b.1) blocks found.0 order.each found.1

  copy_there : (q : ℕ × Place) → Contains won q → q.1.space ≡ space → IsPlaceIn space start sorted q.1 × (new_cell start sorted q.1 ≡ copy q.0)
  copy_there q held s =
      let number = mine q held s in
      let found = map_found (λ (b : ℕ × List (List ℕ)). b.0) blocks q.1.block number in
      let low = within q.1.block number in
      let has = All-contains (HasCopies space copy won) blocks found.0 all found.1 in (
        record { space = s; behind = low.0; block = low.1; cell = (inside q held).cell },
        ap (λ (b : List (List ℕ)). cell_of b q.1.cell) (sorted_is q.1.block found) ∙ has.copied q held s (sym found.2),
      )

  copied : (w : Win) → Contains (wins_of won) w → (place_in w.word).space ≡ space → HasCopy space start copy sorted w
  copied w held s =
      let found = map_found win_of won w held in
      let q : ℕ × Place = found.0 in
      let back : place_in w.word ≡ q.1 = ap (λ (x : Win). place_in x.word) (sym found.2) ∙ place_back q.1 (inside q found.1) in
      let there = copy_there q found.1 (sym (ap (λ (p : Place). p.space) back) ∙ s) in
      record {
        place = subst (λ (p : Place). IsPlaceIn space start sorted p) (sym back) there.0;
        words = ap (new_cell start sorted) back ∙ there.1 ∙ ap (λ (x : Win). copy x.cell) found.2;
      }

  rest : (p : Place) → IsPlaceIn space start sorted p → ((w : Win) → Contains (wins_of won) w → place_in w.word ≢ p) → new_cell start sorted p ≡ free_cell
  rest p place none =
      let low = place.block in let behind = place.behind in let long = sorted_long in
      let found = map_found (λ (b : ℕ × List (List ℕ)). b.0) blocks p.block ((numbers.exactly p.block).1 (behind, omega arith)) in
      let has = All-contains (HasCopies space copy won) blocks found.0 all found.1 in
      ap (λ (b : List (List ℕ)). cell_of b p.cell) (sorted_is p.block found)
      ∙ has.rest p.cell place.cell (λ q held s e c.
      none (win_of q) (map_has win_of won q held) (place_back q.1 (inside q held) ∙ place_from q.1 p (s ∙ sym place.space) (e ∙ found.2) c))

  hold_copies : HoldCopies space start copy (wins_of won) sorted
  hold_copies = record { copied = copied; rest = rest }

-- ---- the words of the table

module _ (k : Counts) (words : List ℕ) (done : Record) (closed : IsClosedTable k words done) where
  link_some : (p : Place) → link_to p ≢ 0
  link_some p e = word_of-some p (link_is p ∙ e)

  -- a cell with a word is one of the table
  inside_words : (c : ℕ) → get_or words c 0 ≢ 0 → c < length words
  inside_words c some = ⊎_elim (λ lt. lt) (λ (past : length words ≤ c). absurd (some (get_or_past words c 0 past))) (cases_lt c (length words))

  -- the pair of a cell with a word
  owner : (c : ℕ) → get_or words c 0 ≢ 0 → (q : ℕ × Place) × Contains done.won q × (q.0 ≡ c)
  owner c some =
      let forward = closed.rule.wins_once.forward c 0 (inside_words c some) some in
      let p : Place = place_of (get_or words c 0) in
      let found = any_found (same_pair c p) done.won ((closed_pairs k words done closed c p forward.0).0 (sym forward.1)) in
      (found.0, found.1, eqb-true found.0.0 c (and_parts (found.0.0 == c) (same_place found.0.1 p) found.2).0)

  are_words : AreWordsOf (wins_of done.won) words
  are_words = record {
    stand = All-map (IsWonIn words) win_of done.won (λ i d low.
        let q : ℕ × Place = get_or done.won i d in
        let word = won_word k words done closed q (Contains-get_or done.won i d low) in
        let some : get_or words q.0 0 ≢ 0 = λ z. link_some q.1 (sym word ∙ z) in
        record { cell = inside_words q.0 some; word = word; some = link_some q.1 });
    every = λ c low some. let found = owner c some in (win_of found.0, map_has win_of done.won found.0 found.1, found.2);
  }

  apart : AreDistinctWins (wins_of done.won)
  apart v w hv hw e =
      let x = map_found win_of done.won v hv in
      let y = map_found win_of done.won w hw in
      let same : x.0.1 ≡ y.0.1 = sym (place_back x.0.1 (won_inside k words done closed x.0 x.1)) ∙ ap (λ (u : Win). place_in u.word) x.2 ∙ ap place_in e ∙ sym (ap (λ (u : Win). place_in u.word) y.2) ∙ place_back y.0.1 (won_inside k words done closed y.0 y.1) in
      let here = won_has k words done closed x.0 x.1 in
      let there : IsTrue (has_pair y.0.0 x.0.1 done.won) = subst (λ (p : Place). IsTrue (has_pair y.0.0 p done.won)) (sym same) (won_has k words done closed y.0 y.1) in
      sym (ap (λ (u : Win). u.cell) x.2) ∙ one_cell k words done closed x.0.0 y.0.0 x.0.1 here there ∙ ap (λ (u : Win). u.cell) y.2

  -- what was met was won
  won_cell : (q : ℕ × Place) (c : ℕ) → Contains done.won q → q.0 ≡ c → Contains (cells_won (wins_of done.won)) c
  won_cell q c held is = subst (λ (n : ℕ). Contains (cells_won (wins_of done.won)) n) is (map_has (λ (w : Win). w.cell) (wins_of done.won) (win_of q) (map_has win_of done.won q held))

  met_won : (c : ℕ) → Contains (cells_met done) c → Contains (cells_won (wins_of done.won)) c
  met_won c held = ⊎_elim
      (λ won. let found = map_found (λ (q : ℕ × Place). q.0) done.won c won in won_cell found.0 c found.1 found.2)
      (λ seen.
      let found = map_found (λ (q : ℕ × Place). q.0) done.seen c seen in
      let stands = All-contains (IsPair words) done.seen found.0 (closed.rule.seen_stands 0 done refl) found.1 in
      let some : get_or words found.0.0 0 ≢ 0 = λ z. word_of-some found.0.1 (sym stands ∙ z) in
      let mine = owner found.0.0 some in
      won_cell mine.0 c mine.1 (mine.2 ∙ found.2))
      (Contains-append_cases (map (λ (q : ℕ × Place). q.0) done.won) (map (λ (q : ℕ × Place). q.0) done.seen) c held)

  -- the table has the places that were won and seen
  has_places : HasPlaces done (new_place words)
  has_places = record {
    won = λ i d low inside. ap place_in (won_word k words done closed (get_or done.won i d) (Contains-get_or done.won i d low)) ∙ place_back (get_or done.won i d).1 inside;
    seen = λ i d low inside. ap place_in (closed.rule.seen_stands 0 done refl i d low ∙ link_is (get_or done.seen i d).1) ∙ place_back (get_or done.seen i d).1 inside;
  }

  numbers_aged : AreConsecutive 0 done.aged_blocks
  numbers_aged = consecutive 0 closed.next_aged (λ v. v.aged_blocks) done closed.rule.blocks_once.0

  numbers_old : AreConsecutive k.kept done.old_blocks
  numbers_old = consecutive k.kept closed.next_old (λ v. v.old_blocks) done closed.rule.blocks_once.1

-- ---- the joined record

module _ (kind : Kind) (t : SpaceTable) (roots : List Root) (k : Counts) (words : List ℕ) (done : Record) (aged old : Numbered)
    (table : IsSpaceTable t) (limit : t.limits.space_blocks ≤ 2 ^ 20) (whole : IsWholePart kind t roots k words done aged old) where
  abbrev h : SpaceList
  h = t.spaces

  abbrev wins : List Win
  wins = wins_of done.won

  abbrev kept : ℕ
  kept = kept_blocks kind t.spaces

  -- all roots were claimed
  covers : (r : Root) → Contains roots r → Contains (roots_in roots done.chunks) r
  covers r held =
      let behind = past_found k done.chunks whole.last in
      let chunks = consecutive 0 whole.closed.next_chunk (λ (v : Record). v.chunks) done whole.closed.rule.chunks_once in
      let below = ((chunks.exactly behind.0).0 behind.1).1 in
      let inside = held.1 in
      let many = whole.counts.root_count in
      let beyond = behind.2 in
      let c = (length roots - 1 - held.0) / 8 in
      let chunk : c < 0 + length done.chunks = omega arith in
      flat_has (roots_of_chunk roots) done.chunks c r ((chunks.exactly c).1 (omega arith, chunk)) (chunk_has roots held.0 r held.1 held.2 c refl)

  complete : IsComplete (all_root_targets (from_space kind) h roots) (targets_of (from_space kind) h) (cells_won wins)
  complete = (
    (λ i d low.
        let c : ℕ = get_or (all_root_targets (from_space kind) h roots) i d in
        let found = flat_found (root_targets_of (from_space kind) h) roots c (Contains-get_or (all_root_targets (from_space kind) h roots) i d low) in
        met_won k words done whole.closed c (All-contains (Contains (cells_met done)) (all_root_targets (from_space kind) h (roots_in roots done.chunks)) c whole.part.met.from_roots
        (flat_has (root_targets_of (from_space kind) h) (roots_in roots done.chunks) found.0 c (covers found.0 found.1) found.2))),
    (λ i low.
        let c : ℕ = get_or (cells_won wins) i 0 in
        let win = map_found (λ (w : Win). w.cell) wins c (Contains-get_or (cells_won wins) i 0 low) in
        let pair = map_found win_of done.won win.0 win.1 in
        let is : pair.0.0 ≡ c = ap (λ (w : Win). w.cell) pair.2 ∙ win.2 in
        let met = All-contains (λ (q : ℕ × Place). All (Contains (cells_met done)) (targets_of (from_space kind) h q.0)) done.won pair.0 whole.part.met.from_cells pair.1 in
        subst (λ (n : ℕ). All (Contains (cells_won wins)) (targets_of (from_space kind) h n)) is (All-weaker (Contains (cells_met done)) (Contains (cells_won wins)) (met_won k words done whole.closed) (targets_of (from_space kind) h pair.0.0) met)),
  )

  traced : AreTraced kind h roots wins
  traced = traced_all kind h roots done whole.earned

  -- ---- places

  own : (q : ℕ × Place) → Contains done.won q → owns done q.1 ≡ true
  own q held = All-contains (λ (p : ℕ × Place). owns done p.1 ≡ true) done.won q whole.part.owned held

  in_aged_numbers : (q : ℕ × Place) → Contains done.won q → q.1.space ≡ 1 → Contains done.aged_blocks q.1.block
  in_aged_numbers q held s = number_found q.1.block done.aged_blocks (owned_aged done q.1 (own q held) s)

  in_old_numbers : (q : ℕ × Place) → Contains done.won q → q.1.space ≡ 0 → Contains done.old_blocks q.1.block
  in_old_numbers q held s = number_found q.1.block done.old_blocks (owned_old done q.1 (own q held) s)

  two : (p : Place) → owns done p ≡ true → p.space < 2
  two p mine = ⊎_elim (λ (one : p.space ≡ 1). omega arith) (λ (n : p.space ≢ 1). ⊎_elim (λ (z : p.space ≡ 0). omega arith)
      (λ (m : p.space ≢ 0). absurd (let a : (p.space == AGED) ≡ false = grind (arith, nat_tests) in let b : (p.space == OLD) ≡ false = grind (arith, nat_tests) in let e = rw (a, b) at mine in cc))
      (cases_eq p.space 0)) (cases_eq p.space 1)

  kept_old : AreConsecutive kept done.old_blocks
  kept_old = subst (λ (n : ℕ). AreConsecutive n done.old_blocks) whole.counts.kept (numbers_old k words done whole.closed)

  places : All (HasNewPlace kept) wins
  places = All-map (HasNewPlace kept) win_of done.won (λ i d low.
      let q : ℕ × Place = get_or done.won i d in
      let held : Contains done.won q = Contains-get_or done.won i d low in
      let back = place_back q.1 (won_inside k words done whole.closed q held) in
      record {
        place = subst (λ (p : Place). IsPlace p) (sym back) (won_inside k words done whole.closed q held);
        link = ap link_to (sym back);
        two = subst (λ (p : Place). p.space < 2) (sym back) (two q.1 (own q held));
        behind = subst (λ (p : Place). p.space ≡ 0 → kept ≤ p.block) (sym back) (λ z. ((kept_old.exactly q.1.block).0 (in_old_numbers q held z)).0);
      })

  long : length words ≡ length (cells_of h)
  long = whole.closed.rule.size ∙ whole.counts.cells

  are_wins : AreWins kind h roots words wins
  are_wins = record {
    whole = long;
    words = are_words k words done whole.closed;
    traced = traced;
    reached = closure_is_won (all_root_targets (from_space kind) h roots) (targets_of (from_space kind) h) (cells_won wins) (traced_cells kind h roots wins traced) complete;
    places = places;
    apart = apart k words done whole.closed;
  }

  -- ---- copies

  images : AreImages kind h done aged old (new_place words)
  images = whole.part.images (once_differ done.aged_blocks (numbers_aged k words done whole.closed).differ) (once_differ done.old_blocks (numbers_old k words done whole.closed).differ) (new_place words) (has_places k words done whole.closed)

  kept_few : kept ≤ 2 ^ 20
  kept_few = by_kind kind
    where
      by_kind : (kd : Kind) → kept_blocks kd h ≤ 2 ^ 20
      by_kind Full = omega arith
      by_kind Nursery = (All-get_or IsSpace h 0 [] (let some = table.enough in omega arith) table.blocks).0

  numbered_aged : AreConsecutive 0 (numbers_of aged)
  numbered_aged = subst (λ (l : List ℕ). AreConsecutive 0 l) (sym whole.part.aged_numbers) (numbers_aged k words done whole.closed)

  numbered_old : AreConsecutive kept (numbers_of old)
  numbered_old = subst (λ (l : List ℕ). AreConsecutive kept l) (sym whole.part.old_numbers) kept_old

  -- what is asked of the blocks before they are put in order, and of the words
  pub may_merge : MayMerge kept words aged old
  may_merge = record {
    aged_few = let low = numbers_within 0 done.aged_blocks (numbers_aged k words done whole.closed) t.limits.space_blocks whole.part.aged_few in omega (arith, blocks_long aged done.aged_blocks whole.part.aged_numbers);
    old_few = let low = numbers_within kept done.old_blocks kept_old t.limits.space_blocks whole.part.old_few in omega (arith, blocks_long old done.old_blocks whole.part.old_numbers);
    in_aged = numbered_aged;
    in_old = numbered_old;
    places = have_places kept wins words are_wins.words places;
  }

  module _ (aged_blocks old_blocks : BlockList) (merged : AreMerged kind kept aged old aged_blocks old_blocks) where
    pub few : kept + length old_blocks ≤ 2 ^ 20
    few =
        let low = numbers_within kept done.old_blocks kept_old t.limits.space_blocks whole.part.old_few in
        let at = kept_few in
        omega (arith, merged.in_old.as_many, blocks_long old done.old_blocks whole.part.old_numbers)

    old_copies : HoldCopies 0 kept (copy_of kind h words) wins old_blocks
    old_copies = hold_copies 0 kept (copy_of kind h words) done.won old numbered_old old_blocks merged.in_old images.in_old
        (λ q held s. subst (λ (l : List ℕ). Contains l q.1.block) (sym whole.part.old_numbers) (in_old_numbers q held s)) (won_inside k words done whole.closed)

    aged_copies : HoldCopies 1 0 (copy_of kind h words) wins aged_blocks
    aged_copies = by_kind kind refl
      where
        by_kind : (kd : Kind) → kind ≡ kd → HoldCopies 1 0 (copy_of kind h words) wins aged_blocks
        by_kind Full is =
            let none = merged.none_aged is in
            let to_old = all_in_old h roots wins (subst (λ (kd : Kind). AreTraced kd h roots wins) is traced) in
            record {
              copied = λ w held s. absurd (let z = to_old w held in omega arith);
              rest = λ p place _. absurd (let low = place.block in let long = ap (λ (bs : BlockList). length bs) none in omega arith);
            }
        by_kind Nursery is = hold_copies 1 0 (copy_of kind h words) done.won aged numbered_aged aged_blocks (merged.in_aged is) images.in_aged
            (λ q held s. subst (λ (l : List ℕ). Contains l q.1.block) (sym whole.part.aged_numbers) (in_aged_numbers q held s)) (won_inside k words done whole.closed)

    -- in a full collection no copy in Old names a young cell
    pub none_young_in : kind ≡ Full → (p : Place) → IsPlaceIn 0 kept old_blocks p → NamesYoung (new_cell kept old_blocks p) → ⊥
    none_young_in = none_young kind h roots words wins (table_list t table) are_wins old_blocks old_copies

-- ---- the collection

module _ (kind : Kind) (t : SpaceTable) (roots : List Root) (k : Counts) (done : Record) (aged old : Numbered) (made : Collected)
    (table : IsSpaceTable t) (limit : t.limits.space_blocks ≤ 2 ^ 20) (whole : IsWholePart kind t roots k made.forward done aged old)
    (merged : AreMerged kind (kept_blocks kind t.spaces) aged old made.aged made.old) (noted : AreNotes kind t.spaces roots made.forward (kept_blocks kind t.spaces) made.old made.notes) where
  pub finished : IsCollection kind t.spaces roots made
  finished = is_collection kind t.spaces roots (wins_of done.won) made (table_list t table) (are_wins kind t roots k made.forward done aged old table limit whole)
      (record {
        aged_copies = aged_copies kind t roots k made.forward done aged old table limit whole made.aged made.old merged;
        old_copies = old_copies kind t roots k made.forward done aged old table limit whole made.aged made.old merged;
        none_aged = merged.none_aged;
        few = few kind t roots k made.forward done aged old table limit whole made.aged made.old merged;
        noted = noted;
      })

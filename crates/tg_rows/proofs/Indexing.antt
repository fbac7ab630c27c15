-- The names and the cells of a row, one after the other, and the index that is made of them.
use Rattle.std.proofs.Common.{◌≡◌, ◌≢◌, ℕ, zero, suc, ◌+◌, ◌-◌, ◌<◌, ◌≤◌, ◌⊎◌, inl, inr, ◌==◌, not, true, false, List, [], ◌∷◌, ◌++◌, Option, Some, None, length, get_or, map, take, drop, refl, sym, ap, subst, arith, ◌∙◌, ⊎_elim}
use Rattle.std.specs.Prelude.{slice_index}
use Rattle.std.specs.List.{AllPairs, Contains}
use Rattle.std.proofs.lemmas.Bool.{cases_lt}
use Rattle.std.proofs.lemmas.Bool.Decides.{Decides-eqb, eqb_tells}
use Rattle.std.proofs.lemmas.List.{get_or_past, get_or-map, length-map, map-append}
use Rattle.std.proofs.lemmas.List.Elements.{Contains-get_or}
use Rattle.std.proofs.lemmas.Map.Made.{AllPairs-from_IsDistinct}
use Rattle.tg_word.specs.declared.Place.{Place}
use Rattle.tg_word.specs.Word.{place_in}
use Rattle.tg_block.specs.declared.CellKind.TheVariants.{Object}
use Rattle.tg_space.specs.SpaceList.{SpaceList, cell_at, cells_of}
use Rattle.tg_space.specs.Soundness.{IsKindAt}
use Rattle.tg_space.specs.Rows.{chunks_from, link_at, row_of}
use Rattle.tg_payload.specs.Table.{Payloads}
use Rattle.tg_index.specs.Slots.{Slots, IsEachNameOnce, IsIndexOf, listed_row}
use Rattle.tg_space.specs.Targets.{first_pointer}
use Rattle.tg_rows.specs.Graph.{IsGraph}
use Rattle.tg_rows.specs.Index.{IsRowIndex, row_slots, name_referred}
use Rattle.tg_rows.specs.Rows.{IsRow, name_in, names_in, row_words, words_of}
use Rattle.tg_rows.proofs.Finding.{referring}
use Rattle.tg_rows.proofs.Indexed.{slot_some}
use Rattle.tg_rows.proofs.IndexKept.{index_same}
use Rattle.tg_rows.proofs.Members.{Contains-filter, Contains-map}
use Rattle.tg_rows.proofs.Slots.{names_in-some, names_in-zero}
use Rattle.tg_rows.proofs.Walks.{IsGathered, IsInRow, gather_ends, gather_goes_on, rest_ends, rest_goes_on, rest_of, row_begins, row_goes_on, words_pushed, words_split}

-- ---- a walk that lists a row

-- the names and the cells of a row were listed up to one of its cells
abbrev pub IsListed : SpaceList → Place → Place → ℕ → List (Option ℕ) → List Place → Type 0
IsListed h from at left names cells = IsGathered h (λ ps. map (name_referred h) (words_of h ps)) from at left names × IsGathered h (λ ps. ps) from at left cells

pub list_begins : (h : SpaceList) (from : Place) (left : ℕ) (names : List (Option ℕ)) (cells : List Place) → IsRow h from → left ≡ length (cells_of h) → names ≡ [] → cells ≡ [] → IsListed h from from left names cells
list_begins h from left names cells row long none_named none_listed =
    rw long (rw none_named (rw none_listed (record { row = row_begins h from row; all = refl }, record { row = row_begins h from row; all = refl })))

module _ (h : SpaceList) (from at : Place) (left : ℕ) (names more : List (Option ℕ)) (cells next_cells : List Place) (words : List ℕ) (first : ℕ) (are : words ≡ cell_at h at) (is : first ≡ first_pointer (slice_index words 0))
    (listed : IsListed h from at left names cells) (pushed : more ≡ names ++ map (name_referred h) (take (7 - first) (drop first words))) (one_more : next_cells ≡ cells ++ at ∷ []) where
  abbrev slots : List ℕ → List (Option ℕ)
  slots ws = map (name_referred h) ws

  split : slots (words_of h (rest_of h at left)) ≡ slots (words_of h (at ∷ [])) ++ slots (words_of h (chunks_from h left (link_at h at)))
  split = words_split h slots (map-append (name_referred h)) at (chunks_from h left (link_at h at))

  more_is : more ≡ names ++ slots (words_of h (at ∷ []))
  more_is = words_pushed h slots (map-append (name_referred h)) at names more words first are is pushed

  pub list_goes_on : slice_index words 7 ≢ 0 → (next : Place) → next ≡ place_in (slice_index words 7) → (0 < left) × IsListed h from next (left - 1) more next_cells
  list_goes_on ne next next_is =
      let on = gather_goes_on h (λ ps. slots (words_of h ps)) from at left names more words are listed.0 split more_is ne next next_is in
      (on.0, (on.1, (gather_goes_on h (λ ps. ps) from at left cells next_cells words are listed.1 refl one_more ne next next_is).1))

  pub list_ends : slice_index words 7 ≡ 0 → (more ≡ map (name_referred h) (row_words h from)) × (next_cells ≡ row_of h from)
  list_ends none =
      (gather_ends h (λ ps. slots (words_of h ps)) from at left names more words are listed.0 split more_is none refl, gather_ends h (λ ps. ps) from at left cells next_cells words are listed.1 refl one_more none refl)

-- ---- no name is at two places

-- what a place with a name refers to
slot_tells : (h : SpaceList) (word name : ℕ) → name_referred h word ≡ Some name → (word ≢ 0) × (name_in h word ≡ name)
slot_tells h word name e = referring h name word (slot_some h word name e)

among_names : (h : SpaceList) (words : List ℕ) (i name : ℕ) → name_referred h (get_or words i 0) ≡ Some name → Contains (names_in h words) name
among_names h words i name e = by_length (cases_lt i (length words))
  where
    told : (get_or words i 0 ≢ 0) × (name_in h (get_or words i 0) ≡ name)
    told = slot_tells h (get_or words i 0) name e

    by_length : (i < length words) ⊎ (length words ≤ i) → Contains (names_in h words) name
    by_length (inl low) =
        let word = get_or words i 0 in
        let zero_test : (word == 0) ≡ false = ⊎_elim (λ z. absurd (told.0 z.1)) (λ f. f.0) (eqb_tells word 0) in
        let kept = Contains-filter (λ w. not (w == 0)) words word (Contains-get_or words i 0 low) (ap not zero_test) in
        subst (Contains (names_in h words)) told.1 (Contains-map (name_in h) _ word kept)
    by_length (inr high) = absurd (told.0 (get_or_past words i 0 high))

apart_head : (x : ℕ) (xs : List ℕ) → AllPairs (λ a b. a ≢ b) (x ∷ xs) → (z : ℕ) → Contains xs z → x ≢ z
apart_head x xs apart z has = let low = has.1 in subst (λ y. x ≢ y) has.2 (apart 0 (suc has.0) z (omega arith) (omega arith))

apart_tail : (x : ℕ) (xs : List ℕ) → AllPairs (λ a b. a ≢ b) (x ∷ xs) → AllPairs (λ a b. a ≢ b) xs
apart_tail x xs apart i j d low inside = apart (suc i) (suc j) d (omega arith) (omega arith)

slot_once : (h : SpaceList) (words : List ℕ) → AllPairs (λ a b. a ≢ b) (names_in h words) → (i j name : ℕ) → name_referred h (get_or words i 0) ≡ Some name → name_referred h (get_or words j 0) ≡ Some name → i ≡ j
slot_once h [] apart i j name at_i at_j = absurd ((slot_tells h 0 name at_i).0 refl)
slot_once h (w ∷ ws) apart zero zero name at_i at_j = refl
slot_once h (w ∷ ws) apart zero (suc j) name at_i at_j =
    let told = slot_tells h w name at_i in
    let names = subst (AllPairs (λ a b. a ≢ b)) (names_in-some h w ws told.0) apart in
    absurd (apart_head (name_in h w) (names_in h ws) names name (among_names h ws j name at_j) told.1)
slot_once h (w ∷ ws) apart (suc i) zero name at_i at_j =
    let told = slot_tells h w name at_j in
    let names = subst (AllPairs (λ a b. a ≢ b)) (names_in-some h w ws told.0) apart in
    absurd (apart_head (name_in h w) (names_in h ws) names name (among_names h ws i name at_i) told.1)
slot_once h (w ∷ ws) apart (suc i) (suc j) name at_i at_j = ap suc (slot_once h ws (rest (eqb_tells w 0)) i j name at_i at_j)
  where
    rest : ((w == 0) ≡ true) × (w ≡ 0) ⊎ ((w == 0) ≡ false) × (w ≢ 0) → AllPairs (λ a b. a ≢ b) (names_in h ws)
    rest (inl z) = subst (AllPairs (λ a b. a ≢ b)) (ap (λ v. names_in h (v ∷ ws)) z.1 ∙ names_in-zero h [] ws) apart
    rest (inr f) = apart_tail (name_in h w) (names_in h ws) (subst (AllPairs (λ a b. a ≢ b)) (names_in-some h w ws f.1) apart)

-- ---- the index of the listed names

listed_slot : (h : SpaceList) (words : List ℕ) (n : ℕ) → listed_row (map (name_referred h) words) n ≡ name_referred h (get_or words n 0)
listed_slot h words n =
    ⊎_elim
    (λ low. get_or-map (name_referred h) words n 0 None low)
    (λ high. get_or_past (map (name_referred h) words) n None (let long = length-map words (name_referred h) in omega arith) ∙ sym (ap (name_referred h) (get_or_past words n 0 high)))
    (cases_lt n (length words))

module _ (h : SpaceList) (payloads : Payloads) (graph : IsGraph h payloads) (p : Place) (object : IsKindAt h Object p) where
  pub names_once : (names : List (Option ℕ)) → names ≡ map (name_referred h) (row_words h p) → IsEachNameOnce (listed_row names)
  names_once names are i j name at_i at_j =
      let words = row_words h p in
      let slot : (n : ℕ) → listed_row names n ≡ name_referred h (get_or words n 0) = λ n. ap (λ (ns : List (Option ℕ)). listed_row ns n) are ∙ listed_slot h words n in
      slot_once h words (AllPairs-from_IsDistinct (λ a b. Decides-eqb a b) (names_in h words) (graph.targets p object)) i j name (sym (slot i) ∙ at_i) (sym (slot j) ∙ at_j)

  pub listed_index : (names : List (Option ℕ)) → names ≡ map (name_referred h) (row_words h p) → (cells : List Place) → cells ≡ row_of h p → (s : Slots) → IsIndexOf s (listed_row names) → s.len ≡ length names → IsRowIndex h p s cells
  listed_index names are cells row s index len = record {
    names = index_same s (listed_row names) (row_slots h p) (λ n. sym (ap (λ (ns : List (Option ℕ)). listed_row ns n) are ∙ listed_slot h (row_words h p) n)) index;
    cells = row;
    len = len ∙ ap (λ (ns : List (Option ℕ)). length ns) are ∙ length-map (row_words h p) (name_referred h);
  }

-- ---- whether a row is long

-- a row was followed along so many links
pub record IsFollowed (h : SpaceList) (from at : Place) (steps : ℕ) : Type 0 where
  pub left : ℕ
  pub row : IsInRow h at left
  pub long : length (row_of h from) ≡ steps + 1 + length (chunks_from h left (link_at h at))

pub follow_begins : (h : SpaceList) (from : Place) → IsRow h from → IsFollowed h from from 0
follow_begins h from row = record { left = length (cells_of h); row = row_begins h from row; long = omega arith }

module _ (h : SpaceList) (from at : Place) (steps : ℕ) (followed : IsFollowed h from at steps) where
  pub follow_goes_on : (next : Place) → link_at h at ≢ 0 → next ≡ place_in (link_at h at) → IsFollowed h from next (steps + 1)
  follow_goes_on next some next_is =
      let on = row_goes_on h at followed.left followed.row some in
      let rest = rest_goes_on h at followed.left followed.row some in
      let long = ap (λ (ps : List Place). length ps) rest in
      let all = followed.long in
      subst (λ (q : Place). IsFollowed h from q (steps + 1)) (sym next_is) (record { left = followed.left - 1; row = on.1; long = omega arith })

  pub follow_ends : link_at h at ≡ 0 → length (row_of h from) ≡ steps + 1
  follow_ends none =
      let rest = ap (λ (ps : List Place). length ps) (rest_ends h at followed.left none) in
      let all = followed.long in
      omega arith

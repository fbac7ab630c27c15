-- Walks along rows, cell by cell.
use Rattle.std.proofs.Common.{◌≡◌, ◌≢◌, ℕ, ◌+◌, ◌-◌, ◌<◌, ◌⊎◌, inl, inr, not, Bool, true, false, List, [], ◌∷◌, ◌++◌, Option, Some, None, length, get_or, take, drop, refl, sym, ap, subst, arith, ◌∙◌, option_map, map, append_assoc, append-nil}
use Rattle.std.specs.Prelude.{nat_lt, position, slice_index}
use Rattle.std.specs.List.{filter, position_or_len}
use Rattle.std.specs.Option.{option_or}
use Rattle.std.proofs.lemmas.List.{map-append}
use Rattle.std.proofs.lemmas.List.Elements.{filter-append}
use Rattle.std.proofs.lemmas.List.Concat.{flat_map-append}
use Rattle.tg_rights.specs.RightSet.{RightSet, is_none_held}
use Rattle.std.proofs.lemmas.List.Sums.{position_or_len_is}
use Rattle.tg_word.specs.declared.Place.{Place}
use Rattle.tg_word.specs.Word.{place_in, rights_in}
use Rattle.tg_space.specs.SpaceList.{SpaceList, HasCell, cell_at, cells_of}
use Rattle.tg_space.specs.Targets.{first_pointer}
use Rattle.tg_rows.specs.Rows.{IsChain, IsRow, edges_in, name_in, references_of, row_words, words_of}
use Rattle.tg_space.specs.Rows.{chunks_from, link_at, row_of}
use Rattle.tg_rows.specs.Spots.{IsSpotIn, is_empty, last_of, refers_to, spot_for_new, word_in_cell, word_of_cell, word_where}
use Rattle.tg_rows.proofs.Layouts.{object_tagged, chunk_tagged}
use Rattle.tg_rows.proofs.Chains.{chain_none, chain_step}
use Rattle.std.proofs.lemmas.Bool.{le-ltb, lt-ltb}

-- ---- the first that passes

pub position_is : {X : Type 0} (p : X → Bool) (xs : List X) (i : ℕ) (d : X) → i < length xs → ((k : ℕ) → k < i → p (get_or xs k d) ≡ false) → p (get_or xs i d) ≡ true → position p xs ≡ Some i
position_is p xs i d inside before here =
    let at : position_or_len p xs ≡ i = position_or_len_is p xs i d (omega arith) before (λ _. here) in
    let test : nat_lt i (length xs) ≡ true = lt-ltb i (length xs) inside in
    rw at (rw test refl)

pub position_none : {X : Type 0} (p : X → Bool) (xs : List X) (d : X) → ((k : ℕ) → k < length xs → p (get_or xs k d) ≡ false) → position p xs ≡ None
position_none p xs d fails =
    let at : position_or_len p xs ≡ length xs = position_or_len_is p xs (length xs) d (omega arith) fails (λ h. absurd (omega arith)) in
    let test : nat_lt (length xs) (length xs) ≡ false = le-ltb (length xs) (length xs) (omega arith) in
    rw at (rw test refl)

-- ---- cells of a row

-- a cell of a row, after which a chain follows
pub record IsInRow (h : SpaceList) (at : Place) (left : ℕ) : Type 0 where
  pub held : HasCell h at
  pub tag : (slice_index (cell_at h at) 0 ≡ 1) ⊎ (slice_index (cell_at h at) 0 ≡ 2)
  pub ends : IsChain h (link_at h at) (chunks_from h left (link_at h at))

pub row_begins : (h : SpaceList) (p : Place) → IsRow h p → IsInRow h p (length (cells_of h))
row_begins h p row =
    record { held = row.object.held; tag = inl ((object_tagged (cell_at h p)).0 row.object.is); ends = row.ends }

-- the link of a cell of a row is empty, or leads to the next one
pub row_goes_on : (h : SpaceList) (at : Place) (left : ℕ) → IsInRow h at left → link_at h at ≢ 0 → (0 < left) × IsInRow h (place_in (link_at h at)) (left - 1)
row_goes_on h at left row ne =
    let step = chain_step h left (link_at h at) ne row.ends in
    (step.some, record { held = step.chunk.held; tag = inr ((chunk_tagged (cell_at h (place_in (link_at h at)))).0 step.chunk.is); ends = step.ends })

-- the words of a cell's slice are its references
pub slice_is : (h : SpaceList) (p : Place) (words : List ℕ) (first : ℕ) → words ≡ cell_at h p → first ≡ first_pointer (slice_index words 0) → take (7 - first) (drop first words) ≡ references_of (cell_at h p)
slice_is h p words first are is =
    ap (λ n. take (7 - n) (drop n words)) is ∙ ap references_of are

-- the cells that are left of a row from one of its cells on
abbrev pub rest_of : SpaceList → Place → ℕ → List Place
rest_of h at left = at ∷ chunks_from h left (link_at h at)

pub rest_goes_on : (h : SpaceList) (at : Place) (left : ℕ) → IsInRow h at left → link_at h at ≢ 0 → chunks_from h left (link_at h at) ≡ rest_of h (place_in (link_at h at)) (left - 1)
rest_goes_on h at left row ne = (chain_step h left (link_at h at) ne row.ends).is

pub rest_ends : (h : SpaceList) (at : Place) (left : ℕ) → link_at h at ≡ 0 → chunks_from h left (link_at h at) ≡ []
rest_ends h at left zero = ap (chunks_from h left) zero ∙ chain_none h left

-- ---- a search for a word

module _ (h : SpaceList) (test : ℕ → Bool) (at : Place) (qs : List Place) (words : List ℕ) (first : ℕ) (are : words ≡ cell_at h at) (is : first ≡ first_pointer (slice_index words 0)) where
  abbrev first_is : first ≡ first_pointer (slice_index (cell_at h at) 0)
  first_is = is ∙ ap (λ (ws : List ℕ). first_pointer (slice_index ws 0)) are

  -- what was found among the words of the slice
  pub in_cell : (o : Option ℕ) → o ≡ position test (take (7 - first) (drop first words)) → option_map (λ k. (at, first + k)) o ≡ word_in_cell test h at
  in_cell o found =
      (λ i. option_map (λ k. (at, first_is i + k)) o)
      ∙ ap (option_map (word_of_cell h at)) (found ∙ ap (position test) (slice_is h at words first are is))

  pub found_here : (k : ℕ) → Some k ≡ position test (take (7 - first) (drop first words)) → word_where test h (at ∷ qs) ≡ Some (at, first + k)
  found_here k found = ap (λ (o : Option (Place × ℕ)). option_or o (word_where test h qs)) (sym (in_cell (Some k) found))

  pub not_here : None ≡ position test (take (7 - first) (drop first words)) → word_where test h (at ∷ qs) ≡ word_where test h qs
  not_here found = ap (λ (o : Option (Place × ℕ)). option_or o (word_where test h qs)) (sym (in_cell None found))

option_or_assoc : {X : Type 0} (a b c : Option X) → option_or a (option_or b c) ≡ option_or (option_or a b) c
option_or_assoc None b c = refl
option_or_assoc (Some x) b c = refl

option_or_none : {X : Type 0} (a : Option X) → option_or a None ≡ a
option_or_none None = refl
option_or_none (Some x) = refl

-- a row was searched up to one of its cells: no reference to the name was found, and this empty place
pub record IsSearched (h : SpaceList) (name : ℕ) (from at : Place) (left : ℕ) (empty : Option (Place × ℕ)) : Type 0 where
  pub row : IsInRow h at left
  pub reference : word_where (refers_to h name) h (row_of h from) ≡ word_where (refers_to h name) h (rest_of h at left)
  pub places : word_where is_empty h (row_of h from) ≡ option_or empty (word_where is_empty h (rest_of h at left))
  pub last : last_of from (chunks_from h (length (cells_of h)) (link_at h from)) ≡ last_of at (chunks_from h left (link_at h at))

module _ (h : SpaceList) (name : ℕ) (from at : Place) (left : ℕ) (empty after : Option (Place × ℕ)) (words : List ℕ) (first : ℕ) (are : words ≡ cell_at h at) (is : first ≡ first_pointer (slice_index words 0))
    (searched : IsSearched h name from at left empty) where
  abbrev slice : List ℕ
  slice = take (7 - first) (drop first words)

  abbrev qs : List Place
  qs = chunks_from h left (link_at h at)

  pub search_found : (k : ℕ) → Some k ≡ position (refers_to h name) (take (7 - first) (drop first words)) → word_where (refers_to h name) h (row_of h from) ≡ Some (at, first + k)
  search_found k found = searched.reference ∙ found_here h (refers_to h name) at qs words first are is k found

  module _ (none : None ≡ position (refers_to h name) (take (7 - first) (drop first words))) (more : after ≡ option_or empty (option_map (λ k. (at, first + k)) (position is_empty (take (7 - first) (drop first words))))) where
    reference_on : word_where (refers_to h name) h (row_of h from) ≡ word_where (refers_to h name) h qs
    reference_on = searched.reference ∙ not_here h (refers_to h name) at qs words first are is none

    places_on : word_where is_empty h (row_of h from) ≡ option_or after (word_where is_empty h qs)
    places_on =
        searched.places ∙ option_or_assoc empty (word_in_cell is_empty h at) (word_where is_empty h qs)
        ∙ ap (λ (o : Option (Place × ℕ)). option_or (option_or empty o) (word_where is_empty h qs)) (sym (in_cell h is_empty at qs words first are is (position is_empty slice) refl))
        ∙ ap (λ (o : Option (Place × ℕ)). option_or o (word_where is_empty h qs)) (sym more)

    link_is : slice_index words 7 ≡ link_at h at
    link_is = ap (λ (ws : List ℕ). slice_index ws 7) are

    pub search_goes_on : slice_index words 7 ≢ 0 → (next : Place) → next ≡ place_in (slice_index words 7) → (0 < left) × IsSearched h name from next (left - 1) after
    search_goes_on ne next next_is =
        let some : link_at h at ≢ 0 = λ e. ne (link_is ∙ e) in
        let on = row_goes_on h at left searched.row some in
        let rest = rest_goes_on h at left searched.row some in
        let place : place_in (link_at h at) ≡ next = sym (next_is ∙ ap place_in link_is) in (
          on.0,
          subst (λ (q : Place). IsSearched h name from q (left - 1) after) place
              (record {
                row = on.1;
                reference = reference_on ∙ ap (word_where (refers_to h name) h) rest;
                places = places_on ∙ ap (λ (ps : List Place). option_or after (word_where is_empty h ps)) rest;
                last = searched.last ∙ ap (last_of at) rest;
              }),
        )

    -- what a search to the end of the row tells
    pub search_ends : slice_index words 7 ≡ 0 → (word_where (refers_to h name) h (row_of h from) ≡ None) × (word_where is_empty h (row_of h from) ≡ after) × (last_of from (chunks_from h (length (cells_of h)) (link_at h from)) ≡ at)
    search_ends zero =
        let rest = rest_ends h at left (sym link_is ∙ zero) in (
          reference_on ∙ ap (word_where (refers_to h name) h) rest,
          places_on ∙ ap (λ (ps : List Place). option_or after (word_where is_empty h ps)) rest ∙ option_or_none after,
          searched.last ∙ ap (last_of at) rest,
        )

-- what an ended search shows is where a new reference may be put
pub spot_is : (h : SpaceList) (name : ℕ) (from at : Place) (ps : List Place) (empty : Option (Place × ℕ)) → word_where (refers_to h name) h (from ∷ ps) ≡ None → word_where is_empty h (from ∷ ps) ≡ empty → last_of from ps ≡ at → IsSpotIn h name from ps (spot_for_new empty at)
spot_is h name from at ps None none places last = (none, places, last)
spot_is h name from at ps (Some e) none places last = (none, places)

-- ---- the edges of a row

pub edges_in-append : (h : SpaceList) (xs ys : List ℕ) → edges_in h (xs ++ ys) ≡ edges_in h xs ++ edges_in h ys
edges_in-append h xs ys =
    let test : ℕ → Bool = λ word. not (is_none_held (rights_in word)) in
    let edge : ℕ → ℕ × RightSet = λ word. (name_in h word, rights_in word) in
    ap (map edge) (filter-append test xs ys) ∙ map-append edge (filter test xs) (filter test ys)

-- where the words of a cell have a link, the cell links to that place
pub links_on : (h : SpaceList) (at : Place) (words : List ℕ) → words ≡ cell_at h at → slice_index words 7 ≢ 0 → (next : Place) → next ≡ place_in (slice_index words 7) → (link_at h at ≢ 0) × (place_in (link_at h at) ≡ next)
links_on h at words are some next is =
    let link = ap (λ (ws : List ℕ). slice_index ws 7) are in (λ e. some (link ∙ e), sym (is ∙ ap place_in link))

-- what a map makes of the cells of a row was gathered up to one of them
pub record IsGathered {X : Type 0} (h : SpaceList) (f : List Place → List X) (from at : Place) (left : ℕ) (xs : List X) : Type 0 where
  pub row : IsInRow h at left
  pub all : f (row_of h from) ≡ xs ++ f (rest_of h at left)

module _ {X : Type 0} (h : SpaceList) (f : List Place → List X) (from at : Place) (left : ℕ) (xs more : List X) (words : List ℕ) (are : words ≡ cell_at h at) (gathered : IsGathered h f from at left xs)
    (split : f (rest_of h at left) ≡ f (at ∷ []) ++ f (chunks_from h left (link_at h at))) (pushed : more ≡ xs ++ f (at ∷ [])) where
  here : f (row_of h from) ≡ more ++ f (chunks_from h left (link_at h at))
  here =
      let rest = f (chunks_from h left (link_at h at)) in
      gathered.all ∙ ap (λ ys. xs ++ ys) split ∙ sym (append_assoc xs (f (at ∷ [])) rest) ∙ ap (λ ys. ys ++ rest) (sym pushed)

  pub gather_goes_on : slice_index words 7 ≢ 0 → (next : Place) → next ≡ place_in (slice_index words 7) → (0 < left) × IsGathered h f from next (left - 1) more
  gather_goes_on ne next next_is =
      let link = links_on h at words are ne next next_is in
      let on = row_goes_on h at left gathered.row link.0 in
      let rest = rest_goes_on h at left gathered.row link.0 in
      (on.0, subst (λ (q : Place). IsGathered h f from q (left - 1) more) link.1 (record { row = on.1; all = here ∙ ap (λ (ps : List Place). more ++ f ps) rest }))

  pub gather_ends : slice_index words 7 ≡ 0 → f [] ≡ [] → more ≡ f (row_of h from)
  gather_ends zero none =
      let link = ap (λ (ws : List ℕ). slice_index ws 7) are in
      sym (here ∙ ap (λ (ps : List Place). more ++ f ps) (rest_ends h at left (sym link ∙ zero)) ∙ ap (λ ys. more ++ ys) none ∙ append-nil more)

-- a map of the words of the cells, one after the other
module _ {X : Type 0} (h : SpaceList) (g : List ℕ → List X) (appends : (us vs : List ℕ) → g (us ++ vs) ≡ g us ++ g vs) (at : Place) where
  pub words_split : (ps : List Place) → g (words_of h (at ∷ ps)) ≡ g (words_of h (at ∷ [])) ++ g (words_of h ps)
  words_split ps = ap g (flat_map-append (λ q. references_of (cell_at h q)) (at ∷ []) ps) ∙ appends (words_of h (at ∷ [])) (words_of h ps)

  pub words_pushed : (xs more : List X) (words : List ℕ) (first : ℕ) → words ≡ cell_at h at → first ≡ first_pointer (slice_index words 0) → more ≡ xs ++ g (take (7 - first) (drop first words)) → more ≡ xs ++ g (words_of h (at ∷ []))
  words_pushed xs more words first are is pushed = pushed ∙ ap (λ ws. xs ++ g ws) (slice_is h at words first are is ∙ sym (append-nil (references_of (cell_at h at))))

-- the edges of a row were collected up to one of its cells
abbrev pub IsCollected : SpaceList → Place → Place → ℕ → List (ℕ × RightSet) → Type 0
IsCollected h from at left edges = IsGathered h (λ ps. edges_in h (words_of h ps)) from at left edges

module _ (h : SpaceList) (from at : Place) (left : ℕ) (edges more : List (ℕ × RightSet)) (words : List ℕ) (first : ℕ) (are : words ≡ cell_at h at) (is : first ≡ first_pointer (slice_index words 0))
    (collected : IsCollected h from at left edges) (pushed : more ≡ edges ++ edges_in h (take (7 - first) (drop first words))) where
  pub collect_goes_on : slice_index words 7 ≢ 0 → (next : Place) → next ≡ place_in (slice_index words 7) → (0 < left) × IsCollected h from next (left - 1) more
  collect_goes_on =
      gather_goes_on h (λ ps. edges_in h (words_of h ps)) from at left edges more words are collected (words_split h (edges_in h) (edges_in-append h) at (chunks_from h left (link_at h at)))
      (words_pushed h (edges_in h) (edges_in-append h) at edges more words first are is pushed)

  pub collect_ends : slice_index words 7 ≡ 0 → more ≡ edges_in h (row_words h from)
  collect_ends zero =
      gather_ends h (λ ps. edges_in h (words_of h ps)) from at left edges more words are collected (words_split h (edges_in h) (edges_in-append h) at (chunks_from h left (link_at h at)))
      (words_pushed h (edges_in h) (edges_in-append h) at edges more words first are is pushed) zero refl

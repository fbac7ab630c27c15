-- What the place of a word in a row says of the rights over a name.
use Rattle.std.proofs.Common.{◌≡◌, ◌≢◌, ◌⊎◌, inl, inr, ℕ, zero, suc, ◌+◌, ◌-◌, ◌<◌, ◌≤◌, ◌==◌, Bool, true, false, cond, List, [], ◌∷◌, ◌++◌, Option, Some, None, length, get_or, drop, refl, sym, ap, subst, arith, ◌∙◌, ⊎_elim, option_map}
use Rattle.std.specs.Prelude.{nat_lt, position, slice_index}
use Rattle.std.specs.List.{All, Contains, position_or_len}
use Rattle.std.specs.Option.{option_or}
use Rattle.std.proofs.lemmas.List.{get_or-take, get_or-drop, get_or_default, length-take, length-drop}
use Rattle.std.proofs.lemmas.List.Elements.{All-nil, All-append, All-contains, All-weaker}
use Rattle.std.proofs.lemmas.List.Quantifiers.{position-Some}
use Rattle.std.proofs.lemmas.List.Sums.{fails_before_first}
use Rattle.tg_block.specs.declared.CellKind.TheVariants.{Object, Chunk}
use Rattle.tg_payload.specs.Table.{Payloads}
use Rattle.tg_rights.specs.RightSet.{no_rights}
use Rattle.tg_word.specs.declared.Place.{Place}
use Rattle.tg_word.specs.Word.{place_in, rights_in}
use Rattle.tg_space.specs.SpaceList.{SpaceList, IsSpaceList, HasCell, cell_at, cells_of}
use Rattle.tg_space.specs.Soundness.{IsKindAt, IsReference, RefersTo}
use Rattle.tg_space.specs.Targets.{first_pointer}
use Rattle.tg_rows.specs.Rows.{IsChain, IsRow, name_at, name_in, references_of, rights_to, row_words, words_of}
use Rattle.tg_space.specs.Rows.{chunks_from, link_at, row_of}
use Rattle.tg_rows.specs.Content.{IsNamed}
use Rattle.tg_rows.specs.Graph.{IsGraph, content_in}
use Rattle.tg_rows.specs.Spots.{IsSpotIn, is_empty, last_of, refers_to, word_of_cell, word_where}
use Rattle.tg_rows.specs.declared.rows.Spot.{Spot}
use Rattle.tg_rows.specs.declared.rows.Spot.TheVariants.{Reference, Empty, Full}
use Rattle.tg_rows.proofs.Chains.{chain_chunks, row_held, row_references}
use Rattle.tg_rows.proofs.Layouts.{chunk_tagged, object_tagged, references_at}
use Rattle.tg_rows.proofs.Lookups.{label_at, name_of_vertex}
use Rattle.tg_rows.proofs.Places.{cell_long}
use Rattle.tg_rows.proofs.Members.{Contains-cases, Contains-here, Contains-more}
use Rattle.tg_rows.proofs.Slots.{IsOther, rights_none}
use Rattle.std.proofs.lemmas.Bool.{eq-eqb, eqb-false, eqb-true, ltb-false, ne_eqb}

-- ---- one cell

-- a reference of a cell is the word of this number
pub reference_at : (words : List ℕ) (k : ℕ) → k < length (references_of words) → (get_or (references_of words) k 0 ≡ slice_index words (first_pointer (slice_index words 0) + k)) × (first_pointer (slice_index words 0) + k < 7)
reference_at words k inside =
    let first = first_pointer (slice_index words 0) in
    let low : k < 7 - first = omega (arith, length-take (7 - first) (drop first words)) in
    (get_or-take (7 - first) (drop first words) k 0 low ∙ get_or-drop first words k 0, omega arith)

pub position-None : (p : ℕ → Bool) (xs : List ℕ) → position p xs ≡ None → (k : ℕ) → k < length xs → p (get_or xs k 0) ≡ false
position-None p xs none k inside = by_test (nat_lt (position_or_len p xs) (length xs)) refl
  where
    by_test : (b : Bool) → nat_lt (position_or_len p xs) (length xs) ≡ b → p (get_or xs k 0) ≡ false
    by_test true t =
        let some : cond (nat_lt (position_or_len p xs) (length xs)) (Some (position_or_len p xs)) None ≡ Some (position_or_len p xs) = rw t refl in
        let never : Some (position_or_len p xs) ≡ None = sym some ∙ none in
        cc
    by_test false t = let past : length xs ≤ position_or_len p xs = ltb-false (position_or_len p xs) (length xs) t in fails_before_first p xs k 0 (omega arith)

-- the first reference that passes
module _ (h : SpaceList) (name : ℕ) where
  rights_first : (xs ys : List ℕ) (k : ℕ) → k < length xs → ((j : ℕ) → j < k → refers_to h name (get_or xs j 0) ≡ false) → refers_to h name (get_or xs k 0) ≡ true → rights_to h name (xs ++ ys) ≡ rights_in (get_or xs k 0)
  rights_first [] ys k inside before here = absurd (omega arith)
  rights_first (x ∷ xs) ys zero inside before here = let t : refers_to h name x ≡ true = here in rw t refl
  rights_first (x ∷ xs) ys (suc k) inside before here =
      let t : refers_to h name x ≡ false = before zero (omega arith) in
      rw t (rights_first xs ys k (omega arith) (λ j low. before (suc j) (omega arith)) here)

  rights_later : (xs ys : List ℕ) → ((k : ℕ) → k < length xs → refers_to h name (get_or xs k 0) ≡ false) → rights_to h name (xs ++ ys) ≡ rights_to h name ys
  rights_later [] ys fails = refl
  rights_later (x ∷ xs) ys fails =
      let t : refers_to h name x ≡ false = fails zero (omega arith) in
      rw t (rights_later xs ys (λ k low. fails (suc k) (omega arith)))

  not_referring : (word : ℕ) → refers_to h name word ≡ false → IsOther h name word
  not_referring word fails some same =
      let a : (word == 0) ≡ false = ne_eqb word 0 some in
      let b : (name_in h word == name) ≡ true = eq-eqb (name_in h word) name same in
      let t : refers_to h name word ≡ true = rw a (rw b refl) in
      cc

  pub referring : (word : ℕ) → refers_to h name word ≡ true → (word ≢ 0) × (name_in h word ≡ name)
  referring word passes = by_tests (word == 0) (name_in h word == name) refl refl
    where
      by_tests : (a b : Bool) → (word == 0) ≡ a → (name_in h word == name) ≡ b → (word ≢ 0) × (name_in h word ≡ name)
      by_tests true b e f = let t : refers_to h name word ≡ false = rw e refl in cc
      by_tests false true e f = (eqb-false word 0 e, eqb-true (name_in h word) name f)
      by_tests false false e f = let t : refers_to h name word ≡ false = rw e (rw f refl) in cc

-- ---- the cells of a row

-- the word of a cell, with this number, is the first reference that passes
pub record IsWordOf (h : SpaceList) (test : ℕ → Bool) (ps : List Place) (q : Place) (i : ℕ) : Type 0 where
  pub cell : Contains ps q
  pub from : first_pointer (slice_index (cell_at h q) 0) ≤ i
  pub to : i < 7
  pub passes : test (slice_index (cell_at h q) i) ≡ true

abbrev pub Finds : SpaceList → (ℕ → Bool) → List Place → Option (Place × ℕ) → Type 0
Finds h test ps None = All (λ word. test word ≡ false) (words_of h ps)
Finds h test ps (Some e) = IsWordOf h test ps e.0 e.1

-- what a search through cells tells of their words
pub where_finds : (h : SpaceList) (test : ℕ → Bool) (ps : List Place) → Finds h test ps (word_where test h ps)
where_finds h test [] = All-nil (λ word. test word ≡ false)
where_finds h test (q ∷ qs) = by_found (where_finds h test qs) (position test (references_of (cell_at h q))) refl
  where
    words : List ℕ
    words = references_of (cell_at h q)

    passed : All (λ word. test word ≡ false) words → (o : Option (Place × ℕ)) → Finds h test qs o → Finds h test (q ∷ qs) o
    passed fails None rest = All-append (λ word. test word ≡ false) words (words_of h qs) fails rest
    passed fails (Some e) rest = record { cell = Contains-more q qs e.0 rest.cell; from = rest.from; to = rest.to; passes = rest.passes }

    by_found : Finds h test qs (word_where test h qs) → (o : Option ℕ) → position test words ≡ o → Finds h test (q ∷ qs) (option_or (option_map (word_of_cell h q) o) (word_where test h qs))
    by_found rest None none = passed (λ k d inside. ap test (get_or_default words k d 0 inside) ∙ position-None test words none k inside) (word_where test h qs) rest
    by_found rest (Some k) found =
        let at = position-Some test words k 0 found in
        let word = reference_at (cell_at h q) k at.0 in
        record { cell = Contains-here q qs; from = omega arith; to = word.1; passes = ap test (sym word.0) ∙ at.1 }

-- the rights over a name are those of the reference to it
module _ (h : SpaceList) (name : ℕ) where
  rights_where : (ps : List Place) (e : Place × ℕ) → word_where (refers_to h name) h ps ≡ Some e → rights_to h name (words_of h ps) ≡ rights_in (slice_index (cell_at h e.0) e.1)
  rights_where [] e found = cc
  rights_where (q ∷ qs) e found = by_found (rights_where qs e) (position (refers_to h name) (references_of (cell_at h q))) refl found
    where
      words : List ℕ
      words = references_of (cell_at h q)

      by_found : (word_where (refers_to h name) h qs ≡ Some e → rights_to h name (words_of h qs) ≡ rights_in (slice_index (cell_at h e.0) e.1)) → (o : Option ℕ) → position (refers_to h name) words ≡ o → option_or (option_map (word_of_cell h q) o) (word_where (refers_to h name) h qs) ≡ Some e → rights_to h name (words ++ words_of h qs) ≡ rights_in (slice_index (cell_at h e.0) e.1)
      by_found later None none rest =
          rights_later h name words (words_of h qs) (position-None (refers_to h name) words none) ∙ later rest
      by_found later (Some k) here is =
          let at = position-Some (refers_to h name) words k 0 here in
          let word = reference_at (cell_at h q) k at.0 in
          let same : word_of_cell h q k ≡ e = cc in
          rights_first h name words (words_of h qs) k at.0 at.2 at.1 ∙ ap rights_in word.0
          ∙ ap (λ (w : Place × ℕ). rights_in (slice_index (cell_at h w.0) w.1)) same

  -- where no reference was found, no word refers to the name
  pub others_where : (ps : List Place) → word_where (refers_to h name) h ps ≡ None → All (IsOther h name) (words_of h ps)
  others_where ps none =
      let finds : All (λ word. refers_to h name word ≡ false) (words_of h ps) = subst (Finds h (refers_to h name) ps) none (where_finds h (refers_to h name) ps) in
      All-weaker (λ word. refers_to h name word ≡ false) (IsOther h name) (λ word. not_referring h name word) (words_of h ps) finds

-- the reference to a name in a row
pub record IsReferenceTo (h : SpaceList) (p : Place) (name : ℕ) (q : Place) (i : ℕ) : Type 0 where
  pub cell : Contains (row_of h p) q
  pub from : first_pointer (slice_index (cell_at h q) 0) ≤ i
  pub to : i < 7
  pub some : slice_index (cell_at h q) i ≢ 0
  pub named : name_in h (slice_index (cell_at h q) i) ≡ name
  pub rights : rights_to h name (row_words h p) ≡ rights_in (slice_index (cell_at h q) i)

pub reference_found : (h : SpaceList) (p : Place) (name : ℕ) (q : Place) (i : ℕ) → word_where (refers_to h name) h (row_of h p) ≡ Some (q, i) → IsReferenceTo h p name q i
reference_found h p name q i found =
    let finds : IsWordOf h (refers_to h name) (row_of h p) q i = subst (Finds h (refers_to h name) (row_of h p)) found (where_finds h (refers_to h name) (row_of h p)) in
    let both = referring h name (slice_index (cell_at h q) i) finds.passes in
    record { cell = finds.cell; from = finds.from; to = finds.to; some = both.0; named = both.1; rights = rights_where h name (row_of h p) (q, i) found }

-- an empty place of a row
pub record IsEmptyPlace (h : SpaceList) (p q : Place) (i : ℕ) : Type 0 where
  pub cell : Contains (row_of h p) q
  pub from : first_pointer (slice_index (cell_at h q) 0) ≤ i
  pub to : i < 7
  pub empty : slice_index (cell_at h q) i ≡ 0

pub empty_found : (h : SpaceList) (p : Place) (q : Place) (i : ℕ) → word_where is_empty h (row_of h p) ≡ Some (q, i) → IsEmptyPlace h p q i
empty_found h p q i found =
    let finds : IsWordOf h is_empty (row_of h p) q i = subst (Finds h is_empty (row_of h p)) found (where_finds h is_empty (row_of h p)) in
    let test : (slice_index (cell_at h q) i == 0) ≡ true = finds.passes in
    record { cell = finds.cell; from = finds.from; to = finds.to; empty = eqb-true (slice_index (cell_at h q) i) 0 test }

-- the last cell of a row has no link
pub last_ends : (h : SpaceList) (p : Place) (ps : List Place) → IsChain h (link_at h p) ps → Contains (p ∷ ps) (last_of p ps) × (link_at h (last_of p ps) ≡ 0)
last_ends h p [] ends = (Contains-here p [], ends)
last_ends h p (q ∷ qs) ends =
    let rest = last_ends h q qs ends.3 in
    (Contains-more p (q ∷ qs) (last_of q qs) rest.0, rest.1)

-- where no reference was found
pub none_found : (h : SpaceList) (name : ℕ) (p : Place) (ps : List Place) (spot : Spot) → IsSpotIn h name p ps spot → ((q : Place) (i : ℕ) → spot ≡ Reference q i → ⊥) → word_where (refers_to h name) h (p ∷ ps) ≡ None
none_found h name p ps (Reference q i) found never = absurd (never q i refl)
none_found h name p ps (Empty q i) found never = found.0
none_found h name p ps (Full last) found never = found.0

-- ---- rows of a graph

module _ (h : SpaceList) (payloads : Payloads) (is : IsSpaceList h) (graph : IsGraph h payloads) (p : Place) (object : IsKindAt h Object p) where
  pub row_is : IsRow h p
  row_is = record { object = object; ends = graph.ends p object }

  pub cell_held : (q : Place) → Contains (row_of h p) q → HasCell h q
  cell_held q has = All-contains (HasCell h) (row_of h p) q (row_held h p (chunks_from h (length (cells_of h)) (link_at h p)) object (graph.ends p object)) has

  -- a cell of the row is the object, or a chunk
  pub row_kind : (q : Place) → Contains (row_of h p) q → IsKindAt h Object q ⊎ IsKindAt h Chunk q
  row_kind q has =
      let ps = chunks_from h (length (cells_of h)) (link_at h p) in
      ⊎_elim (λ same. inl (subst (IsKindAt h Object) same object)) (λ rest. inr (All-contains (IsKindAt h Chunk) ps q (chain_chunks h ps (link_at h p) (graph.ends p object)) rest)) (Contains-cases p ps q has)

  -- its link is after its references
  pub row_low : (q : Place) → Contains (row_of h p) q → first_pointer (slice_index (cell_at h q) 0) ≤ 7
  row_low q has =
      ⊎_elim
      (λ (o : IsKindAt h Object q). let at : first_pointer (slice_index (cell_at h q) 0) ≡ 4 = ap first_pointer ((object_tagged (cell_at h q)).0 o.is) in omega arith)
      (λ (c : IsKindAt h Chunk q). let at : first_pointer (slice_index (cell_at h q) 0) ≡ 1 = ap first_pointer ((chunk_tagged (cell_at h q)).0 c.is) in omega arith)
      (row_kind q has)

  -- what a word of the row refers to
  pub word_refers : (q : Place) (i : ℕ) → Contains (row_of h p) q → first_pointer (slice_index (cell_at h q) 0) ≤ i → i < 7 → slice_index (cell_at h q) i ≢ 0 → RefersTo h (slice_index (cell_at h q) i)
  word_refers q i has from to some =
      let words = cell_at h q in
      let first = first_pointer (slice_index words 0) in
      let held = cell_held q has in
      let long = cell_long h is q held in
      let inside : i - first < length (references_of words) = omega (arith, length-take (7 - first) (drop first words), length-drop first words) in
      let at = reference_at words (i - first) inside in
      let number : first + (i - first) ≡ i = omega arith in
      let same : get_or (references_of words) (i - first) 0 ≡ slice_index words i = at.0 ∙ ap (slice_index words) number in
      let all : IsReference h (get_or (references_of words) (i - first) 0) = references_at h is [] graph.sound q held (i - first) 0 inside in
      let here : IsReference h (slice_index words i) = subst (IsReference h) same all in
      ⊎_elim (λ z. absurd (some z)) (λ refers. refers) here

  pub label_is_read : (name : ℕ) → (content_in h payloads).label (name_at h p) name ≡ rights_to h name (row_words h p)
  label_is_read name = label_at h payloads is graph (name_at h p) p (record { object = object; named = refl }) name

  -- a reference that was found
  pub found_refers : (name : ℕ) (q : Place) (i : ℕ) → IsReferenceTo h p name q i → RefersTo h (slice_index (cell_at h q) i)
  found_refers name q i reference = word_refers q i reference.cell reference.from reference.to reference.some

  -- no reference was found
  pub none_refers : (name : ℕ) → word_where (refers_to h name) h (row_of h p) ≡ None → (content_in h payloads).label (name_at h p) name ≡ no_rights
  none_refers name none = label_is_read name ∙ rights_none h name (row_words h p) (others_where h name (row_of h p) none)

  -- a name that no vertex has is in no reference
  pub fresh_lacks : (name : ℕ) → (IsNamed (content_in h payloads) name → ⊥) → word_where (refers_to h name) h (row_of h p) ≡ None
  fresh_lacks name fresh = by_found (word_where (refers_to h name) h (row_of h p)) refl
    where
      by_found : (o : Option (Place × ℕ)) → word_where (refers_to h name) h (row_of h p) ≡ o → word_where (refers_to h name) h (row_of h p) ≡ None
      by_found None e = e
      by_found (Some (q, i)) e =
          let reference = reference_found h p name q i e in
          let refers = found_refers name q i reference in
          absurd (fresh (name_of_vertex h payloads is name (place_in (slice_index (cell_at h q) i)) (record { object = refers.object; named = reference.named })))

  pub words_are_references : All (IsReference h) (row_words h p)
  words_are_references = row_references h is [] graph.sound p object (graph.ends p object)

  -- the vertex to which a word of the row refers is one of the content
  pub target_named : (word : ℕ) → Contains (row_words h p) word → word ≢ 0 → IsNamed (content_in h payloads) (name_in h word)
  target_named word has some =
      let refers : RefersTo h word = ⊎_elim (λ z. absurd (some z)) (λ refers. refers) (All-contains (IsReference h) (row_words h p) word words_are_references has) in
      name_of_vertex h payloads is (name_in h word) (place_in word) (record { object = refers.object; named = refl })

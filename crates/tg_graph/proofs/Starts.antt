-- The roots of a nursery collection: the young cells that rows in Old name, in the place of the rows.
use Rattle.std.proofs.Common.{◌≡◌, ◌≢◌, ◌↔◌, ℕ, zero, suc, ◌+◌, ◌-◌, ◌<◌, ◌≤◌, ◌⊎◌, inl, inr, ◌++◌, ◌==◌, not, Bool, true, false, cond, List, [], ◌∷◌, length, get_or, map, take, drop, append_assoc, length-drop, refl, sym, ap, subst, arith, ◌∙◌, ⊎_elim}
use Rattle.std.specs.List.{All, Contains, flat_map, take_while}
use Rattle.std.proofs.lemmas.Bool.{cases_eq, false≢true, ne_eqb}
use Rattle.std.proofs.lemmas.Bool.Decides.{nat_tests}
use Rattle.std.proofs.lemmas.Grind.{flat_map-append}
use Rattle.std.proofs.lemmas.List.{append-nil, drop_all, drop_more, get_or-take, length-take-le, map-append, take_all, take_more}
use Rattle.std.proofs.lemmas.List.Elements.{All-nil, All-cons, All-append, All-contains, All-map, All-weaker, Contains-append_cases, Contains-append_left, Contains-append_right}
use Rattle.std.proofs.lemmas.List.Sums.{take_while-cons}
use Rattle.tg_model.specs.Walks.{Walk-map}
use Rattle.tg_word.specs.declared.Place.{Place}
use Rattle.tg_word.specs.Word.{place_in}
use Rattle.tg_subjects.specs.Subjects.{subject_places}
use Rattle.tg_subjects.specs.declared.subject.Subject.{Subject}
use Rattle.tg_block.specs.declared.CellKind.TheVariants.{Object, Chunk}
use Rattle.tg_index.specs.Bits.{bit_in}
use Rattle.tg_space.specs.SpaceList.{SpaceList, IsSpaceList, HasCell, cell_at, cells_of, flat_of}
use Rattle.tg_space.specs.Soundness.{AreSound, HasLayout, HasLayoutOf, IsLink, IsReference, IsRootIn, LinksTo, RefersTo}
use Rattle.tg_space.specs.Closure.{IsInClosure}
use Rattle.tg_space.specs.Collection.{Collected, IsCollection, IsMadeInOld}
use Rattle.tg_space.specs.Generations.{IsRowTarget, NamesYoung}
use Rattle.tg_space.specs.Rows.{chunks_from, link_at, link_of, row_of}
use Rattle.tg_space.specs.Targets.{all_root_targets, named_by, pointers_of, root_targets_of, target_in, targets_at, targets_of, young_spaces}
use Rattle.tg_space.specs.declared.kind.Kind.TheVariants.{Nursery}
use Rattle.tg_space.specs.declared.root.Root.{Root}
use Rattle.tg_space.specs.declared.root.Root.TheVariants.{Row, Remembered}
use Rattle.tg_space.specs.SpaceTable.{IsSpaceTable}
use Rattle.tg_space.proofs.Pointing.{parts}
use Rattle.tg_space.proofs.Tables.{table_list}
use Rattle.tg_graph.specs.Heap.{AddsRoots, CollectAlike, HeapState, IsRowRoot, IsWellFormed, NamesRow, roots_of}
use Rattle.tg_rows.specs.Index.{IsIndexed, IsOldPlace}
use Rattle.tg_rows.specs.Rows.{IsChain, IsVertexAt}
use Rattle.tg_rows.specs.declared.indexed_row.IndexedRow.{IndexedRow}
use Rattle.tg_rows.proofs.Chains.{chain_chunks, chain_enough, chain_short, row_held}
use Rattle.tg_graph.proofs.Heaps.{subject_vertex}
use Rattle.tg_graph.proofs.KeptAdopted.{old_stays}
use Rattle.tg_graph.proofs.KeptHeap.{remembered_cells, remembered_root}
use Rattle.tg_rows.proofs.Places.{layout_at}
use Rattle.tg_rows.proofs.Members.{Contains-flat_map, Contains-from_flat_map, Contains-from_map, Contains-here, Contains-map, Contains-more}

-- where a list that is too short would be read
abbrev nowhere : Place
nowhere = record { space = 0; block = 0; cell = 0 }

-- ---- cells of Old that name no young cell

-- words that name no young cell have no target
named_none : (h : SpaceList) (words : List ℕ) → ((word : ℕ) → Contains words word → (place_in word).space ≡ 0) → named_by young_spaces h words ≡ []
named_none h [] none = refl
named_none h (word ∷ words) none =
    let here : target_in young_spaces h word ≡ [] = one (none word (Contains-here word words)) (word == 0) in
    let rest = named_none h words (λ w has. none w (Contains-more word words w has)) in
    ap (λ (ts : List ℕ). ts ++ named_by young_spaces h words) here ∙ rest
  where
    one : (place_in word).space ≡ 0 → (b : Bool) → cond b [] (cond (young_spaces (place_in word).space) (flat_of h (place_in word) ∷ []) []) ≡ []
    one old true = refl
    one old false = rw old refl

-- a cell of Old that names no young one
record IsSilent (h : SpaceList) (p : Place) : Type 0 where
  held : HasCell h p
  old : p.space ≡ 0
  none : NamesYoung (cell_at h p) → ⊥

silent_targets : (h : SpaceList) (p : Place) → IsSilent h p → targets_at young_spaces h p ≡ []
silent_targets h p silent =
    named_none h (pointers_of (cell_at h p)) (λ word has. ⊎_elim (λ z. z) (λ young. absurd (silent.none (word, has, young))) (cases_eq (place_in word).space 0))

-- ---- a row in parts

-- the cells of a row that are met in Old
abbrev met : List Place → List Place
met ps = take_while (λ q. not (young_spaces q.space)) ps

-- the targets of these cells
abbrev pub all_targets : SpaceList → List Place → List ℕ
all_targets h ps = flat_map (targets_at young_spaces h) ps

abbrev targets : SpaceList → Place → List ℕ
targets h p = root_targets_of young_spaces h (Row p)

-- a cell of Old that is met, and those after it
in_front : (p : Place) (ps : List Place) → young_spaces p.space ≡ false → met (p ∷ ps) ≡ p ∷ met ps
in_front p ps stays = take_while-cons (λ (q : Place). not (young_spaces q.space)) p ps ∙ ap (λ (b : Bool). cond (not b) (p ∷ met ps) []) stays

-- after a young cell none is met
at_young : (p : Place) (ps : List Place) → young_spaces p.space ≡ true → met (p ∷ ps) ≡ []
at_young p ps moves = take_while-cons (λ (q : Place). not (young_spaces q.space)) p ps ∙ ap (λ (b : Bool). cond (not b) (p ∷ met ps) []) moves

-- the targets of a row that begins in Old
row_met : (h : SpaceList) (p : Place) → IsOldPlace p → targets h p ≡ all_targets h (met (row_of h p))
row_met h p stays = ap (λ (b : Bool). cond b (flat_of h p ∷ []) (all_targets h (met (row_of h p)))) stays

-- first so many cells of Old, then the others
met_parts : (h : SpaceList) (ps : List Place) (k : ℕ) → k ≤ length ps → All IsOldPlace (take k ps) → all_targets h (met ps) ≡ all_targets h (take k ps) ++ all_targets h (met (drop k ps))
met_parts h ps zero low old = refl
met_parts h [] (suc k) low old = absurd (omega arith)
met_parts h (p ∷ ps) (suc k) low old =
    ap (all_targets h) (in_front p ps (old zero p (omega arith)))
    ∙ ap (λ (ts : List ℕ). targets_at young_spaces h p ++ ts) (met_parts h ps k (omega arith) (λ j d below. old (suc j) d (omega arith)))
    ∙ sym (append_assoc (targets_at young_spaces h p) (all_targets h (take k ps)) (all_targets h (met (drop k ps))))

-- cells that have no target, after so many
silent_between : (h : SpaceList) (ps : List Place) (i n : ℕ) → i + n ≤ length ps → ((k : ℕ) (d : Place) → i ≤ k → k < i + n → targets_at young_spaces h (get_or ps k d) ≡ []) → all_targets h (take (i + n) ps) ≡ all_targets h (take i ps)
silent_between h ps i zero low silent = ap (λ k. all_targets h (take k ps)) (omega arith)
silent_between h ps i (suc n) low silent =
    let here : all_targets h (get_or ps (i + n) nowhere ∷ []) ≡ [] = ap (λ (ts : List ℕ). ts ++ []) (silent (i + n) nowhere (omega arith) (omega arith)) in
    ap (λ k. all_targets h (take k ps)) (omega arith)
    ∙ ap (all_targets h) (take_more ps (i + n) nowhere (omega arith))
    ∙ flat_map-append (targets_at young_spaces h) (take (i + n) ps) (get_or ps (i + n) nowhere ∷ [])
    ∙ ap (λ (ts : List ℕ). all_targets h (take (i + n) ps) ++ ts) here
    ∙ append-nil (all_targets h (take (i + n) ps))
    ∙ silent_between h ps i n (omega arith) (λ k d from below. silent k d from (omega arith))

-- the row from a later cell on
row_later : (h : SpaceList) (p : Place) (ps : List Place) → IsChain h (link_at h p) ps → length ps ≤ length (cells_of h) → (k : ℕ) (d : Place) → k < length (p ∷ ps) → row_of h (get_or (p ∷ ps) k d) ≡ drop k (p ∷ ps)
row_later h p ps ends short zero d low = ap (λ (qs : List Place). p ∷ qs) (chain_enough h ps (link_at h p) (length (cells_of h)) ends short)
row_later h p [] ends short (suc k) d low = absurd (omega arith)
row_later h p (q ∷ qs) ends short (suc k) d low = row_later h q qs ends.3 (omega arith) k d (omega arith)

module _ (h : SpaceList) (p : Place) (ps : List Place) (ends : IsChain h (link_at h p) ps) (short : length ps ≤ length (cells_of h)) (k : ℕ) (within : k ≤ length (p ∷ ps)) (old : All IsOldPlace (take k (p ∷ ps))) where
  whole : row_of h p ≡ p ∷ ps
  whole = row_later h p ps ends short zero p (omega arith)

  first_old : 0 < k → IsOldPlace p
  first_old some = subst IsOldPlace (get_or-take k (p ∷ ps) zero p some) (old zero p (omega (arith, length-take-le k (p ∷ ps) within)))

  split : 0 < k → targets h p ≡ all_targets h (take k (p ∷ ps)) ++ all_targets h (met (drop k (p ∷ ps)))
  split some = row_met h p (first_old some) ∙ ap (λ (qs : List Place). all_targets h (met qs)) whole ∙ met_parts h (p ∷ ps) k within old

  behind : (d : Place) → k < length (p ∷ ps) → drop k (p ∷ ps) ≡ get_or (p ∷ ps) k d ∷ drop (k + 1) (p ∷ ps)
  behind d low = drop_more (p ∷ ps) k d low

  -- no cell of the row is left
  pub ends_all : k ≡ length (p ∷ ps) → all_targets h (take k (p ∷ ps)) ≡ targets h p
  ends_all all =
      sym (split (omega (arith, all)) ∙ ap (λ (qs : List Place). all_targets h (take k (p ∷ ps)) ++ all_targets h (met qs)) (drop_all k (p ∷ ps) (omega (arith, all)))
      ∙ append-nil (all_targets h (take k (p ∷ ps))))

  -- the next cell is young
  pub ends_young : 0 < k → (d : Place) → k < length (p ∷ ps) → young_spaces (get_or (p ∷ ps) k d).space ≡ true → all_targets h (take k (p ∷ ps)) ≡ targets h p
  ends_young some d low moves =
      sym (split some
      ∙ ap (λ (qs : List Place). all_targets h (take k (p ∷ ps)) ++ all_targets h (met qs)) (behind d low)
      ∙ ap (λ (qs : List Place). all_targets h (take k (p ∷ ps)) ++ all_targets h qs) (at_young (get_or (p ∷ ps) k d) (drop (k + 1) (p ∷ ps)) moves)
      ∙ append-nil (all_targets h (take k (p ∷ ps))))

  -- the next cell is the object, or lies in Old
  pub ends_row : (d : Place) → k < length (p ∷ ps) → (k ≡ 0) ⊎ IsOldPlace (get_or (p ∷ ps) k d) → all_targets h (take k (p ∷ ps)) ++ targets h (get_or (p ∷ ps) k d) ≡ targets h p
  ends_row d low either = by_first (cases_eq k 0) either
    where
      by_first : (k ≡ 0) ⊎ (k ≢ 0) → (k ≡ 0) ⊎ IsOldPlace (get_or (p ∷ ps) k d) → all_targets h (take k (p ∷ ps)) ++ targets h (get_or (p ∷ ps) k d) ≡ targets h p
      by_first (inl none) _ = ap (λ n. all_targets h (take n (p ∷ ps)) ++ targets h (get_or (p ∷ ps) n d)) none
      by_first (inr some) (inl none) = absurd (some none)
      by_first (inr some) (inr here) =
          ap (λ (ts : List ℕ). all_targets h (take k (p ∷ ps)) ++ ts)
          (row_met h (get_or (p ∷ ps) k d) here ∙ ap (λ (qs : List Place). all_targets h (met qs)) (row_later h p ps ends short k d low))
          ∙ sym (split (omega (arith, some)))

-- ---- roots that come behind others

pub both_added : (h : SpaceList) (ts us : List ℕ) (roots mid later : List Root) → AddsRoots h ts roots mid → AddsRoots h us mid later → AddsRoots h (ts ++ us) roots later
both_added h ts us roots mid later one two = record {
  more = one.more ++ two.more;
  is = two.is ∙ ap (λ (rs : List Root). rs ++ two.more) one.is ∙ append_assoc roots one.more two.more;
  rows = All-append (IsRowRoot h) one.more two.more one.rows two.rows;
  targets = flat_map-append (root_targets_of young_spaces h) one.more two.more ∙ ap (λ (xs : List ℕ). xs ++ all_root_targets young_spaces h two.more) one.targets ∙ ap (λ (xs : List ℕ). ts ++ xs) two.targets;
}

pub row_added : (h : SpaceList) (roots later : List Root) (p : Place) → IsRootIn h (Row p) → later ≡ roots ++ Row p ∷ [] → AddsRoots h (targets h p) roots later
row_added h roots later p sound is = record {
  more = Row p ∷ [];
  is = is;
  rows = All-cons (IsRowRoot h) (Row p) [] (record { cell = p; is = refl; sound = sound }) (All-nil (IsRowRoot h));
  targets = append-nil (targets h p);
}

-- ---- the words of a cell

-- a word that names a young cell has the targets of the row that begins there
word_added : (h : SpaceList) (word : ℕ) → young_spaces (place_in word).space ≡ true → target_in young_spaces h word ≡ targets h (place_in word)
word_added h word moves = by_word (cases_eq word 0)
  where
    by_word : (word ≡ 0) ⊎ (word ≢ 0) → target_in young_spaces h word ≡ targets h (place_in word)
    by_word (inl none) = let no : young_spaces (place_in 0).space ≡ true = subst (λ w. young_spaces (place_in w).space ≡ true) none moves in absurd (false≢true no)
    by_word (inr some) = rw (ne_eqb word 0 some, moves) refl

-- what a word names came to the roots
pub word_named : (h : SpaceList) (word : ℕ) → young_spaces (place_in word).space ≡ true → NamesRow h word → (roots later : List Root) → later ≡ roots ++ Row (place_in word) ∷ [] → AddsRoots h (target_in young_spaces h word) roots later
word_named h word moves names roots later is =
    subst (λ (ts : List ℕ). AddsRoots h ts roots later) (sym (word_added h word moves)) (row_added h roots later (place_in word) (names (λ none. false≢true (sym (ap young_spaces none) ∙ moves))) is)

-- one more word
pub words_more : (h : SpaceList) (words : List ℕ) (i d : ℕ) → i < length words → (roots mid later : List Root) → AddsRoots h (named_by young_spaces h (take i words)) roots mid → AddsRoots h (target_in young_spaces h (get_or words i d)) mid later →
    AddsRoots h (named_by young_spaces h (take (i + 1) words)) roots later
words_more h words i d low roots mid later before here =
    subst (λ (ts : List ℕ). AddsRoots h ts roots later)
    (sym (ap (named_by young_spaces h) (take_more words i d low)
    ∙ flat_map-append (target_in young_spaces h) (take i words) (get_or words i d ∷ [])
    ∙ ap (λ (ts : List ℕ). named_by young_spaces h (take i words) ++ ts) (append-nil (target_in young_spaces h (get_or words i d)))))
    (both_added h (named_by young_spaces h (take i words)) (target_in young_spaces h (get_or words i d)) roots mid later before here)

-- the words from one on
pub rest_taken : (words : List ℕ) (n k : ℕ) → length words ≤ n + k → take k (drop n words) ≡ drop n words
rest_taken words n k low = take_all k (drop n words) (omega (arith, length-drop n words))

-- references name objects and links chunks
names_row : (h : SpaceList) (word : ℕ) → IsReference h word ⊎ IsLink h word → NamesRow h word
names_row h word either young = ⊎_elim
    (λ reference. ⊎_elim (λ none. absurd (no_word none)) (λ (r : RefersTo h word). inl r.object) reference)
    (λ link. ⊎_elim (λ none. absurd (no_word none)) (λ (r : LinksTo h word). inr r.chunk) link)
    either
  where
    no_word : word ≡ 0 → ⊥
    no_word none = young (ap (λ w. (place_in w).space) none)

cell_parts : (h : SpaceList) (words : List ℕ) → length words ≡ 8 → (n m : ℕ) → n + m ≡ 7 → All (IsReference h) (take m (drop n words)) → IsLink h (link_of words) → All (NamesRow h) (drop n words)
cell_parts h words long n m sum references link =
    subst (λ (ws : List ℕ). All (NamesRow h) ws) (sym (parts h words long n m sum))
    (All-append (NamesRow h) (take m (drop n words)) (link_of words ∷ [])
    (All-weaker (IsReference h) (NamesRow h) (λ word is. names_row h word (inl is)) (take m (drop n words)) references)
    (All-cons (NamesRow h) (link_of words) [] (names_row h (link_of words) (inr link)) (All-nil (NamesRow h))))

pub cell_names_rows : (h : SpaceList) (words : List ℕ) → length words ≡ 8 → HasLayout h words → All (NamesRow h) (pointers_of words)
cell_names_rows h words long layout = by_tests (get_or words 0 0 == 0) refl (get_or words 0 0 == 1) refl (get_or words 0 0 == 2) refl
  where
    none_left : All (NamesRow h) (drop 8 words)
    none_left = subst (λ (ws : List ℕ). All (NamesRow h) ws) (sym (drop_all 8 words (omega arith))) (All-nil (NamesRow h))

    by_tests : (z : Bool) → (get_or words 0 0 == 0) ≡ z → (o : Bool) → (get_or words 0 0 == 1) ≡ o → (k : Bool) → (get_or words 0 0 == 2) ≡ k → All (NamesRow h) (pointers_of words)
    by_tests true z _ _ _ _ = let zero_tag : get_or words 0 0 ≡ 0 = grind (arith, nat_tests) in rw zero_tag none_left
    by_tests false z true o _ _ = let shape : HasLayoutOf h words Object = rw (z, o) at layout in rw o (cell_parts h words long 4 3 refl shape.1 shape.2)
    by_tests false z false o true k = let shape : HasLayoutOf h words Chunk = rw (z, o, k) at layout in rw (o, k) (cell_parts h words long 1 6 refl shape.0 shape.1)
    by_tests false z false o false k = rw (o, k) none_left

-- ---- the row of an active subject

-- the index is that of the row of an active subject
pub record IsRowOf (s : HeapState) (x : Subject) (row : IndexedRow) : Type 0 where
  pub formed : IsWellFormed s
  pub whole : IsSpaceList s.table.spaces
  pub vertex : IsVertexAt s.table.spaces x.name x.place
  pub indexed : IsIndexed s.table.spaces s.remembered x.name row

-- of a heap s, which contracts see as `seen`
pub row_is : (s seen : HeapState) → s ≡ seen → IsWellFormed s → IsSpaceTable s.table → (x : Subject) (row : IndexedRow) → Contains seen.subjects x → IsIndexed seen.table.spaces seen.remembered x.name row → IsRowOf seen x row
row_is s seen same formed table x row there indexed =
    let formed_too = subst IsWellFormed same formed in
    record {
      formed = formed_too;
      whole = subst (λ (heap : HeapState). IsSpaceList heap.table.spaces) same (table_list s.table table);
      vertex = subject_vertex seen formed_too x.name x (record { there = there; named = refl });
      indexed = indexed;
    }

module _ (s : HeapState) (x : Subject) (row : IndexedRow) (is : IsRowOf s x row) where
  abbrev h : SpaceList
  h = s.table.spaces

  abbrev p : Place
  p = x.place

  abbrev qs : List Place
  qs = chunks_from h (length (cells_of h)) (link_at h p)

  ends : IsChain h (link_at h p) qs
  ends = is.formed.graph.ends p is.vertex.object

  pub row_cells : row.cells.items ≡ p ∷ qs
  row_cells = subst (λ (r : Place). row.cells.items ≡ row_of h r) (is.formed.graph.names is.indexed.place p is.indexed.vertex.object is.vertex.object (is.indexed.vertex.named ∙ sym is.vertex.named)) is.indexed.index.cells

  held : All (HasCell h) (p ∷ qs)
  held = row_held h p qs is.vertex.object ends

  short : length (p ∷ qs) ≤ length (cells_of h)
  short = chain_short h is.whole [] is.formed.graph.sound p qs is.vertex.object ends

  kind : (k : ℕ) (d : Place) → k < length (p ∷ qs) → IsRootIn h (Row (get_or (p ∷ qs) k d))
  kind zero d low = inl is.vertex.object
  kind (suc k) d low = inr (chain_chunks h qs (link_at h p) ends k d (omega arith))

  -- a cell of the row by its number
  pub cell_held : (k : ℕ) (d : Place) → k < length row.cells.items → HasCell h (get_or row.cells.items k d)
  cell_held k d low = subst (λ (ps : List Place). HasCell h (get_or ps k d)) (sym row_cells) (held k d (subst (λ (ps : List Place). k < length ps) row_cells low))

  pub cell_layout : (k : ℕ) (d : Place) → k < length row.cells.items → HasLayout h (cell_at h (get_or row.cells.items k d))
  cell_layout k d low = layout_at h is.whole [] is.formed.graph.sound (get_or row.cells.items k d) (cell_held k d low)

  pub cell_root : (k : ℕ) (d : Place) → k < length row.cells.items → IsRootIn h (Row (get_or row.cells.items k d))
  cell_root k d low = subst (λ (ps : List Place). IsRootIn h (Row (get_or ps k d))) (sym row_cells) (kind k d (subst (λ (ps : List Place). k < length ps) row_cells low))

  -- one that isn't marked, and is known to lie in Old, has no young target
  unmarked_silent : (k : ℕ) (d : Place) → k < row.old_cells → bit_in row.noted k ≡ 0 → targets_at young_spaces h (get_or row.cells.items k d) ≡ []
  unmarked_silent k d low none =
      let within = is.indexed.marked.aged.within in
      let old : IsOldPlace (get_or row.cells.items k d) = subst IsOldPlace (get_or-take row.old_cells row.cells.items k d low) (is.indexed.marked.aged.cells k d (omega (arith, low, length-take-le row.old_cells row.cells.items within))) in
      let there = cell_held k d (omega arith) in
      let space = old_stays (get_or row.cells.items k d).space old in
      silent_targets h (get_or row.cells.items k d) (record {
        held = there;
        old = space;
        none = λ names.
            let noted = is.formed.remembered.all (get_or row.cells.items k d) (record { held = there; space = space }) names in
            let one = is.indexed.marked.marked k d low noted in
            omega (arith, none, one);
      })

  -- the targets up to the next marked cell are those of the cells before
  pub skipped : (from later : ℕ) → from ≤ later → later ≤ row.old_cells → ((m : ℕ) → from ≤ m → m < later → bit_in row.noted m ≡ 0) → all_targets h (take later row.cells.items) ≡ all_targets h (take from row.cells.items)
  skipped from later low within unset =
      let inside = is.indexed.marked.aged.within in
      let sum : from + (later - from) ≡ later = omega arith in
      ap (λ n. all_targets h (take n row.cells.items)) (sym sum)
      ∙ silent_between h row.cells.items from (later - from) (omega arith) (λ k d above below. unmarked_silent k d (omega arith) (unset k above (omega arith)))

  -- one more cell
  pub stepped : (from number : ℕ) (d : Place) → from ≤ number → number < row.old_cells → ((m : ℕ) → from ≤ m → m < number → bit_in row.noted m ≡ 0) → (roots mid later : List Root) → AddsRoots h (all_targets h (take from row.cells.items)) roots mid →
      AddsRoots h (targets_at young_spaces h (get_or row.cells.items number d)) mid later → AddsRoots h (all_targets h (take (number + 1) row.cells.items)) roots later
  stepped from number d low within unset roots mid later before here =
      let inside = is.indexed.marked.aged.within in
      subst (λ (ts : List ℕ). AddsRoots h ts roots later)
      (sym (ap (all_targets h) (take_more row.cells.items number d (omega arith)) ∙ flat_map-append (targets_at young_spaces h) (take number row.cells.items) (get_or row.cells.items number d ∷ [])
      ∙ ap (λ (ts : List ℕ). ts ++ (targets_at young_spaces h (get_or row.cells.items number d) ++ [])) (skipped from number low (omega arith) unset)
      ∙ ap (λ (ts : List ℕ). all_targets h (take from row.cells.items) ++ ts) (append-nil (targets_at young_spaces h (get_or row.cells.items number d)))))
      (both_added h (all_targets h (take from row.cells.items)) (targets_at young_spaces h (get_or row.cells.items number d)) roots mid later before here)

  -- the whole row
  known : All IsOldPlace (take row.old_cells (p ∷ qs))
  known = subst (λ (ps : List Place). All IsOldPlace (take row.old_cells ps)) row_cells is.indexed.marked.aged.cells

  within_row : row.old_cells ≤ length (p ∷ qs)
  within_row = subst (λ (ps : List Place). row.old_cells ≤ length ps) row_cells is.indexed.marked.aged.within

  all_known : (from : ℕ) → from ≤ row.old_cells → ((m : ℕ) → from ≤ m → bit_in row.noted m ≡ 0) → all_targets h (take row.old_cells (p ∷ qs)) ≡ all_targets h (take from row.cells.items)
  all_known from low unset = ap (λ (ps : List Place). all_targets h (take row.old_cells ps)) (sym row_cells) ∙ skipped from row.old_cells low (omega arith) (λ m above below. unset m above)

  pub row_done : (from : ℕ) → from ≤ row.old_cells → ((m : ℕ) → from ≤ m → bit_in row.noted m ≡ 0) → row.old_cells ≡ length row.cells.items → (roots later : List Root) → AddsRoots h (all_targets h (take from row.cells.items)) roots later → AddsRoots h (targets h p) roots later
  row_done from low unset all roots later added =
      let few = short in
      subst (λ (ts : List ℕ). AddsRoots h ts roots later)
      (sym (all_known from low unset) ∙ ends_all h p qs ends (omega arith) row.old_cells within_row known (all ∙ ap (λ (ps : List Place). length ps) row_cells)) added

  pub row_young : (from : ℕ) → from ≤ row.old_cells → ((m : ℕ) → from ≤ m → bit_in row.noted m ≡ 0) → 0 < row.old_cells → (d : Place) → row.old_cells < length row.cells.items → young_spaces (get_or row.cells.items row.old_cells d).space ≡ true →
      (roots later : List Root) → AddsRoots h (all_targets h (take from row.cells.items)) roots later → AddsRoots h (targets h p) roots later
  row_young from low unset some d inside moves roots later added =
      let few = short in
      subst (λ (ts : List ℕ). AddsRoots h ts roots later)
      (sym (all_known from low unset)
      ∙ ends_young h p qs ends (omega arith) row.old_cells within_row known some d (subst (λ (ps : List Place). row.old_cells < length ps) row_cells inside) (subst (λ (ps : List Place). young_spaces (get_or ps row.old_cells d).space ≡ true) row_cells moves))
      added

  pub row_rest : (from : ℕ) → from ≤ row.old_cells → ((m : ℕ) → from ≤ m → bit_in row.noted m ≡ 0) → (d : Place) → row.old_cells < length row.cells.items → (row.old_cells ≡ 0) ⊎ IsOldPlace (get_or row.cells.items row.old_cells d) →
      (roots mid later : List Root) → AddsRoots h (all_targets h (take from row.cells.items)) roots mid → later ≡ mid ++ Row (get_or row.cells.items row.old_cells d) ∷ [] → AddsRoots h (targets h p) roots later
  row_rest from low unset d inside either roots mid later added pushed =
      let few = short in
      let rest = get_or row.cells.items row.old_cells d in
      subst (λ (ts : List ℕ). AddsRoots h ts roots later)
      (ap (λ (ts : List ℕ). ts ++ targets h rest) (sym (all_known from low unset))
      ∙ ap (λ (ps : List Place). all_targets h (take row.old_cells (p ∷ qs)) ++ targets h (get_or ps row.old_cells d)) row_cells
      ∙ ends_row h p qs ends (omega arith) row.old_cells within_row known d (subst (λ (ps : List Place). row.old_cells < length ps) row_cells inside)
      (subst (λ (ps : List Place). (row.old_cells ≡ 0) ⊎ IsOldPlace (get_or ps row.old_cells d)) row_cells either))
      (both_added h (all_targets h (take from row.cells.items)) (targets h rest) roots mid later added (row_added h mid later rest (cell_root row.old_cells d inside) pushed))

-- ---- all rows

-- one more subject
pub more_rows : (h : SpaceList) (ps : List Place) (n : ℕ) (d : Place) → n < length ps → (roots mid later : List Root) → AddsRoots h (all_root_targets young_spaces h (map (λ p. Row p) (take n ps))) roots mid → AddsRoots h (targets h (get_or ps n d)) mid later →
    AddsRoots h (all_root_targets young_spaces h (map (λ p. Row p) (take (n + 1) ps))) roots later
more_rows h ps n d low roots mid later before here =
    subst (λ (ts : List ℕ). AddsRoots h ts roots later)
    (sym (ap (λ (qs : List Place). all_root_targets young_spaces h (map (λ p. Row p) qs)) (take_more ps n d low)
    ∙ ap (all_root_targets young_spaces h) (map-append (λ p. Row p) (take n ps) (get_or ps n d ∷ []))
    ∙ flat_map-append (root_targets_of young_spaces h) (map (λ p. Row p) (take n ps)) (Row (get_or ps n d) ∷ [])
    ∙ ap (λ (ts : List ℕ). all_root_targets young_spaces h (map (λ p. Row p) (take n ps)) ++ ts) (append-nil (targets h (get_or ps n d)))))
    (both_added h (all_root_targets young_spaces h (map (λ p. Row p) (take n ps))) (targets h (get_or ps n d)) roots mid later before here)

-- ---- roots whose targets are the same

-- Each row and each remembered cell among the roots has one among the others with the same targets.
record HaveTargetsIn (h : SpaceList) (roots others : List Root) : Type 0 where
  rows : (c : ℕ) → IsRowTarget h roots c → IsRowTarget h others c
  cells : (p : Place) → Contains roots (Remembered p) → Contains others (Remembered p)

-- what is a collection from some roots is one from others with the same targets
collected_from : (h : SpaceList) (roots others : List Root) → all_root_targets young_spaces h roots ≡ all_root_targets young_spaces h others → HaveTargetsIn h roots others → HaveTargetsIn h others roots →
    (made : Collected) → IsCollection Nursery h roots made → IsCollection Nursery h others made
collected_from h roots others same to back made is = record {
  whole = is.whole;
  reached = λ c low. subst (λ (ts : List ℕ). (get_or made.forward c 0 ≢ 0) ↔ IsInClosure ts (targets_of young_spaces h) c) same (is.reached c low);
  words = is.words;
  placed = is.placed;
  copied = is.copied;
  apart = is.apart;
  rest = is.rest;
  generations = record {
    aged = is.generations.aged;
    to_aged = λ c nursery goes. Walk-map to.rows (λ b d edge. edge) c (is.generations.to_aged c nursery goes);
    to_old = λ c nursery goes. Walk-map (λ x. ⊎_elim (λ target. inl (target.0, to.cells target.0 target.1, target.2)) (λ aged_cell. inr aged_cell)) (λ b d edge. edge) c (is.generations.to_old c nursery goes);
  };
  noted = λ p. (
    λ has. let given = (is.noted p).0 has in (given.0, in_old roots others to p given.0 given.1, given.2),
    λ given. (is.noted p).1 (given.0, in_old others roots back p given.0 given.1, given.2),
  );
  none_aged = is.none_aged;
  few = is.few;
}
  where
    in_old : (some more : List Root) → HaveTargetsIn h some more → (p : Place) (words : List ℕ) → IsMadeInOld Nursery h some made.forward made.aged made.old p words → IsMadeInOld Nursery h more made.forward made.aged made.old p words
    in_old some more among p words = ⊎_elim (λ new. inl new) (λ cell. inr (among.cells p cell.0, cell.1))

-- ---- a collection from them

module _ (s : HeapState) (formed : IsWellFormed s) (starts : List Root) (are : AddsRoots s.table.spaces (all_root_targets young_spaces s.table.spaces (map (λ p. Row p) (subject_places s.subjects))) [] starts) where
  abbrev spaces : SpaceList
  spaces = s.table.spaces

  abbrev cells : List Root
  cells = map (λ p. Remembered p) s.remembered

  abbrev wholes : List Root
  wholes = map (λ p. Row p) (subject_places s.subjects)

  rows : All (IsRowRoot spaces) starts
  rows = subst (All (IsRowRoot spaces)) (sym are.is) are.rows

  same_targets : all_root_targets young_spaces spaces starts ≡ all_root_targets young_spaces spaces wholes
  same_targets = ap (all_root_targets young_spaces spaces) are.is ∙ are.targets

  pub starts_sound : AreSound spaces (starts ++ cells)
  starts_sound = record {
    cells = formed.graph.sound.cells;
    links = formed.graph.sound.links;
    roots_held = All-append (IsRootIn spaces) starts cells (All-weaker (IsRowRoot spaces) (IsRootIn spaces) (λ root row. row.sound) starts rows) (All-map (IsRootIn spaces) (λ p. Remembered p) s.remembered (remembered_cells s formed));
  }

  pub all_same : all_root_targets young_spaces spaces (starts ++ cells) ≡ all_root_targets young_spaces spaces (roots_of Nursery s)
  all_same =
      flat_map-append (root_targets_of young_spaces spaces) starts cells
      ∙ ap (λ (ts : List ℕ). ts ++ all_root_targets young_spaces spaces cells) same_targets
      ∙ sym (flat_map-append (root_targets_of young_spaces spaces) wholes cells)

  -- a row is none of the remembered cells
  no_cell : (q : Place) → Contains cells (Row q) → ⊥
  no_cell q has =
      let cell = Contains-from_map (λ (p : Place). Remembered p) s.remembered (Row q) has in
      let no : Remembered cell.0 ≡ Row q = cell.2 in
      absurd cc

  no_start : (p : Place) → Contains starts (Remembered p) → ⊥
  no_start p has =
      let row = All-contains (IsRowRoot spaces) starts (Remembered p) rows has in
      let no : Remembered p ≡ Row row.cell = row.is in
      absurd cc

  start_targets : HaveTargetsIn spaces (starts ++ cells) (roots_of Nursery s)
  start_targets = record {
    rows = λ c target.
        let start : Contains starts (Row target.0) = ⊎_elim (λ here. here) (λ cell. absurd (no_cell target.0 cell)) (Contains-append_cases starts cells (Row target.0) target.1) in
        let among = Contains-flat_map (root_targets_of young_spaces spaces) starts (Row target.0) c start target.2 in
        let found = Contains-from_flat_map (root_targets_of young_spaces spaces) wholes c (subst (λ (ts : List ℕ). Contains ts c) same_targets among) in
        let row = Contains-from_map (λ (p : Place). Row p) (subject_places s.subjects) found.0 found.1 in
        (row.0, Contains-append_left wholes cells (Row row.0) (Contains-map (λ (p : Place). Row p) (subject_places s.subjects) row.0 row.1), subst (λ (root : Root). Contains (root_targets_of young_spaces spaces root) c) (sym row.2) found.2);
    cells = λ p has.
        ⊎_elim (λ start. absurd (no_start p start)) (λ cell. Contains-append_right wholes cells (Remembered p) cell) (Contains-append_cases starts cells (Remembered p) has);
  }

  whole_targets : HaveTargetsIn spaces (roots_of Nursery s) (starts ++ cells)
  whole_targets = record {
    rows = λ c target.
        let whole : Contains wholes (Row target.0) = ⊎_elim (λ here. here) (λ cell. absurd (no_cell target.0 cell)) (Contains-append_cases wholes cells (Row target.0) target.1) in
        let among = Contains-flat_map (root_targets_of young_spaces spaces) wholes (Row target.0) c whole target.2 in
        let found = Contains-from_flat_map (root_targets_of young_spaces spaces) starts c (subst (λ (ts : List ℕ). Contains ts c) (sym same_targets) among) in
        let row = All-contains (IsRowRoot spaces) starts found.0 rows found.1 in (
          row.cell,
          Contains-append_left starts cells (Row row.cell) (subst (Contains starts) row.is found.1),
          subst (λ (root : Root). Contains (root_targets_of young_spaces spaces root) c) row.is found.2,
        );
    cells = λ p has. Contains-append_right starts cells (Remembered p) (Contains-map (λ (q : Place). Remembered q) s.remembered p ((remembered_root s formed p).0 has));
  }

  pub starts_collect : CollectAlike Nursery spaces (roots_of Nursery s) (starts ++ cells)
  starts_collect made = (
    collected_from spaces (roots_of Nursery s) (starts ++ cells) (sym all_same) whole_targets start_targets made,
    collected_from spaces (starts ++ cells) (roots_of Nursery s) all_same start_targets whole_targets made,
  )

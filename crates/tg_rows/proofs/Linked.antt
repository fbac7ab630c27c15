-- A chunk is linked to the end of a row, and what a written value makes of the graph.
use Rattle.std.proofs.Common.{[], ◌≡◌, ◌≢◌, ◌↔◌, ℕ, ◌<◌, ◌≤◌, ◌⊎◌, ◌==◌, inl, inr, true, false, List, ◌∷◌, ◌++◌, length, get_or, set, Option, Some, IsSome, refl, sym, ap, subst, arith, ◌∙◌, ⊎_elim}
use Rattle.std.specs.List.{All, Contains}
use Rattle.std.proofs.lemmas.Bool.{cases_eq}
use Rattle.std.proofs.lemmas.Bool.Decides.{eqb_tells}
use Rattle.std.proofs.lemmas.List.{append-nil}
use Rattle.std.proofs.lemmas.List.Concat.{flat_map-append}
use Rattle.std.proofs.lemmas.List.Elements.{All-append, All-from_recursion, All-weaker}
use Rattle.tg_rights.specs.RightSet.{RightSet, no_rights}
use Rattle.tg_model.specs.declared.value.Value.{Value}
use Rattle.tg_model.specs.Rules.{with_value}
use Rattle.tg_word.specs.declared.Place.{Place}
use Rattle.tg_word.specs.Word.{IsPlace, link_to, place_in, rights_in}
use Rattle.tg_word.proofs.Packing.{is_present-word_at, place_in-word_at, rights_in-word_at, word_at-above_zero}
use Rattle.tg_block.specs.Cells.{kind_of}
use Rattle.tg_block.specs.declared.CellKind.TheVariants.{Free, Object, Chunk}
use Rattle.tg_space.specs.SpaceList.{SpaceList, IsSpaceList, HasCell, cell_at, cells_of, with_cell_at, with_word_at}
use Rattle.tg_space.specs.Soundness.{IsKindAt, IsReference, RefersTo, IsLink, LinksTo}
use Rattle.tg_space.specs.Rows.{link_of, chunks_from, link_at, row_of}
use Rattle.tg_space.specs.Targets.{first_pointer}
use Rattle.tg_payload.specs.Table.{Payloads, Updates, entry}
use Rattle.tg_rows.specs.Content.{IsNamed}
use Rattle.tg_rows.specs.Rows.{IsChain, key_at, name_at, name_in, references_of, row_words, words_of}
use Rattle.tg_rows.specs.Graph.{IsGraph, content_in}
use Rattle.tg_rows.specs.Spots.{chunk_words}
use Rattle.tg_rows.proofs.Members.{Contains-cases, Contains-none}
use Rattle.tg_rows.proofs.Places.{cell_long, layout_at, links_apart, held_place}
use Rattle.tg_rows.proofs.Layouts.{RowCell, apart_kinds, empty_present, link_some, references_at}
use Rattle.tg_rows.proofs.Lookups.{label_at, label_is, label_nowhere, name_of_vertex, value_at, value_nowhere, vertex_of_name}
use Rattle.tg_rows.proofs.Chains.{chain_whole, row_held, row_references}
use Rattle.tg_rows.proofs.Changes.{cell_kept, cell_written, holds_written, list_written, same_or_other}
use Rattle.tg_rows.proofs.Slots.{IsOther, puts_appended}
use Rattle.tg_rows.proofs.Changed.{Becomes, Shows, Stays, becomes_then, flat_map_same, links_by_cells, name_stays, one_row, reference_stays, row_by_links, shown_content, shown_graph, with_label, words_by_cells}
use Rattle.tg_rows.proofs.Finding.{cell_held, row_kind, row_low}
use Rattle.tg_rows.proofs.Fresh.{chunk_placed, fresh_same, fresh_stays, row_used}
use Rattle.tg_rows.proofs.Written.{here, held_before, link_set, outside, outside_rows, references_same, there, was_row, word_back, word_layouts, word_spaces, word_stays}

module _ (h : SpaceList) (payloads : Payloads) (is : IsSpaceList h) (graph : IsGraph h payloads) (p last q : Place) (object : IsKindAt h Object p) (has : Contains (row_of h p) last) (ends_here : link_at h last ≡ 0)
    (chunk : IsKindAt h Chunk q) (no_link : link_at h q ≡ 0) (unlinked : (c : Place) → HasCell h c → link_at h c ≢ 0 → place_in (link_at h c) ≢ q) where
  abbrev chunks : List Place
  chunks = chunks_from h (length (cells_of h)) (link_at h p)

  abbrev linked : SpaceList
  linked = with_word_at h last 7 (link_to q)

  ends : IsChain h (link_at h p) chunks
  ends = graph.ends p object

  held : HasCell h last
  held = cell_held h payloads is graph p object last has

  last_kind : IsKindAt h Object last ⊎ IsKindAt h Chunk last
  last_kind = row_kind h payloads is graph p object last has

  low : first_pointer (get_or (cell_at h last) 0 0) ≤ 7
  low = row_low h payloads is graph p object last has

  high : 7 < 8
  high = omega arith

  stays : Stays h linked
  stays = word_stays h payloads is graph last held 7 (link_to q) low high

  link_place : IsPlace q
  link_place = held_place h is q chunk.held

  link_is : link_at linked last ≡ link_to q
  link_is =
      ap link_of (here h payloads is graph last held 7 (link_to q) low high) ∙ link_set (cell_at h last) (cell_long h is last held) 7 (link_to q) low high refl

  link_kept : (r : Place) → r ≢ last → link_at linked r ≡ link_at h r
  link_kept r other = ap link_of (there h payloads is graph last held 7 (link_to q) low high r other)

  references_kept : (r : Place) → references_of (cell_at linked r) ≡ references_of (cell_at h r)
  references_kept r = by_place (same_or_other r last)
    where
      by_place : (r ≡ last) ⊎ (r ≢ last) → references_of (cell_at linked r) ≡ references_of (cell_at h r)
      by_place (inl same) =
          ap (λ (s : Place). references_of (cell_at linked s)) same ∙ ap references_of (here h payloads is graph last held 7 (link_to q) low high)
          ∙ references_same (cell_at h last) (cell_long h is last held) 7 (link_to q) low high refl ∙ ap (λ (s : Place). references_of (cell_at h s)) (sym same)
      by_place (inr other) = ap references_of (there h payloads is graph last held 7 (link_to q) low high r other)

  links_to : LinksTo linked (link_to q)
  links_to = record {
    present = is_present-word_at no_rights q link_place;
    rights = rights_in-word_at no_rights q link_place;
    chunk = subst (IsKindAt linked Chunk) (sym (place_in-word_at no_rights q link_place)) (stays.chunks q chunk);
  }

  linked_row : RowCell linked (set (cell_at h last) 7 (link_to q))
  linked_row =
      let was = was_row h payloads is graph last held 7 (link_to q) low high in
      record {
        references = subst (All (IsReference linked)) (sym (references_same (cell_at h last) (cell_long h is last held) 7 (link_to q) low high refl))
            (All-weaker (IsReference h) (IsReference linked) (reference_stays h linked stays) (references_of (cell_at h last)) was.references);
        link = subst (IsLink linked) (sym (link_set (cell_at h last) (cell_long h is last held) 7 (link_to q) low high refl)) (inr links_to);
      }

  -- nothing else links to the chunk
  new_link : (r : Place) → HasCell linked r → r ≢ last → link_at linked r ≢ link_to q
  new_link r held_r other same =
      let before : link_at h r ≡ link_to q = sym (link_kept r other) ∙ same in
      let some : link_at h r ≢ 0 = λ z. let zero_link : link_to q ≡ 0 = sym before ∙ z in let above = word_at-above_zero no_rights q link_place in omega arith in
      unlinked r (held_before h payloads is graph last held 7 (link_to q) low high r held_r) some (ap place_in before ∙ place_in-word_at no_rights q link_place)

  linked_links : (r s : Place) → HasCell linked r → HasCell linked s → link_at linked r ≢ 0 → link_at linked r ≡ link_at linked s → r ≡ s
  linked_links r s held_r held_s some same = by_places (same_or_other r last) (same_or_other s last)
    where
      by_places : (r ≡ last) ⊎ (r ≢ last) → (s ≡ last) ⊎ (s ≢ last) → r ≡ s
      by_places (inl one) (inl two) = one ∙ sym two
      by_places (inl one) (inr other) = absurd (new_link s held_s other (sym same ∙ ap (link_at linked) one ∙ link_is))
      by_places (inr other) (inl two) = absurd (new_link r held_r other (same ∙ ap (link_at linked) two ∙ link_is))
      by_places (inr one) (inr two) =
          let before_r = held_before h payloads is graph last held 7 (link_to q) low high r held_r in
          let before_s = held_before h payloads is graph last held 7 (link_to q) low high s held_s in
          links_apart h is [] graph.sound r s before_r before_s (λ z. some (link_kept r one ∙ z)) (sym (link_kept r one) ∙ same ∙ link_kept s two)

  -- the chain with the chunk at its end
  last_link : IsChain linked (link_at linked last) (q ∷ [])
  last_link =
      let above = word_at-above_zero no_rights q link_place in
      let other : q ≢ last = λ same. by_place same last_kind in (
        (λ z. let zero_link : link_to q ≡ 0 = sym link_is ∙ z in omega arith),
        (ap place_in link_is ∙ place_in-word_at no_rights q link_place),
        stays.chunks q chunk,
        (link_kept q other ∙ no_link),
      )
    where
      -- the chunk is in no row, since nothing links to it
      outside : (r : Place) (rs : List Place) → IsChain h (link_at h r) rs → HasCell h r → Contains rs q → ⊥
      outside r [] is_chain held_r inside = Contains-none q inside
      outside r (s ∷ rs) is_chain held_r inside =
          ⊎_elim
          (λ same. unlinked r held_r is_chain.0 (is_chain.1 ∙ same))
          (λ rest. outside s rs is_chain.3 is_chain.2.held rest)
          (Contains-cases s rs q inside)

      by_place : q ≡ last → IsKindAt h Object last ⊎ IsKindAt h Chunk last → ⊥
      by_place same kind =
          ⊎_elim
          (λ first. apart_kinds h p object (subst (IsKindAt h Chunk) (same ∙ sym first) chunk))
          (λ rest. outside p chunks ends object.held (subst (Contains chunks) (sym same) rest))
          (Contains-cases p chunks last has)

  chain_extended : (r : Place) (rs : List Place) → IsChain h (link_at h r) rs → Contains (r ∷ rs) last → IsChain linked (link_at linked r) (rs ++ q ∷ [])
  chain_extended r [] is_chain inside =
      ⊎_elim (λ same. subst (λ (s : Place). IsChain linked (link_at linked s) (q ∷ [])) (sym same) last_link) (λ none. absurd (Contains-none last none)) (Contains-cases r [] last inside)
  chain_extended r (s ∷ rs) is_chain inside =
      let other : r ≢ last = λ same. is_chain.0 (ap (link_at h) same ∙ ends_here) in
      let rest = chain_extended s rs is_chain.3 (⊎_elim (λ same. absurd (other same)) (λ more. more) (Contains-cases r (s ∷ rs) last inside)) in
      subst (λ (l : ℕ). IsChain linked l (s ∷ (rs ++ q ∷ []))) (sym (link_kept r other)) (is_chain.0, is_chain.1, stays.chunks s is_chain.2, rest)

  words_extended : words_of linked (p ∷ (chunks ++ q ∷ [])) ≡ row_words h p ++ references_of (cell_at h q)
  words_extended =
      flat_map_same (λ c. references_of (cell_at h c)) (λ c. references_of (cell_at linked c)) (p ∷ (chunks ++ q ∷ [])) (λ k d inside. references_kept (get_or (p ∷ (chunks ++ q ∷ [])) k d))
      ∙ flat_map-append (λ c. references_of (cell_at h c)) (p ∷ chunks) (q ∷ [])
      ∙ ap (λ (ws : List ℕ). row_words h p ++ ws) (append-nil (references_of (cell_at h q)))

  -- the chunk's references come to the row
  pub chunk_linked : (word : ℕ) (zs : List ℕ) → references_of (cell_at h q) ≡ word ∷ zs → All (λ z. z ≡ 0) zs → word ≢ 0 → All (IsOther h (name_in h word)) (row_words h p) →
      Becomes h (with_word_at h last 7 (link_to q)) payloads (IsNamed (content_in h payloads)) (with_label (content_in h payloads).label (name_at h p) (name_in h word) (rights_in word)) (content_in h payloads).value
  chunk_linked word zs are empty some others =
      let new = row_words h p ++ word ∷ zs in
      let references : All (IsReference h) new = All-append (IsReference h) (row_words h p) (word ∷ zs) (row_references h is [] graph.sound p object ends)
      (subst (All (IsReference h)) are (references_at h is [] graph.sound q chunk.held)) in
      one_row h linked stays payloads is graph p object (name_in h word) (rights_in word) (chunks ++ q ∷ []) new
      (word_spaces h payloads is graph last held 7 (link_to q) low high) (word_back h payloads is graph last held 7 (link_to q) low high) (word_layouts h payloads is graph last held 7 (link_to q) low high linked_row)
      linked_links (outside_rows h payloads is graph last held 7 (link_to q) low high p object has)
      (chain_extended p chunks ends has) (words_extended ∙ ap (λ (ws : List ℕ). row_words h p ++ ws) are) references
      (puts_appended h (row_words h p) zs word some empty others (graph.targets p object))

-- ---- a free cell becomes a chunk at the end of a row

module _ (h : SpaceList) (payloads : Payloads) (is : IsSpaceList h) (graph : IsGraph h payloads) (p last q : Place) (word : ℕ) (object : IsKindAt h Object p) (has : Contains (row_of h p) last) (ends_here : link_at h last ≡ 0)
    (free : IsKindAt h Free q) (refers : RefersTo h word) (others : All (IsOther h (name_in h word)) (row_words h p)) where
  abbrev placed : SpaceList
  placed = with_cell_at h q (chunk_words word)

  first : Becomes h placed payloads (IsNamed (content_in h payloads)) (content_in h payloads).label (content_in h payloads).value
  first = chunk_placed h payloads is graph q word free (inr refers)

  kept : Stays h placed
  kept = fresh_stays h payloads is graph q free (chunk_words word)

  spaces : IsSpaceList placed
  spaces = list_written h is q free.held (chunk_words word) refl

  same_cells : All (λ c. cell_at placed c ≡ cell_at h c) (row_of h p)
  same_cells = fresh_same h payloads is graph q free (chunk_words word) p object

  same_row : row_of placed p ≡ row_of h p
  same_row = row_by_links h placed kept spaces first.graph.sound p (record { object = object; ends = graph.ends p object }) (links_by_cells h placed (row_of h p) same_cells)

  same_words : row_words placed p ≡ row_words h p
  same_words = words_by_cells h placed p same_row same_cells

  here_words : cell_at placed q ≡ chunk_words word
  here_words = cell_written h is q free.held (chunk_words word)

  new_chunk : IsKindAt placed Chunk q
  new_chunk = record { held = (holds_written h is q free.held (chunk_words word) q).1 free.held; is = ap kind_of here_words }

  -- nothing links to what was a free cell
  placed_unlinked : (c : Place) → HasCell placed c → link_at placed c ≢ 0 → place_in (link_at placed c) ≢ q
  placed_unlinked c held_c some to = by_place (same_or_other c q)
    where
      by_place : (c ≡ q) ⊎ (c ≢ q) → ⊥
      by_place (inl same) = some (ap (link_at placed) same ∙ ap link_of here_words)
      by_place (inr other) =
          let cell : link_at placed c ≡ link_at h c = ap link_of (cell_kept h is q free.held (chunk_words word) c other) in
          let links = link_some h is [] graph.sound c ((holds_written h is q free.held (chunk_words word) c).0 held_c) (λ z. some (cell ∙ z)) in
          let one : Chunk ≡ Free = sym links.chunk.is ∙ ap (λ (r : Place). kind_of (cell_at h r)) (sym (ap place_in cell) ∙ to) ∙ free.is in
          absurd cc

  same_name : name_in placed word ≡ name_in h word
  same_name = kept.names (place_in word) refers.object

  last_other : last ≢ q
  last_other =
      let row_cells = row_used h p (chunks_from h (length (cells_of h)) (link_at h p)) object (graph.ends p object) q free in
      subst (λ (c : Place). c ≢ q) has.2 (row_cells has.0 last has.1)

  others_placed : All (IsOther placed (name_in placed word)) (row_words placed p)
  others_placed k d inside some =
      let inside_h : k < length (row_words h p) = subst (λ (ws : List ℕ). k < length ws) same_words inside in
      let one : get_or (row_words placed p) k d ≡ get_or (row_words h p) k d = ap (λ (ws : List ℕ). get_or ws k d) same_words in
      let references = row_references h is [] graph.sound p object (graph.ends p object) in
      let some_h : get_or (row_words h p) k d ≢ 0 = λ z. some (one ∙ z) in
      let name : name_in placed (get_or (row_words placed p) k d) ≡ name_in h (get_or (row_words h p) k d) =
      ap (name_in placed) one ∙ name_stays h placed kept (get_or (row_words h p) k d) (references k d inside_h) some_h in
      (λ same. others k d inside_h some_h (sym name ∙ same ∙ same_name))

  second : Becomes placed (with_word_at placed last 7 (link_to q)) payloads (IsNamed (content_in placed payloads)) (with_label (content_in placed payloads).label (name_at placed p) (name_in placed word) (rights_in word)) (content_in placed payloads).value
  second =
      chunk_linked placed payloads spaces first.graph p last q (kept.objects p object) (subst (λ (ps : List Place). Contains ps last) (sym same_row) has)
      (ap link_of (cell_kept h is q free.held (chunk_words word) last last_other) ∙ ends_here) new_chunk (ap link_of here_words) placed_unlinked word (0 ∷ 0 ∷ 0 ∷ 0 ∷ 0 ∷ []) (ap references_of here_words)
      (All-from_recursion (λ z. z ≡ 0) (0 ∷ 0 ∷ 0 ∷ 0 ∷ 0 ∷ []) (refl, (refl, (refl, (refl, (refl, tt)))))) (empty_present word refers.present) others_placed

  abbrev extended : SpaceList
  extended = with_word_at (with_cell_at h q (chunk_words word)) last 7 (link_to q)

  pub chunk_added : Becomes h (with_word_at (with_cell_at h q (chunk_words word)) last 7 (link_to q)) payloads (IsNamed (content_in h payloads)) (with_label (content_in h payloads).label (name_at h p) (name_in h word) (rights_in word)) (content_in h payloads).value
  chunk_added =
      let c = content_in h payloads in
      let c1 = content_in placed payloads in
      let labels : c1.label ≡ c.label = label_is c1 (IsNamed c) c.label c.value first.content in
      becomes_then h placed extended payloads payloads (IsNamed c) (IsNamed c1) (IsNamed c) c.label (with_label c1.label (name_at placed p) (name_in placed word) (rights_in word)) (with_label c.label (name_at h p) (name_in h word) (rights_in word))
      c.value c1.value c.value first second first.content.names
      (λ x y. ap (λ (f : ℕ → ℕ → RightSet). with_label f (name_at placed p) (name_in placed word) (rights_in word) x y) labels
      ∙ ap (λ (n : ℕ). with_label c.label n (name_in placed word) (rights_in word) x y) (kept.names p object) ∙ ap (λ (n : ℕ). with_label c.label (name_at h p) n (rights_in word) x y) same_name)
      first.content.values

  -- ---- the row once the chunk is at its end

  has_placed : Contains (row_of placed p) last
  has_placed = subst (λ (ps : List Place). Contains ps last) (sym same_row) has

  ends_placed : link_at placed last ≡ 0
  ends_placed = ap link_of (cell_kept h is q free.held (chunk_words word) last last_other) ∙ ends_here

  abbrev placed_chunks : List Place
  placed_chunks = chunks_from placed (length (cells_of placed)) (link_at placed p)

  last_held : HasCell placed last
  last_held = held placed payloads spaces first.graph p last q (kept.objects p object) has_placed ends_placed new_chunk (ap link_of here_words) placed_unlinked

  last_low : first_pointer (get_or (cell_at placed last) 0 0) ≤ 7
  last_low = low placed payloads spaces first.graph p last q (kept.objects p object) has_placed ends_placed new_chunk (ap link_of here_words) placed_unlinked

  pub extended_spaces : IsSpaceList (with_word_at (with_cell_at h q (chunk_words word)) last 7 (link_to q))
  extended_spaces = word_spaces placed payloads spaces first.graph last last_held 7 (link_to q) last_low (omega arith)

  linked_stays : Stays placed extended
  linked_stays = word_stays placed payloads spaces first.graph last last_held 7 (link_to q) last_low (omega arith)

  pub extended_stays : Stays h (with_word_at (with_cell_at h q (chunk_words word)) last 7 (link_to q))
  extended_stays = record {
    objects = λ r at. linked_stays.objects r (kept.objects r at);
    chunks = λ r at. linked_stays.chunks r (kept.chunks r at);
    names = λ r at. linked_stays.names r (kept.objects r at) ∙ kept.names r at;
    keys = λ r at. linked_stays.keys r (kept.objects r at) ∙ kept.keys r at;
  }

  extended_chunks : chunks_from extended (length (cells_of extended)) (link_at extended p) ≡ placed_chunks ++ q ∷ []
  extended_chunks =
      chain_whole extended extended_spaces [] chunk_added.graph.sound p (placed_chunks ++ q ∷ []) (linked_stays.objects p (kept.objects p object))
      (chain_extended placed payloads spaces first.graph p last q (kept.objects p object) has_placed ends_placed new_chunk (ap link_of here_words) placed_unlinked p placed_chunks (first.graph.ends p (kept.objects p object)) has_placed)

  pub link_extended : link_at (with_word_at (with_cell_at h q (chunk_words word)) last 7 (link_to q)) last ≡ link_to q
  link_extended = link_is placed payloads spaces first.graph p last q (kept.objects p object) has_placed ends_placed new_chunk (ap link_of here_words) placed_unlinked

  pub row_extended : row_of (with_word_at (with_cell_at h q (chunk_words word)) last 7 (link_to q)) p ≡ row_of h p ++ q ∷ []
  row_extended = ap (λ (ps : List Place). p ∷ ps) extended_chunks ∙ ap (λ (ps : List Place). ps ++ q ∷ []) same_row

  pub row_words_extended : row_words (with_word_at (with_cell_at h q (chunk_words word)) last 7 (link_to q)) p ≡ row_words h p ++ word ∷ 0 ∷ 0 ∷ 0 ∷ 0 ∷ 0 ∷ []
  row_words_extended =
      ap (λ (ps : List Place). words_of extended (p ∷ ps)) extended_chunks
      ∙ words_extended placed payloads spaces first.graph p last q (kept.objects p object) has_placed ends_placed new_chunk (ap link_of here_words) placed_unlinked
      ∙ ap (λ (ws : List ℕ). ws ++ references_of (cell_at placed q)) same_words
      ∙ ap (λ (ws : List ℕ). row_words h p ++ references_of ws) here_words

  -- the cells of another row are what they were
  pub others_extended : (r : Place) → IsKindAt h Object r → r ≢ p → All (λ c. cell_at (with_word_at (with_cell_at h q (chunk_words word)) last 7 (link_to q)) c ≡ cell_at h c) (row_of h r)
  others_extended r at other k d inside =
      let c = get_or (row_of h r) k d in
      let apart : c ≢ last = outside h payloads is graph last (last_here) 7 0 (low_here) (omega arith) p object has r at other k d inside in
      there placed payloads spaces first.graph last last_held 7 (link_to q) last_low (omega arith) c apart
      ∙ fresh_same h payloads is graph q free (chunk_words word) r at k d inside
    where
      last_here : HasCell h last
      last_here = subst (HasCell h) has.2 (row_held h p (chunks_from h (length (cells_of h)) (link_at h p)) object (graph.ends p object) has.0 last has.1)

      low_here : first_pointer (get_or (cell_at h last) 0 0) ≤ 7
      low_here = subst (λ (ws : List ℕ). first_pointer (get_or ws 0 0) ≤ 7) (cell_kept h is q free.held (chunk_words word) last last_other) last_low

-- ---- a value is written

module _ (h : SpaceList) (payloads : Payloads) (is : IsSpaceList h) (graph : IsGraph h payloads) (p : Place) (new : Payloads) (value : Value) (object : IsKindAt h Object p) (updates : Updates payloads new (key_at h p) (Some value)) where
  abbrev values : ℕ → Option Value
  values = with_value (content_in h payloads).value (name_at h p) value

  -- the payloads at the keys of other objects stay
  value_entry : (q : Place) → IsKindAt h Object q → entry new (key_at h q) ≡ values (name_at h q)
  value_entry q at = by_place (same_or_other q p)
    where
      by_place : (q ≡ p) ⊎ (q ≢ p) → entry new (key_at h q) ≡ values (name_at h q)
      by_place (inl same) =
          let test : (name_at h p == name_at h p) ≡ true = ⊎_elim (λ t. t.0) (λ f. absurd (f.1 refl)) (eqb_tells (name_at h p) (name_at h p)) in
          let one : values (name_at h p) ≡ Some value = rw test refl in
          ap (λ (r : Place). entry new (key_at h r)) same ∙ updates.changed ∙ sym one ∙ ap (λ (r : Place). values (name_at h r)) (sym same)
      by_place (inr other) =
          let test : (name_at h q == name_at h p) ≡ false = ⊎_elim (λ t. absurd (other (graph.names q p at object t.1))) (λ f. f.0) (eqb_tells (name_at h q) (name_at h p)) in
          let one : (content_in h payloads).value (name_at h q) ≡ values (name_at h q) = rw test refl in
          updates.others (key_at h q) (λ e. other (graph.keys q p at object e)) ∙ sym (value_at h payloads is graph (name_at h q) q (record { object = at; named = refl })) ∙ one

  value_used : (key : ℕ) → IsSome (entry new key) ↔ IsSome (entry payloads key)
  value_used key = by_key (cases_eq key (key_at h p))
    where
      by_key : (key ≡ key_at h p) ⊎ (key ≢ key_at h p) → IsSome (entry new key) ↔ IsSome (entry payloads key)
      by_key (inl same) = (
        λ _. (graph.payloads_used key).1 (p, object, sym same),
        λ _. subst (λ (o : Option Value). IsSome o) (sym (ap (entry new) same ∙ updates.changed)) refl,
      )
      by_key (inr other) = (
        λ some. subst (λ (o : Option Value). IsSome o) (updates.others key other) some,
        λ some. subst (λ (o : Option Value). IsSome o) (sym (updates.others key other)) some,
      )

  value_shows : Shows h new (IsNamed (content_in h payloads)) (content_in h payloads).label values
  value_shows = record {
    layouts = layout_at h is [] graph.sound;
    links = links_apart h is [] graph.sound;
    rows = λ q at. record {
      chunks = chunks_from h (length (cells_of h)) (link_at h q);
      ends = graph.ends q at;
      targets = graph.targets q at;
      labels = λ y. sym (label_at h payloads is graph (name_at h q) q (record { object = at; named = refl }) y);
    };
    names = graph.names;
    keys = graph.keys;
    payloads_used = λ key. (
      λ some. (graph.payloads_used key).0 ((value_used key).0 some),
      λ at. (value_used key).1 ((graph.payloads_used key).1 at),
    );
    vertex = λ q at. name_of_vertex h payloads is (name_at h q) q (record { object = at; named = refl });
    at = vertex_of_name h payloads is;
    values = value_entry;
    no_label = λ x y none. label_nowhere h payloads is x none y;
    no_value = λ x none.
        let other : x ≢ name_at h p = λ e. none (name_of_vertex h payloads is x p (record { object = object; named = sym e })) in
        let test : (x == name_at h p) ≡ false = ⊎_elim (λ t. absurd (other t.1)) (λ f. f.0) (eqb_tells x (name_at h p)) in
        let one : (content_in h payloads).value x ≡ values x = rw test refl in
        sym one ∙ value_nowhere h payloads is x none;
  }

  pub value_written : Becomes h h new (IsNamed (content_in h payloads)) (content_in h payloads).label (with_value (content_in h payloads).value (name_at h p) value)
  value_written = record {
    graph = shown_graph h new is (IsNamed (content_in h payloads)) (content_in h payloads).label values value_shows;
    content = shown_content h new is (IsNamed (content_in h payloads)) (content_in h payloads).label values value_shows;
    vertices = λ x q vertex. vertex;
  }

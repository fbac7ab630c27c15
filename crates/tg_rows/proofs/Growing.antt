-- Steps of a change, one after the other: room is made, a vertex is placed, a value is written.
use Rattle.std.proofs.Common.{◌≡◌, ◌≢◌, ℕ, ◌+◌, ◌*◌, ◌<◌, ◌≤◌, ◌⊎◌, inl, inr, ◌==◌, not, ◌&&◌, Bool, true, false, cond, List, [], ◌∷◌, length, set, drop, Option, Some, None, IsSome, refl, sym, ap, subst, arith, ◌∙◌, ⊎_elim, option_map}
use Rattle.std.specs.Prelude.{nat_lt, position, slice_index, slice_index_or}
use Rattle.std.specs.List.{All, position_or_len}
use Rattle.std.specs.Option.{option_or}
use Rattle.std.proofs.lemmas.Bool.{cases_eq, le-ltb}
use Rattle.std.proofs.lemmas.Bool.Decides.{eqb_tells}
use Rattle.std.proofs.lemmas.List.{length-set, get_or-set_same, get_or-set_other}
use Rattle.std.proofs.lemmas.List.Elements.{All-head, All-tail, All-weaker}
use Rattle.tg_rights.specs.RightSet.{RightSet, is_none_held}
use Rattle.tg_model.specs.Graph.{with_rights, without_rights}
use Rattle.tg_model.specs.declared.value.Value.{Value}
use Rattle.tg_model.specs.Rules.{with_value, written, written_at}
use Rattle.tg_word.specs.declared.Place.{Place}
use Rattle.tg_block.specs.Cells.{free_cell, kind_of}
use Rattle.tg_block.specs.declared.CellKind.TheVariants.{Free, Object}
use Rattle.tg_space.specs.SpaceList.{SpaceList, IsSpaceList, HasCell, cell_at, cells_of, space_of, with_block, with_cell_at}
use Rattle.tg_space.specs.SpaceTable.{SpaceTable, IsHandedOut, IsNursery, IsSpaceTable, number_in_space, used_of, with_one_used, with_spaces, place_in_space}
use Rattle.tg_space.specs.Soundness.{IsKindAt, IsReference}
use Rattle.tg_space.specs.Generations.{AreRemembered}
use Rattle.tg_space.specs.Targets.{first_pointer}
use Rattle.tg_space.proofs.Tables.{kept-with_block, table_cell, table_list, holds_same, shape_cell, shape_written}
use Rattle.tg_nursery.specs.Allocation.{HasRoomLeft, room_made_for}
use Rattle.tg_payload.specs.Table.{Payloads, Updates, entry}
use Rattle.tg_rows.specs.Content.{IsNamed}
use Rattle.tg_rows.specs.Graph.{IsGraph, content_in}
use Rattle.tg_rows.specs.Rows.{IsVertexAt, key_at, name_at, name_in, references_of, row_words, words_of}
use Rattle.tg_space.specs.Rows.{chunks_from, link_at, row_of}
use Rattle.tg_rows.specs.Spots.{CanPut, IsSpotIn, cells_for, is_empty, last_of, note_for, refers_to, table_put, word_in_cell, word_of_cell, word_where, IsSpotFor, IsMadeInRow, vertex_put, with_note, chunk_words, widened, table_taken}
use Rattle.tg_rows.specs.Steps.{ChangesTo, KeepsRows, vertex_words, TakesOneCell}
use Rattle.tg_rows.specs.declared.rows.Spot.{Spot}
use Rattle.tg_rows.specs.declared.rows.Spot.TheVariants.{Reference, Empty, Full}
use Rattle.tg_rows.proofs.Chains.{chain_same, row_held}
use Rattle.tg_rows.proofs.Finding.{words_are_references, none_found, none_refers}
use Rattle.tg_rows.proofs.Fresh.{block_added, block_stays, fresh_same, fresh_stays, vertex_at, vertex_placed}
use Rattle.tg_rows.proofs.Changed.{Becomes, Stays, becomes_then, links_by_cells, row_chain}
use Rattle.tg_rows.proofs.Linked.{value_written}
use Rattle.tg_rows.proofs.Lookups.{label_is, name_of_vertex, value_at, value_is}
use Rattle.tg_rows.proofs.Members.{All-left, All-right}
use Rattle.tg_rows.proofs.Changes.{list_written}
use Rattle.tg_rows.proofs.Putting.{can_put, put_becomes, nothing_taken, relabel}
use Rattle.tg_rows.proofs.Remembering.{AreNoted, put_remembered, remembered_room, remembered_young}
use Rattle.tg_word.specs.Word.{link_to, word_at}

-- ---- one step after the other

pub becomes_self : (h : SpaceList) (payloads : Payloads) → IsGraph h payloads → Becomes h h payloads (IsNamed (content_in h payloads)) (content_in h payloads).label (content_in h payloads).value
becomes_self h payloads graph = record {
  graph = graph;
  content = record { names = λ x. (λ n. n, λ n. n); labels = λ x y. refl; values = λ x. refl };
  vertices = λ x p vertex. vertex;
}

-- ---- rows that stay

pub keeps_rows : (h after : SpaceList) (before later : Payloads) → IsGraph h before → IsGraph after later → Stays h after → ((p : Place) → IsKindAt h Object p → All (λ q. cell_at after q ≡ cell_at h q) (row_of h p)) → KeepsRows h after
keeps_rows h after before later graph graph_after stays same = record {
  objects = stays.objects;
  names = stays.names;
  rows = λ p object.
      let ps = chunks_from h (length (cells_of h)) (link_at h p) in
      let chain = row_chain h after stays p (record { object = object; ends = graph.ends p object }) (links_by_cells h after (row_of h p) (same p object)) in
      ap (λ (qs : List Place). p ∷ qs) (chain_same after (chunks_from after (length (cells_of after)) (link_at after p)) ps (link_at after p) (graph_after.ends p (stays.objects p object)) chain);
  cells = same;
}

pub keeps_rows_self : (h : SpaceList) → KeepsRows h h
keeps_rows_self h = record { objects = λ p object. object; names = λ p object. refl; rows = λ p object. refl; cells = λ p object k d low. refl }

pub keeps_rows_then : (h mid after : SpaceList) → KeepsRows h mid → KeepsRows mid after → KeepsRows h after
keeps_rows_then h mid after first second = record {
  objects = λ p object. second.objects p (first.objects p object);
  names = λ p object. second.names p (first.objects p object) ∙ first.names p object;
  rows = λ p object. second.rows p (first.objects p object) ∙ first.rows p object;
  cells = λ p object k d low.
      let then = subst (All (λ q. cell_at after q ≡ cell_at mid q)) (first.rows p object) (second.cells p (first.objects p object)) in
      then k d low ∙ first.cells p object k d low;
}

-- ---- what a search finds in rows that stay

position_or_len_same : (p q : ℕ → Bool) (xs : List ℕ) → All (λ x. p x ≡ q x) xs → position_or_len p xs ≡ position_or_len q xs
position_or_len_same p q [] same = refl
position_or_len_same p q (x ∷ xs) same =
    let head : p x ≡ q x = All-head (λ y. p y ≡ q y) x xs same in
    let tail = position_or_len_same p q xs (All-tail (λ y. p y ≡ q y) x xs same) in
    ap (λ t. cond (not t) (1 + position_or_len p xs) 0) head ∙ ap (λ n. cond (not (q x)) (1 + n) 0) tail

position_same : (p q : ℕ → Bool) (xs : List ℕ) → All (λ x. p x ≡ q x) xs → position p xs ≡ position q xs
position_same p q xs same =
    ap (λ n. cond (nat_lt n (length xs)) (Some n) None) (position_or_len_same p q xs same)

where_same : (h after : SpaceList) (test later : ℕ → Bool) (ps : List Place) → All (λ q. cell_at after q ≡ cell_at h q) ps → All (λ w. later w ≡ test w) (words_of h ps) → word_where later after ps ≡ word_where test h ps
where_same h after test later [] cells tests = refl
where_same h after test later (q ∷ qs) cells tests =
    let here : cell_at after q ≡ cell_at h q = All-head (λ r. cell_at after r ≡ cell_at h r) q qs cells in
    let found : position later (references_of (cell_at h q)) ≡ position test (references_of (cell_at h q)) =
    position_same later test (references_of (cell_at h q)) (All-left (λ w. later w ≡ test w) (references_of (cell_at h q)) (words_of h qs) tests) in
    let rest = where_same h after test later qs (All-tail (λ r. cell_at after r ≡ cell_at h r) q qs cells) (All-right (λ w. later w ≡ test w) (references_of (cell_at h q)) (words_of h qs) tests) in
    ap (λ (ws : List ℕ). option_or (option_map (λ k. (q, first_pointer (slice_index ws 0) + k)) (position later (references_of ws))) (word_where later after qs)) here
    ∙ ap (λ (o : Option ℕ). option_or (option_map (word_of_cell h q) o) (word_where later after qs)) found
    ∙ ap (option_or (word_in_cell test h q)) rest

module _ (h after : SpaceList) (payloads : Payloads) (is : IsSpaceList h) (graph : IsGraph h payloads) (keeps : KeepsRows h after) (p : Place) (object : IsKindAt h Object p) where
  -- the test of a reference stays
  test_stays : (name word : ℕ) → IsReference h word → refers_to after name word ≡ refers_to h name word
  test_stays name word (inl zero_word) = ap (λ w. not (w == 0) && (name_in after w == name)) zero_word ∙ sym (ap (λ w. not (w == 0) && (name_in h w == name)) zero_word)
  test_stays name word (inr refers) = ap (λ n. not (word == 0) && (n == name)) (keeps.names _ refers.object)

  pub spot_stays : (name : ℕ) (spot : Spot) → IsSpotIn h name p (chunks_from h (length (cells_of h)) (link_at h p)) spot → IsSpotIn after name p (chunks_from after (length (cells_of after)) (link_at after p)) spot
  spot_stays name spot found = by_spot spot found
    where
      row : row_of after p ≡ row_of h p
      row = keeps.rows p object

      references : word_where (refers_to after name) after (row_of after p) ≡ word_where (refers_to h name) h (row_of h p)
      references =
          ap (word_where (refers_to after name) after) row
          ∙ where_same h after (refers_to h name) (refers_to after name) (row_of h p) (keeps.cells p object)
          (All-weaker (IsReference h) (λ w. refers_to after name w ≡ refers_to h name w) (test_stays name) (row_words h p) (words_are_references h payloads is graph p object))

      empties : word_where is_empty after (row_of after p) ≡ word_where is_empty h (row_of h p)
      empties =
          ap (word_where is_empty after) row ∙ where_same h after is_empty is_empty (row_of h p) (keeps.cells p object) (λ k d low. refl)

      last : last_of p (chunks_from after (length (cells_of after)) (link_at after p)) ≡ last_of p (chunks_from h (length (cells_of h)) (link_at h p))
      last = ap (λ (ps : List Place). last_of p (drop 1 ps)) row

      by_spot : (spot : Spot) → IsSpotIn h name p (chunks_from h (length (cells_of h)) (link_at h p)) spot → IsSpotIn after name p (chunks_from after (length (cells_of after)) (link_at after p)) spot
      by_spot (Reference q i) here = references ∙ here
      by_spot (Empty q i) here = (references ∙ here.0, empties ∙ here.1)
      by_spot (Full end) here = (references ∙ here.0, empties ∙ here.1, last ∙ here.2)

-- ---- room is made

-- the cells say what they said, and each row is as it was
pub record Grown (t after : SpaceTable) (payloads : Payloads) : Type 0 where
  pub becomes : Becomes t.spaces after.spaces payloads (IsNamed (content_in t.spaces payloads)) (content_in t.spaces payloads).label (content_in t.spaces payloads).value
  pub rows : KeepsRows t.spaces after.spaces
  pub spaces : length after.spaces ≡ length t.spaces
  pub used : after.used ≡ t.used
  pub limits : after.limits ≡ t.limits

pub room_grows : (t after : SpaceTable) (payloads : Payloads) (space cells : ℕ) → IsSpaceTable t → IsSpaceTable after → IsGraph t.spaces payloads → space < length t.spaces → after ≡ room_made_for t space cells → Grown t after payloads
room_grows t after payloads space cells table table_after graph low is =
    by_test (nat_lt (64 * length (space_of t.spaces space)) (used_of t space + cells)) is
  where
    by_test : (b : Bool) → after ≡ cond b (with_spaces t (with_block t.spaces space)) t → Grown t after payloads
    by_test false same =
        subst (λ (x : SpaceTable). Grown t x payloads) (sym same)
        (record { becomes = becomes_self t.spaces payloads graph; rows = keeps_rows_self t.spaces; spaces = refl; used = refl; limits = refl })
    by_test true same =
        let h = t.spaces in
        let grown = with_block h space in
        let spaces_is : after.spaces ≡ grown = ap (λ (x : SpaceTable). x.spaces) same in
        let list : IsSpaceList grown = subst IsSpaceList spaces_is (table_list after table_after) in
        let becomes = block_added h payloads (table_list t table) graph space low list in
        let kept : (p : Place) → IsKindAt h Object p → All (λ q. cell_at grown q ≡ cell_at h q) (row_of h p) = λ p object.
        All-weaker (HasCell h) (λ q. cell_at grown q ≡ cell_at h q) (λ q held. (kept-with_block h space low q held).1) (row_of h p) (row_held h p (chunks_from h (length (cells_of h)) (link_at h p)) object (graph.ends p object)) in
        let rows = keeps_rows h grown payloads payloads graph becomes.graph (block_stays h payloads (table_list t table) graph space low list) kept in
        subst (λ (x : SpaceTable). Grown t x payloads) (sym same)
        (record { becomes = becomes; rows = rows; spaces = length-set h space _; used = refl; limits = refl })

-- rights that were put change no number of spaces and no limit
pub put_spaces : (t : SpaceTable) (space : ℕ) (spot : Spot) (rights : RightSet) (to : Place) → length (table_put t space spot rights to).spaces ≡ length t.spaces
put_spaces t space (Reference q i) rights to = length-set t.spaces q.space _
put_spaces t space (Empty q i) rights to = length-set t.spaces q.space _
put_spaces t space (Full last) rights to = length-set _ last.space _ ∙ length-set t.spaces space _

pub put_limits : (t : SpaceTable) (space : ℕ) (spot : Spot) (rights : RightSet) (to : Place) → (table_put t space spot rights to).limits ≡ t.limits
put_limits t space (Reference q i) rights to = refl
put_limits t space (Empty q i) rights to = refl
put_limits t space (Full last) rights to = refl

pub changes : (t after : SpaceTable) (payloads : Payloads) (named : ℕ → Type 0) (label : ℕ → ℕ → RightSet) (value : ℕ → Option Value) → Becomes t.spaces after.spaces payloads named label value → length after.spaces ≡ length t.spaces → after.limits ≡ t.limits → ChangesTo t after payloads named label value
changes t after payloads named label value becomes spaces limits =
    record { graph = becomes.graph; content = becomes.content; vertices = becomes.vertices; spaces = spaces; limits = limits }

pub becomes_from : (t after : SpaceTable) (payloads : Payloads) (named : ℕ → Type 0) (label : ℕ → ℕ → RightSet) (value : ℕ → Option Value) → ChangesTo t after payloads named label value → Becomes t.spaces after.spaces payloads named label value
becomes_from t after payloads named label value to = record { graph = to.graph; content = to.content; vertices = to.vertices }

-- ---- a value is written

pub written_becomes : (h : SpaceList) (payloads new : Payloads) → IsSpaceList h → IsGraph h payloads → (p : Place) → IsKindAt h Object p → (number : ℕ) → Updates payloads new (key_at h p) (option_map (written number) (entry payloads (key_at h p))) →
    Becomes h h new (IsNamed (content_in h payloads)) (content_in h payloads).label (written_at (content_in h payloads).value (name_at h p) number)
written_becomes h payloads new is graph p object number updates = by_entry (entry payloads (key_at h p)) refl ((graph.payloads_used (key_at h p)).1 (p, object, refl))
  where
    by_entry : (o : Option Value) → entry payloads (key_at h p) ≡ o → IsSome o → Becomes h h new (IsNamed (content_in h payloads)) (content_in h payloads).label (written_at (content_in h payloads).value (name_at h p) number)
    by_entry None e some = absurd cc
    by_entry (Some value) e some =
        let name = name_at h p in
        let values = (content_in h payloads).value in
        let here : Updates payloads new (key_at h p) (Some (written number value)) = subst (λ (o : Option Value). Updates payloads new (key_at h p) (option_map (written number) o)) e updates in
        let was : values name ≡ Some value = value_at h payloads is graph name p (record { object = object; named = refl }) ∙ e in
        let step = value_written h payloads is graph p new (written number value) object here in
        let same : (a : ℕ) → with_value values name (written number value) a ≡ written_at values name number a = λ a.
        ⊎_elim (λ t. rw (t.0) (sym (ap (λ n. option_map (written number) (values n)) t.1 ∙ ap (option_map (written number)) was))) (λ f. rw (f.0) refl) (eqb_tells a name) in
        record {
          graph = step.graph;
          content = record { names = step.content.names; labels = step.content.labels; values = λ a. step.content.values a ∙ same a };
          vertices = step.vertices;
        }

-- ---- a vertex is placed

-- one more cell of a nursery that has one left is handed out
pub table_handed_out : (t : SpaceTable) (space : ℕ) → IsSpaceTable t → IsNursery t space → HasRoomLeft t space 1 → IsSpaceTable (with_one_used t space)
table_handed_out t space table nursery left = record {
  enough = table.enough;
  few = table.few;
  blocks = table.blocks;
  counted = length-set t.used space (used_of t space + 1) ∙ table.counted;
  within = λ other low. by_within other low (cases_eq other space);
  fresh = λ p held young unused. table.fresh p held young (by_fresh p unused (cases_eq p.space space));
}
  where
    here : used_of (with_one_used t space) space ≡ used_of t space + 1
    here = let low = nursery.1 in get_or-set_same t.used space (used_of t space + 1) 0 (omega (arith, table.counted))

    there : (other : ℕ) → other ≢ space → used_of (with_one_used t space) other ≡ used_of t other
    there other ne = get_or-set_other t.used space other (used_of t space + 1) 0 ne

    by_within : (other : ℕ) → other < length t.spaces → (other ≡ space) ⊎ (other ≢ space) → used_of (with_one_used t space) other ≤ 64 * length (space_of t.spaces other)
    by_within other low (inl same) = subst (λ s. used_of (with_one_used t space) s ≤ 64 * length (space_of t.spaces s)) (sym same) (omega (arith, here, left))
    by_within other low (inr ne) = omega (arith, there other ne, table.within other low)

    by_fresh : (p : Place) → used_of (with_one_used t space) p.space ≤ number_in_space p → (p.space ≡ space) ⊎ (p.space ≢ space) → used_of t p.space ≤ number_in_space p
    by_fresh p unused (inl same) =
        let more : used_of (with_one_used t space) p.space ≡ used_of t p.space + 1 = subst (λ s. used_of (with_one_used t space) s ≡ used_of t s + 1) (sym same) here in
        omega arith
    by_fresh p unused (inr ne) = let same = there p.space ne in omega arith

pub record VertexStep (t after : SpaceTable) (payloads new : Payloads) (q : Place) (name : ℕ) (value : Value) : Type 0 where
  pub placed : ChangesTo t after new (λ x. IsNamed (content_in t.spaces payloads) x ⊎ (x ≡ name)) (content_in t.spaces payloads).label (with_value (content_in t.spaces payloads).value name value)
  pub vertex : IsVertexAt after.spaces name q
  pub rows : KeepsRows t.spaces after.spaces
  pub table : IsSpaceTable after
  pub remembered : (places : List Place) → AreRemembered t.spaces places → AreRemembered after.spaces places

pub vertex_step : (t after : SpaceTable) (payloads new : Payloads) (space : ℕ) (q : Place) (name key : ℕ) (value : Value) → IsSpaceTable t → IsGraph t.spaces payloads → IsNursery t space → HasRoomLeft t space 1 →
    HasCell t.spaces q → q.space ≡ space → cell_at t.spaces q ≡ free_cell → IsHandedOut (with_one_used t space) q → (IsNamed (content_in t.spaces payloads) name → ⊥) → entry payloads key ≡ None → Updates payloads new key (Some value) →
    after ≡ with_spaces (with_one_used t space) (with_cell_at t.spaces q (vertex_words name key)) → VertexStep t after payloads new q name value
vertex_step t after payloads new space q name key value table graph nursery left held there empty handed fresh unused updates same =
    let h = t.spaces in
    let is = table_list t table in
    let free : IsKindAt h Free q = record { held = held; is = ap kind_of empty } in
    let none : (p : Place) → IsVertexAt h name p → ⊥ = λ p vertex. fresh (name_of_vertex h payloads is name p vertex) in
    let words = vertex_words name key in
    let with_vertex = with_cell_at h q words in
    let becomes = vertex_placed h payloads is graph q name key new value free none unused updates in
    let list : IsSpaceList with_vertex = list_written h is q held words refl in
    subst (λ (x : SpaceTable). VertexStep t x payloads new q name value) (sym same)
    (record {
      placed = record { graph = becomes.graph; content = becomes.content; vertices = becomes.vertices; spaces = length-set h q.space _; limits = refl };
      vertex = vertex_at h payloads is graph q name key new value free none unused updates;
      rows = keeps_rows h with_vertex payloads new graph becomes.graph (fresh_stays h payloads is graph q free words) (fresh_same h payloads is graph q free words);
      table = table_cell (with_one_used t space) q words (table_handed_out t space table nursery left) held handed list.spaces;
      remembered = remembered_young h is q held (let young = nursery.0 in λ none. omega (arith, young, none, there)) words;
    })

-- ---- rights are added, after room was made

module _ (t grown : SpaceTable) (payloads : Payloads) (table : IsSpaceTable t) (table_grown : IsSpaceTable grown) (graph : IsGraph t.spaces payloads) (space cells : ℕ) (low : space < length t.spaces) (made : grown ≡ room_made_for t space cells)
    (from : Place) (object : IsKindAt t.spaces Object from) (name : ℕ) (spot : Spot) (found : IsSpotIn t.spaces name from (chunks_from t.spaces (length (cells_of t.spaces)) (link_at t.spaces from)) spot) (enough : HasRoomLeft grown space cells) (counted : cells ≡ cells_for spot) where
  pub room : Grown t grown payloads
  room = room_grows t grown payloads space cells table table_grown graph low made

  pub left : HasRoomLeft grown space (cells_for spot)
  left = subst (HasRoomLeft grown space) counted enough

  pub there : IsSpotIn grown.spaces name from (chunks_from grown.spaces (length (cells_of grown.spaces)) (link_at grown.spaces from)) spot
  there = spot_stays t.spaces grown.spaces payloads (table_list t table) graph room.rows from object name spot found

  pub added_can : CanPut grown space spot
  added_can = can_put grown table_grown payloads room.becomes.graph from (room.rows.objects from object) name spot there space left

  pub added_remembered : 2 ≤ space → (to : Place) → IsKindAt t.spaces Object to → (rights : RightSet) (wanted : Bool) → (to.space ≢ 0 → wanted ≡ true) → (places later : List Place) → AreNoted places later (note_for spot wanted) →
      (after : SpaceTable) → after ≡ table_put grown space spot rights to → AreRemembered t.spaces places → AreRemembered after.spaces later
  added_remembered young to target rights wanted tells places later noted after is before =
      subst (λ (x : SpaceTable). AreRemembered x.spaces later) (sym is)
      (put_remembered grown table_grown payloads room.becomes.graph from (room.rows.objects from object) name spot there space left
      (young, subst (λ n. space < n) (sym room.spaces) low) to (room.rows.objects to target).held rights wanted tells places later (remembered_room t grown space cells low made places before) noted)

  pub added_changes : (to : Place) → IsKindAt t.spaces Object to → name ≡ name_at t.spaces to → (rights : RightSet) → is_none_held rights ≡ false → 2 ≤ space → (after : SpaceTable) → after ≡ table_put grown space spot rights to →
      ChangesTo t after payloads (IsNamed (content_in t.spaces payloads)) (with_rights (content_in t.spaces payloads).label (name_at t.spaces from) (name_at t.spaces to) rights) (content_in t.spaces payloads).value
  added_changes to target named rights some young after is =
      let c0 = content_in t.spaces payloads in
      let c1 = content_in grown.spaces payloads in
      let put = put_becomes grown table_grown payloads room.becomes.graph from (room.rows.objects from object) name spot there space left
      (young, subst (λ n. space < n) (sym room.spaces) low) to (room.rows.objects to target) (room.rows.names to target ∙ sym named) rights some in
      let label_same : c1.label ≡ c0.label = label_is c1 (IsNamed c0) c0.label c0.value room.becomes.content in
      let whole = becomes_then t.spaces grown.spaces (table_put grown space spot rights to).spaces payloads payloads (IsNamed c0) (IsNamed c1) (IsNamed c0) c0.label
      (with_rights c1.label (name_at grown.spaces from) name rights) (with_rights c0.label (name_at t.spaces from) (name_at t.spaces to) rights) c0.value c1.value c0.value room.becomes put room.becomes.content.names
      (λ x y. ap (λ (l : ℕ → ℕ → RightSet). with_rights l (name_at grown.spaces from) name rights x y) label_same
      ∙ ap (λ n. with_rights c0.label n name rights x y) (room.rows.names from object) ∙ ap (λ n. with_rights c0.label (name_at t.spaces from) n rights x y) named)
      room.becomes.content.values in
      let label = with_rights c0.label (name_at t.spaces from) (name_at t.spaces to) rights in
      subst (λ (x : SpaceTable). ChangesTo t x payloads (IsNamed c0) label c0.value) (sym is)
      (changes t (table_put grown space spot rights to) payloads (IsNamed c0) label c0.value whole (put_spaces grown space spot rights to ∙ room.spaces) (put_limits grown space spot rights to ∙ room.limits))

-- ---- a new vertex

-- room for more payloads changes nothing
pub graph_entries : (h : SpaceList) (payloads new : Payloads) → new.entries ≡ payloads.entries → IsGraph h payloads → IsGraph h new
graph_entries h payloads new same graph = record {
  sound = graph.sound;
  ends = graph.ends;
  targets = graph.targets;
  names = graph.names;
  keys = graph.keys;
  payloads_used = λ key.
      let entry_same : entry new key ≡ entry payloads key = ap (λ (es : List (Option Value)). slice_index_or es key None) same in (
        λ some. (graph.payloads_used key).0 (subst (λ (o : Option Value). IsSome o) entry_same some),
        λ at. subst (λ (o : Option Value). IsSome o) (sym entry_same) ((graph.payloads_used key).1 at),
      );
}

becomes_entries : (h after : SpaceList) (payloads new : Payloads) (named : ℕ → Type 0) (label : ℕ → ℕ → RightSet) (value : ℕ → Option Value) → new.entries ≡ payloads.entries → Becomes h after payloads named label value → Becomes h after new named label value
becomes_entries h after payloads new named label value same becomes = record {
  graph = graph_entries after payloads new same becomes.graph;
  content = record {
    names = becomes.content.names;
    labels = becomes.content.labels;
    values = λ x.
        ap (λ (es : List (Option Value)). let p : Payloads = record { entries = es; spare = new.spare } in (content_in after p).value x) same
        ∙ becomes.content.values x;
  };
  vertices = becomes.vertices;
}

module _ (t grown placed : SpaceTable) (payloads reserved filled : Payloads) (table : IsSpaceTable t) (table_grown : IsSpaceTable grown) (table_placed : IsSpaceTable placed) (graph : IsGraph t.spaces payloads)
    (space cells : ℕ) (low : space < length t.spaces) (made : grown ≡ room_made_for t space cells) (same : reserved.entries ≡ payloads.entries)
    (from : Place) (object : IsKindAt t.spaces Object from) (name : ℕ) (spot : Spot) (found : IsSpotIn t.spaces name from (chunks_from t.spaces (length (cells_of t.spaces)) (link_at t.spaces from)) spot) where
  pub made_room : Grown t grown payloads
  made_room = room_grows t grown payloads space cells table table_grown graph low made

  pub grown_graph : IsGraph grown.spaces reserved
  grown_graph = graph_entries grown.spaces payloads reserved same made_room.becomes.graph

  pub still_fresh : (IsNamed (content_in t.spaces payloads) name → ⊥) → IsNamed (content_in grown.spaces reserved) name → ⊥
  still_fresh fresh named = fresh ((made_room.becomes.content.names name).0 named)

  module _ (value : Value)
      (step : ChangesTo grown placed filled (λ x. IsNamed (content_in grown.spaces reserved) x ⊎ (x ≡ name)) (content_in grown.spaces reserved).label (with_value (content_in grown.spaces reserved).value name value))
      (rows : KeepsRows grown.spaces placed.spaces) (q : Place) (vertex : IsVertexAt placed.spaces name q)
      (used : placed.used ≡ set grown.used space (used_of grown space + 1)) (blocks : length (space_of placed.spaces space) ≡ length (space_of grown.spaces space))
      (enough : HasRoomLeft grown space cells) (counted : cells ≡ 1 + cells_for spot) where
    object_grown : IsKindAt grown.spaces Object from
    object_grown = made_room.rows.objects from object

    pub object_placed : IsKindAt placed.spaces Object from
    object_placed = rows.objects from object_grown

    pub found_placed : IsSpotIn placed.spaces name from (chunks_from placed.spaces (length (cells_of placed.spaces)) (link_at placed.spaces from)) spot
    found_placed =
        spot_stays grown.spaces placed.spaces reserved (table_list grown table_grown) grown_graph rows from object_grown name spot
        (spot_stays t.spaces grown.spaces payloads (table_list t table) graph made_room.rows from object name spot found)

    pub left_over : HasRoomLeft placed space (cells_for spot)
    left_over =
        let long : space < length grown.used = omega (arith, table_grown.counted, made_room.spaces, low) in
        let more : used_of placed space ≡ used_of grown space + 1 = ap (λ (us : List ℕ). slice_index us space) used ∙ get_or-set_same grown.used space (used_of grown space + 1) 0 long in
        omega (arith, more, blocks, enough, counted)

    pub placed_can : CanPut placed space spot
    placed_can = can_put placed table_placed filled step.graph from object_placed name spot found_placed space left_over

    pub vertex_remembered : 2 ≤ space → (rights : RightSet) (places later : List Place) → AreNoted places later (note_for spot true) → (AreRemembered grown.spaces places → AreRemembered placed.spaces places) →
        (after : SpaceTable) → after ≡ table_put placed space spot rights q → AreRemembered t.spaces places → AreRemembered after.spaces later
    vertex_remembered young rights places later noted kept after is before =
        subst (λ (x : SpaceTable). AreRemembered x.spaces later) (sym is)
        (put_remembered placed table_placed filled step.graph from object_placed name spot found_placed space left_over
        (young, omega (arith, low, made_room.spaces, step.spaces)) q vertex.object.held rights true (λ far. refl) places later (kept (remembered_room t grown space cells low made places before)) noted)

    -- the vertex is where it was put
    pub vertex_there : (rights : RightSet) → is_none_held rights ≡ false → 2 ≤ space → (after : SpaceTable) → after ≡ table_put placed space spot rights q → IsVertexAt after.spaces name q
    vertex_there rights some young after is =
        let put = put_becomes placed table_placed filled step.graph from object_placed name spot found_placed space left_over
        (young, omega (arith, low, made_room.spaces, step.spaces)) q vertex.object vertex.named rights some in
        subst (λ (x : SpaceTable). IsVertexAt x.spaces name q) (sym is) (put.vertices name q vertex)

    pub vertex_made : (rights : RightSet) → is_none_held rights ≡ false → 2 ≤ space → (after : SpaceTable) → after ≡ table_put placed space spot rights q →
        ChangesTo t after filled (λ x. IsNamed (content_in t.spaces payloads) x ⊎ (x ≡ name)) (with_rights (content_in t.spaces payloads).label (name_at t.spaces from) name rights) (with_value (content_in t.spaces payloads).value name value)
    vertex_made rights some young after is =
        let c0 = content_in t.spaces payloads in
        let c1 = content_in grown.spaces reserved in
        let c2 = content_in placed.spaces filled in
        let named1 = λ (x : ℕ). IsNamed c1 x ⊎ (x ≡ name) in
        let named = λ (x : ℕ). IsNamed c0 x ⊎ (x ≡ name) in
        let values = with_value c0.value name value in
        let first = becomes_entries t.spaces grown.spaces payloads reserved (IsNamed c0) c0.label c0.value same made_room.becomes in
        let value_same : c1.value ≡ c0.value = value_is c1 (IsNamed c0) c0.label c0.value first.content in
        let both = becomes_then t.spaces grown.spaces placed.spaces reserved filled (IsNamed c0) named1 named c0.label c1.label c0.label c0.value (with_value c1.value name value) values first
        (becomes_from grown placed filled named1 c1.label (with_value c1.value name value) step)
        (λ x. (⊎_elim (λ n. inl ((first.content.names x).0 n)) (λ e. inr e), ⊎_elim (λ n. inl ((first.content.names x).1 n)) (λ e. inr e)))
        first.content.labels (λ x. ap (λ (f : ℕ → Option Value). with_value f name value x) value_same) in
        let put = put_becomes placed table_placed filled step.graph from object_placed name spot found_placed space left_over
        (young, omega (arith, low, made_room.spaces, step.spaces)) q vertex.object vertex.named rights some in
        let label_same : c2.label ≡ c0.label = label_is c2 named c0.label values both.content in
        let from_same : name_at placed.spaces from ≡ name_at t.spaces from = rows.names from object_grown ∙ made_room.rows.names from object in
        let label = with_rights c0.label (name_at t.spaces from) name rights in
        let all = becomes_then t.spaces placed.spaces (table_put placed space spot rights q).spaces filled filled named (IsNamed c2) named c0.label (with_rights c2.label (name_at placed.spaces from) name rights) label values c2.value values
        both put both.content.names
        (λ x y. ap (λ (l : ℕ → ℕ → RightSet). with_rights l (name_at placed.spaces from) name rights x y) label_same ∙ ap (λ n. with_rights c0.label n name rights x y) from_same)
        both.content.values in
        subst (λ (x : SpaceTable). ChangesTo t x filled named label values) (sym is)
        (changes t (table_put placed space spot rights q) filled named label values all (put_spaces placed space spot rights q ∙ step.spaces ∙ made_room.spaces) (put_limits placed space spot rights q ∙ step.limits ∙ made_room.limits))

-- ---- rights are taken where no reference has the name

module _ (t : SpaceTable) (payloads : Payloads) (table : IsSpaceTable t) (graph : IsGraph t.spaces payloads) (p : Place) (object : IsKindAt t.spaces Object p) where
  pub nothing_dropped : (name : ℕ) (spot : Spot) → IsSpotFor t.spaces name p spot → ((q : Place) (i : ℕ) → spot ≡ Reference q i → ⊥) → (rights : RightSet)
      → ChangesTo t t payloads (IsNamed (content_in t.spaces payloads)) (without_rights (content_in t.spaces payloads).label (name_at t.spaces p) name rights) (content_in t.spaces payloads).value
  nothing_dropped name spot found never rights =
      let content = content_in t.spaces payloads in
      let from = name_at t.spaces p in
      let none = none_found t.spaces name p (chunks_from t.spaces (length (cells_of t.spaces)) (link_at t.spaces p)) spot found never in
      let nothing = none_refers t.spaces payloads (table_list t table) graph p object name none in
      let label = without_rights content.label from name rights in
      changes t t payloads (IsNamed content) label content.value
      (relabel t.spaces t.spaces payloads (IsNamed content) content.label label content.value (nothing_taken content.label from name rights nothing) (becomes_self t.spaces payloads graph))
      refl refl

-- where there is no reference, no rights are taken
pub untouched : (t : SpaceTable) (spot : Spot) (rights : RightSet) → ((q : Place) (i : ℕ) → spot ≡ Reference q i → ⊥) → t ≡ table_taken t spot rights
untouched t (Reference q i) rights never = absurd (never q i refl)
untouched t (Empty q i) rights never = refl
untouched t (Full q) rights never = refl

-- ---- where a new vertex and the reference to it are

-- a new block hands out no cell
used_room : (t : SpaceTable) (space cells : ℕ) → used_of (room_made_for t space cells) space ≡ used_of t space
used_room t space cells = by_test (nat_lt (64 * length (space_of t.spaces space)) (used_of t space + cells))
  where
    by_test : (b : Bool) → used_of (cond b (with_spaces t (with_block t.spaces space)) t) space ≡ used_of t space
    by_test true = refl
    by_test false = refl

pub made_in_row : (t grown placed after : SpaceTable) (places later : List Place) (space cells : ℕ) (from : Place) → IsKindAt t.spaces Object from → (name : ℕ) (rights : RightSet) (spot : Spot) → IsSpotFor t.spaces name from spot → cells ≡ cells_for spot →
    grown ≡ room_made_for t space (1 + cells) → ((key : ℕ) × (placed ≡ vertex_put grown space name key)) → (to : Place) → to ≡ place_in_space space (used_of grown space) → after ≡ table_put placed space spot rights to →
    later ≡ with_note places (note_for spot true) → IsMadeInRow t after places later space (name_at t.spaces from) name rights
made_in_row t grown placed after places later space cells from object name rights spot found counted made written to next put noted =
    let room : grown ≡ room_made_for t space (1 + cells_for spot) = made ∙ ap (λ n. room_made_for t space (1 + n)) counted in
    let vertex : placed ≡ vertex_put (room_made_for t space (1 + cells_for spot)) space name written.0 = written.1 ∙ ap (λ (x : SpaceTable). vertex_put x space name written.0) room in
    let place : to ≡ place_in_space space (used_of t space) = next ∙ ap (λ (x : SpaceTable). place_in_space space (used_of x space)) room ∙ ap (place_in_space space) (used_room t space (1 + cells_for spot)) in
    record {
      row = from;
      held = record { object = object; named = refl };
      spot = spot;
      found = found;
      key = written.0;
      put = put ∙ ap (λ (x : SpaceTable). table_put x space spot rights to) vertex ∙ ap (table_put (vertex_put (room_made_for t space (1 + cells_for spot)) space name written.0) space spot rights) place;
      noted = noted;
    }

-- ---- rights that are put take one cell at most

-- one reference takes at most one cell
pub takes_one_cell : (t grown : SpaceTable) (space cells : ℕ) (spot : Spot) (rights : RightSet) (to : Place) → space < length t.spaces → cells ≤ 1 → grown ≡ room_made_for t space cells → IsSpaceTable grown → CanPut grown space spot → TakesOneCell t (table_put grown space spot rights to) space
takes_one_cell t grown space cells spot rights to low few made table can =
    let first = made_first (nat_lt (64 * length (space_of t.spaces space)) (used_of t space + cells)) made in
    let second = put spot can (subst (λ n. space < n) (sym first.1) low) in record {
      here = let a = ap (λ (us : List ℕ). slice_index us space) first.0 in let b = second.0.here in omega (arith, a, b);
      others = λ other ne. second.0.others other ne ∙ ap (λ (us : List ℕ). slice_index us other) first.0;
      blocks = λ left other. second.1 other ∙ ap (λ (x : SpaceTable). length (space_of x.spaces other)) (no_room left);
    }
  where
    made_first : (b : Bool) → grown ≡ cond b (with_spaces t (with_block t.spaces space)) t → (grown.used ≡ t.used) × (length grown.spaces ≡ length t.spaces)
    made_first false same = (ap (λ (x : SpaceTable). x.used) same, ap (λ (x : SpaceTable). length x.spaces) same)
    made_first true same = (ap (λ (x : SpaceTable). x.used) same, ap (λ (x : SpaceTable). length x.spaces) same ∙ length-set t.spaces space _)

    no_room : HasRoomLeft t space 1 → grown ≡ t
    no_room left =
        let test : nat_lt (64 * length (space_of t.spaces space)) (used_of t space + cells) ≡ false = le-ltb (64 * length (space_of t.spaces space)) (used_of t space + cells) (omega (arith, left, few)) in
        made ∙ ap (λ (b : Bool). cond b (with_spaces t (with_block t.spaces space)) t) test

    put : (spot : Spot) → CanPut grown space spot → space < length grown.spaces →
        TakesOneCell grown (table_put grown space spot rights to) space × ((other : ℕ) → length (space_of (table_put grown space spot rights to).spaces other) ≡ length (space_of grown.spaces other))
    put (Reference q i) can inside =
        let shape = shape_written grown.spaces q i (widened (slice_index (cell_at grown.spaces q) i) rights) can.can.held in
        (record { here = omega arith; others = λ other ne. refl; blocks = λ left. shape.blocks }, shape.blocks)
    put (Empty q i) can inside =
        let shape = shape_written grown.spaces q i (word_at rights to) can.held in
        (record { here = omega arith; others = λ other ne. refl; blocks = λ left. shape.blocks }, shape.blocks)
    put (Full last) can inside =
        let chunk = place_in_space space (used_of grown space) in
        let left = can.1 in
        let held : HasCell grown.spaces chunk = record { space = inside; block = omega (arith, left); cell = omega arith } in
        let placed = with_cell_at grown.spaces chunk (chunk_words (word_at rights to)) in
        let one = shape_cell grown.spaces chunk (chunk_words (word_at rights to)) held in
        let two = shape_written placed last 7 (link_to chunk) (holds_same grown.spaces placed one last can.0.held) in
        let same = λ (other : ℕ). two.blocks other ∙ one.blocks other in (
          record {
            here = let e = get_or-set_same grown.used space (used_of grown space + 1) 0 (omega (arith, table.counted, inside)) in omega (arith, e);
            others = λ other ne. get_or-set_other grown.used space other (used_of grown space + 1) 0 ne;
            blocks = λ left. same;
          },
          same,
        )

-- A free cell becomes an object or a chunk, and a block of free cells is added.
use Rattle.std.proofs.Common.{◌≡◌, ◌≢◌, ℕ, ◌<◌, ◌⊎◌, ◌==◌, inl, inr, true, false, List, [], ◌∷◌, ◌++◌, length, get_or, Option, Some, None, IsSome, refl, sym, ap, subst, arith, ◌∙◌, ⊎_elim}
use Rattle.std.specs.List.{All, IsDistinct}
use Rattle.std.proofs.lemmas.Bool.{cases_eq}
use Rattle.std.proofs.lemmas.Bool.Decides.{eqb_tells}
use Rattle.std.proofs.lemmas.List.Elements.{All-nil, All-cons, All-weaker}
use Rattle.std.proofs.lemmas.Map.Keys.{IsDistinct-from_apart}
use Rattle.tg_model.specs.declared.value.Value.{Value}
use Rattle.tg_model.specs.Rules.{with_value}
use Rattle.tg_word.specs.declared.Place.{Place}
use Rattle.tg_block.specs.Cells.{kind_of}
use Rattle.tg_block.specs.declared.CellKind.{CellKind}
use Rattle.tg_block.specs.declared.CellKind.TheVariants.{Free, Object, Chunk}
use Rattle.tg_space.specs.SpaceList.{SpaceList, IsSpaceList, HasCell, cell_at, cells_of, with_cell_at, with_block}
use Rattle.tg_space.specs.Soundness.{HasLayout, IsKindAt, IsReference}
use Rattle.tg_space.specs.Rows.{link_of, chunks_from, link_at, row_of}
use Rattle.tg_space.proofs.Tables.{cell_at-with_block, kept-with_block}
use Rattle.tg_payload.specs.Table.{Payloads, Updates, entry}
use Rattle.tg_rows.specs.Content.{IsNamed}
use Rattle.tg_rows.specs.Rows.{IsChain, IsVertexAt, key_at, name_at, names_in, references_of, rights_to}
use Rattle.tg_rows.specs.Graph.{IsGraph, content_in}
use Rattle.tg_rows.specs.Spots.{chunk_words}
use Rattle.tg_rows.specs.Steps.{vertex_words}
use Rattle.tg_rows.proofs.Places.{layout_at}
use Rattle.tg_rows.proofs.Lookups.{label_nowhere, name_of_vertex, value_at, value_nowhere, vertex_of_name}
use Rattle.tg_rows.proofs.Chains.{chain_chunks, row_held}
use Rattle.tg_rows.proofs.Changes.{cell_kept, cell_written, holds_written, list_written, same_or_other}
use Rattle.tg_rows.proofs.Changed.{Becomes, Shows, ShowsRow, Stays, layout_stays, links_stay, reference_stays, row_stays, same_objects, shown_content, shown_graph, vertices_stay}

-- the cells of a row are objects and chunks
pub row_used : (h : SpaceList) (p : Place) (ps : List Place) → IsKindAt h Object p → IsChain h (link_at h p) ps → (q : Place) → IsKindAt h Free q → All (λ c. c ≢ q) (p ∷ ps)
row_used h p ps object ends q free =
    All-cons (λ c. c ≢ q) p ps
    (λ same. let one : Object ≡ Free = sym object.is ∙ ap (λ c. kind_of (cell_at h c)) same ∙ free.is in absurd cc)
    (All-weaker (IsKindAt h Chunk) (λ c. c ≢ q) (λ c chunk same. let one : Chunk ≡ Free = sym chunk.is ∙ ap (λ r. kind_of (cell_at h r)) same ∙ free.is in absurd cc) ps (chain_chunks h ps (link_at h p) ends))

-- ---- one more block

module _ (h : SpaceList) (payloads : Payloads) (is : IsSpaceList h) (graph : IsGraph h payloads) (space : ℕ) (low : space < length h) (spaces : IsSpaceList (with_block h space)) where
  pub block_stays : Stays h (with_block h space)
  block_stays = record {
    objects = λ p object. let kept = kept-with_block h space low p object.held in record { held = kept.0; is = ap kind_of kept.1 ∙ object.is };
    chunks = λ p chunk. let kept = kept-with_block h space low p chunk.held in record { held = kept.0; is = ap kind_of kept.1 ∙ chunk.is };
    names = λ p object. ap (λ (ws : List ℕ). get_or ws 1 0) (kept-with_block h space low p object.held).1;
    keys = λ p object. ap (λ (ws : List ℕ). get_or ws 2 0) (kept-with_block h space low p object.held).1;
  }

  block_back : (p : Place) → IsKindAt (with_block h space) Object p → IsKindAt h Object p
  block_back p object =
      ⊎_elim
      (λ old. record { held = old.0; is = ap kind_of (sym old.1) ∙ object.is })
      (λ free. let one : Free ≡ Object = ap kind_of (sym free) ∙ object.is in absurd cc)
      (cell_at-with_block h space low p object.held)

  block_layouts : (p : Place) → HasCell (with_block h space) p → HasLayout (with_block h space) (cell_at (with_block h space) p)
  block_layouts p held =
      ⊎_elim
      (λ old. subst (HasLayout (with_block h space)) (sym old.1) (layout_stays h (with_block h space) block_stays (cell_at h p) (layout_at h is [] graph.sound p old.0)))
      (λ free. subst (HasLayout (with_block h space)) (sym free) tt)
      (cell_at-with_block h space low p held)

  block_links : (p : Place) → HasCell (with_block h space) p → link_at (with_block h space) p ≢ 0 → HasCell h p × (link_at (with_block h space) p ≡ link_at h p)
  block_links p held some =
      ⊎_elim (λ old. (old.0, ap link_of old.1)) (λ free. absurd (some (ap link_of free))) (cell_at-with_block h space low p held)

  block_rows : (p : Place) → IsKindAt h Object p → ShowsRow (with_block h space) p ((content_in h payloads).label (name_at h p))
  block_rows p object =
      row_stays h (with_block h space) block_stays payloads is graph p object
      (All-weaker (HasCell h) (λ q. cell_at (with_block h space) q ≡ cell_at h q) (λ q held. (kept-with_block h space low q held).1) (row_of h p) (row_held h p (chunks_from h (length (cells_of h)) (link_at h p)) object (graph.ends p object)))

  pub block_added : Becomes h (with_block h space) payloads (IsNamed (content_in h payloads)) (content_in h payloads).label (content_in h payloads).value
  block_added =
      same_objects h (with_block h space) block_stays payloads is graph (content_in h payloads).label spaces block_back block_layouts
      (links_stay h (with_block h space) block_stays payloads is graph block_links) block_rows (λ x y none. label_nowhere h payloads is x none y)

-- ---- a free cell is written

module _ (h : SpaceList) (payloads : Payloads) (is : IsSpaceList h) (graph : IsGraph h payloads) (q : Place) (free : IsKindAt h Free q) (words : List ℕ) where
  abbrev after : SpaceList
  after = with_cell_at h q words

  kept_other : (p : Place) → p ≢ q → cell_at after p ≡ cell_at h p
  kept_other p other = cell_kept h is q free.held words p other

  not_free : (kind : CellKind) (p : Place) → kind ≢ Free → IsKindAt h kind p → p ≢ q
  not_free kind p used at same =
      used (sym at.is ∙ ap (λ r. kind_of (cell_at h r)) same ∙ free.is)

  used_stays : (kind : CellKind) (p : Place) → kind ≢ Free → IsKindAt h kind p → IsKindAt after kind p
  used_stays kind p used at = record {
    held = (holds_written h is q free.held words p).1 at.held;
    is = ap kind_of (kept_other p (not_free kind p used at)) ∙ at.is;
  }

  pub fresh_back : (kind : CellKind) (p : Place) → p ≢ q → IsKindAt after kind p → IsKindAt h kind p
  fresh_back kind p other at = record {
    held = (holds_written h is q free.held words p).0 at.held;
    is = ap kind_of (sym (kept_other p other)) ∙ at.is;
  }

  object_used : Object ≢ Free
  object_used e = absurd cc

  chunk_used : Chunk ≢ Free
  chunk_used e = absurd cc

  pub fresh_stays : Stays h after
  fresh_stays = record {
    objects = λ p at. used_stays Object p object_used at;
    chunks = λ p at. used_stays Chunk p chunk_used at;
    names = λ p at. ap (λ (ws : List ℕ). get_or ws 1 0) (kept_other p (not_free Object p object_used at));
    keys = λ p at. ap (λ (ws : List ℕ). get_or ws 2 0) (kept_other p (not_free Object p object_used at));
  }

  pub fresh_same : (p : Place) → IsKindAt h Object p → All (λ c. cell_at after c ≡ cell_at h c) (row_of h p)
  fresh_same p at =
      All-weaker (λ c. c ≢ q) (λ c. cell_at after c ≡ cell_at h c) kept_other (row_of h p)
      (row_used h p (chunks_from h (length (cells_of h)) (link_at h p)) at (graph.ends p at) q free)

  pub fresh_rows : (p : Place) → IsKindAt h Object p → ShowsRow after p ((content_in h payloads).label (name_at h p))
  fresh_rows p at = row_stays h after fresh_stays payloads is graph p at (fresh_same p at)

  pub fresh_layouts : HasLayout after words → (p : Place) → HasCell after p → HasLayout after (cell_at after p)
  fresh_layouts layout p held = by_place (same_or_other p q)
    where
      by_place : (p ≡ q) ⊎ (p ≢ q) → HasLayout after (cell_at after p)
      by_place (inl same) = subst (HasLayout after) (sym (ap (cell_at after) same ∙ cell_written h is q free.held words)) layout
      by_place (inr other) =
          subst (HasLayout after) (sym (kept_other p other))
          (layout_stays h after fresh_stays (cell_at h p) (layout_at h is [] graph.sound p ((holds_written h is q free.held words p).0 held)))

  pub fresh_links : link_of words ≡ 0 → (p r : Place) → HasCell after p → HasCell after r → link_at after p ≢ 0 → link_at after p ≡ link_at after r → p ≡ r
  fresh_links none =
      links_stay h after fresh_stays payloads is graph (λ p held some. by_place p held some (same_or_other p q))
    where
      by_place : (p : Place) → HasCell after p → link_at after p ≢ 0 → (p ≡ q) ⊎ (p ≢ q) → HasCell h p × (link_at after p ≡ link_at h p)
      by_place p held some (inl same) = absurd (some (ap (link_at after) same ∙ ap link_of (cell_written h is q free.held words) ∙ none))
      by_place p held some (inr other) = ((holds_written h is q free.held words p).0 held, ap link_of (kept_other p other))

-- ---- a chunk

module _ (h : SpaceList) (payloads : Payloads) (is : IsSpaceList h) (graph : IsGraph h payloads) (q : Place) (word : ℕ) (free : IsKindAt h Free q) (refers : IsReference h word) where
  chunk_layout : HasLayout (with_cell_at h q (chunk_words word)) (chunk_words word)
  chunk_layout =
      let after = with_cell_at h q (chunk_words word) in
      let reference = IsReference after in
      let empty : (xs : List ℕ) → All reference xs → All reference (0 ∷ xs) = λ xs all. All-cons reference 0 xs (inl refl) all in (
        All-cons reference word (0 ∷ 0 ∷ 0 ∷ 0 ∷ 0 ∷ []) (reference_stays h after (fresh_stays h payloads is graph q free (chunk_words word)) word refers)
            (empty (0 ∷ 0 ∷ 0 ∷ 0 ∷ []) (empty (0 ∷ 0 ∷ 0 ∷ []) (empty (0 ∷ 0 ∷ []) (empty (0 ∷ []) (empty [] (All-nil reference)))))),
        inl refl,
      )

  chunk_back : (p : Place) → IsKindAt (with_cell_at h q (chunk_words word)) Object p → IsKindAt h Object p
  chunk_back p object =
      fresh_back h payloads is graph q free (chunk_words word) Object p
      (λ same. let one : Chunk ≡ Object = ap kind_of (sym (cell_written h is q free.held (chunk_words word)) ∙ ap (cell_at (with_cell_at h q (chunk_words word))) (sym same)) ∙ object.is in absurd cc)
      object

  -- a chunk to which nothing links changes nothing
  pub chunk_placed : Becomes h (with_cell_at h q (chunk_words word)) payloads (IsNamed (content_in h payloads)) (content_in h payloads).label (content_in h payloads).value
  chunk_placed =
      same_objects h (with_cell_at h q (chunk_words word)) (fresh_stays h payloads is graph q free (chunk_words word)) payloads is graph (content_in h payloads).label
      (list_written h is q free.held (chunk_words word) refl) chunk_back (fresh_layouts h payloads is graph q free (chunk_words word) chunk_layout)
      (fresh_links h payloads is graph q free (chunk_words word) refl) (fresh_rows h payloads is graph q free (chunk_words word)) (λ x y none. label_nowhere h payloads is x none y)

-- ---- a vertex

module _ (h : SpaceList) (payloads : Payloads) (is : IsSpaceList h) (graph : IsGraph h payloads) (q : Place) (name key : ℕ) (new : Payloads) (value : Value)
    (free : IsKindAt h Free q) (fresh : (p : Place) → IsVertexAt h name p → ⊥) (unused : entry payloads key ≡ None) (updates : Updates payloads new key (Some value)) where
  abbrev with_vertex : SpaceList
  with_vertex = with_cell_at h q (vertex_words name key)

  stays : Stays h with_vertex
  stays = fresh_stays h payloads is graph q free (vertex_words name key)

  written : cell_at with_vertex q ≡ vertex_words name key
  written = cell_written h is q free.held (vertex_words name key)

  new_object : IsKindAt with_vertex Object q
  new_object = record { held = (holds_written h is q free.held (vertex_words name key) q).1 free.held; is = ap kind_of written }

  new_name : name_at with_vertex q ≡ name
  new_name = ap (λ (ws : List ℕ). get_or ws 1 0) written

  new_key : key_at with_vertex q ≡ key
  new_key = ap (λ (ws : List ℕ). get_or ws 2 0) written

  pub vertex_at : IsVertexAt (with_cell_at h q (vertex_words name key)) name q
  vertex_at = record { object = new_object; named = new_name }

  vertex_layout : HasLayout with_vertex (vertex_words name key)
  vertex_layout =
      let reference = IsReference with_vertex in
      let empty : (xs : List ℕ) → All reference xs → All reference (0 ∷ xs) = λ xs all. All-cons reference 0 xs (inl refl) all in
      (refl, empty (0 ∷ 0 ∷ []) (empty (0 ∷ []) (empty [] (All-nil reference))), inl refl)

  -- an object is the new one, or one from before
  old_or_new : (p : Place) → IsKindAt with_vertex Object p → (p ≡ q) ⊎ IsKindAt h Object p
  old_or_new p object =
      ⊎_elim (λ same. inl same) (λ other. inr (fresh_back h payloads is graph q free (vertex_words name key) Object p other object)) (same_or_other p q)

  old_name : (p : Place) → IsKindAt h Object p → name_at with_vertex p ≢ name
  old_name p object same = fresh p (record { object = object; named = sym (stays.names p object) ∙ same })

  -- an object's key has a payload
  used_key : (p : Place) → IsKindAt h Object p → key_at with_vertex p ≢ key
  used_key p object same =
      let some : IsSome (entry payloads key) = (graph.payloads_used key).1 (p, object, sym (stays.keys p object) ∙ same) in
      let none : IsSome {T = Value} None = subst (λ (o : Option Value). IsSome o) unused some in
      absurd cc

  no_vertex_named : IsNamed (content_in h payloads) name → ⊥
  no_vertex_named named = let at = vertex_of_name h payloads is name named in fresh at.0 at.1

  empty_row : ShowsRow with_vertex q ((content_in h payloads).label (name_at with_vertex q))
  empty_row = record {
    chunks = [];
    ends = ap link_of written;
    targets = subst (λ (ws : List ℕ). IsDistinct (λ a b. a == b) (names_in with_vertex (references_of ws ++ []))) (sym written) (IsDistinct-from_apart (λ a b. a == b) [] (λ i j d less low. absurd (omega arith)));
    labels = λ y. ap (λ (ws : List ℕ). rights_to with_vertex y (references_of ws ++ [])) written ∙ sym (ap (λ (n : ℕ). (content_in h payloads).label n y) new_name ∙ label_nowhere h payloads is name no_vertex_named y);
  }

  by_object : {X : Place → Type 0} → X q → ((p : Place) → IsKindAt h Object p → X p) → (p : Place) → IsKindAt with_vertex Object p → X p
  by_object {X} here there p object = ⊎_elim (λ same. subst X (sym same) here) (λ old. there p old) (old_or_new p object)

  abbrev values : ℕ → Option Value
  values = with_value (content_in h payloads).value name value

  value_there : (x : ℕ) → x ≢ name → (content_in h payloads).value x ≡ values x
  value_there x other =
      let test : (x == name) ≡ false = ⊎_elim (λ t. absurd (other t.1)) (λ f. f.0) (eqb_tells x name) in rw test refl

  value_here : values name ≡ Some value
  value_here =
      let test : (name == name) ≡ true = ⊎_elim (λ t. t.0) (λ f. absurd (f.1 refl)) (eqb_tells name name) in rw test refl

  shows : Shows with_vertex new (λ x. IsNamed (content_in h payloads) x ⊎ (x ≡ name)) (content_in h payloads).label values
  shows = record {
    layouts = fresh_layouts h payloads is graph q free (vertex_words name key) vertex_layout;
    links = fresh_links h payloads is graph q free (vertex_words name key) refl;
    rows = by_object {X = λ p. ShowsRow with_vertex p ((content_in h payloads).label (name_at with_vertex p))} empty_row
        (λ p object. subst (λ (n : ℕ). ShowsRow with_vertex p ((content_in h payloads).label n)) (sym (stays.names p object)) (fresh_rows h payloads is graph q free (vertex_words name key) p object));
    names = λ p r op or same. apart (name_at h) (name_at with_vertex) name new_name old_name stays.names graph.names p r (old_or_new p op) (old_or_new r or) same;
    keys = λ p r op or same. apart (key_at h) (key_at with_vertex) key new_key used_key stays.keys graph.keys p r (old_or_new p op) (old_or_new r or) same;
    payloads_used = λ k. (used k (cases_eq k key), λ at. has k at.0 at.2 (old_or_new at.0 at.1));
    vertex = by_object {X = λ p. IsNamed (content_in h payloads) (name_at with_vertex p) ⊎ (name_at with_vertex p ≡ name)} (inr new_name)
        (λ p object. inl (name_of_vertex h payloads is (name_at with_vertex p) p (record { object = object; named = sym (stays.names p object) })));
    at = λ x named. ⊎_elim
        (λ old. let at = vertex_of_name h payloads is x old in (at.0, vertices_stay h with_vertex stays payloads is graph x at.0 at.1))
        (λ same. (q, record { object = new_object; named = new_name ∙ sym same })) named;
    values = by_object {X = λ p. entry new (key_at with_vertex p) ≡ values (name_at with_vertex p)}
        (ap (entry new) new_key ∙ updates.changed ∙ sym value_here ∙ ap values (sym new_name))
        (λ p object. updates.others (key_at with_vertex p) (used_key p object) ∙ ap (entry payloads) (stays.keys p object)
        ∙ sym (value_at h payloads is graph (name_at h p) p (record { object = object; named = refl })) ∙ ap (content_in h payloads).value (sym (stays.names p object)) ∙ value_there (name_at with_vertex p) (old_name p object));
    no_label = λ x y none. label_nowhere h payloads is x (λ named. none (inl named)) y;
    no_value = λ x none. sym (value_there x (λ same. none (inr same))) ∙ value_nowhere h payloads is x (λ named. none (inl named));
  }
    where
      -- numbers of objects stay apart, where the new one's is another
      apart : (f g : Place → ℕ) (n : ℕ) → g q ≡ n → ((p : Place) → IsKindAt h Object p → g p ≢ n) → ((p : Place) → IsKindAt h Object p → g p ≡ f p) → ((p r : Place) → IsKindAt h Object p → IsKindAt h Object r → f p ≡ f r → p ≡ r) →
          (p r : Place) → (p ≡ q) ⊎ IsKindAt h Object p → (r ≡ q) ⊎ IsKindAt h Object r → g p ≡ g r → p ≡ r
      apart f g n new_is others same before p r (inl one) (inl two) e = one ∙ sym two
      apart f g n new_is others same before p r (inl one) (inr old) e = absurd (others r old (sym e ∙ ap g one ∙ new_is))
      apart f g n new_is others same before p r (inr old) (inl two) e = absurd (others p old (e ∙ ap g two ∙ new_is))
      apart f g n new_is others same before p r (inr one) (inr two) e = before p r one two (sym (same p one) ∙ e ∙ same r two)

      used : (k : ℕ) → (k ≡ key) ⊎ (k ≢ key) → IsSome (entry new k) → (p : Place) × IsKindAt with_vertex Object p × (key_at with_vertex p ≡ k)
      used k (inl same) some = (q, new_object, new_key ∙ sym same)
      used k (inr other) some =
          let at = (graph.payloads_used k).0 (subst (λ (o : Option Value). IsSome o) (updates.others k other) some) in
          (at.0, stays.objects at.0 at.1, stays.keys at.0 at.1 ∙ at.2)

      has : (k : ℕ) (p : Place) → key_at with_vertex p ≡ k → (p ≡ q) ⊎ IsKindAt h Object p → IsSome (entry new k)
      has k p same (inl one) =
          let is_key : key ≡ k = sym new_key ∙ ap (key_at with_vertex) (sym one) ∙ same in
          subst (λ (o : Option Value). IsSome o) (sym (ap (entry new) (sym is_key) ∙ updates.changed)) refl
      has k p same (inr old) =
          let other : k ≢ key = λ e. used_key p old (same ∙ e) in
          subst (λ (o : Option Value). IsSome o) (sym (updates.others k other)) ((graph.payloads_used k).1 (p, old, sym (stays.keys p old) ∙ same))

  pub vertex_placed : Becomes h (with_cell_at h q (vertex_words name key)) new (λ x. IsNamed (content_in h payloads) x ⊎ (x ≡ name)) (content_in h payloads).label (with_value (content_in h payloads).value name value)
  vertex_placed =
      let spaces = list_written h is q free.held (vertex_words name key) refl in
      let named = λ (x : ℕ). IsNamed (content_in h payloads) x ⊎ (x ≡ name) in
      record {
        graph = shown_graph with_vertex new spaces named (content_in h payloads).label values shows;
        content = shown_content with_vertex new spaces named (content_in h payloads).label values shows;
        vertices = vertices_stay h with_vertex stays payloads is graph;
      }

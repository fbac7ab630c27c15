-- A collection that keeps what is named leaves the cells of a graph: that of the kept objects, with their labels and values.
use Rattle.std.proofs.Common.{◌≡◌, ◌≢◌, ℕ, ◌⊎◌, ◌↔◌, ◌==◌, ◌&&◌, not, Bool, true, false, List, [], ◌∷◌, length, Option, IsSome, refl, sym, ap, subst, ◌∙◌, inl, inr, ⊎_elim}
use Rattle.std.specs.List.{Contains, IsDistinct}
use Rattle.std.proofs.lemmas.Bool.{cases_Bool, and_parts, eqb-true}
use Rattle.std.proofs.lemmas.List.Elements.{All-contains}
use Rattle.tg_rights.specs.RightSet.{is_none_held}
use Rattle.tg_model.specs.Graph.{HasEdge}
use Rattle.tg_model.specs.declared.value.Value.{Value}
use Rattle.tg_word.specs.declared.Place.{Place}
use Rattle.tg_word.specs.Word.{place_in}
use Rattle.tg_block.specs.Cells.{kind_of, free_cell}
use Rattle.tg_block.specs.declared.CellKind.TheVariants.{Free, Object}
use Rattle.tg_space.specs.SpaceList.{SpaceList, cell_at, cells_of}
use Rattle.tg_space.specs.Soundness.{IsKindAt, IsReference, RefersTo}
use Rattle.tg_payload.specs.Table.{Payloads, entry}
use Rattle.tg_rows.specs.Content.{IsNamed}
use Rattle.tg_graph.specs.Standing.{KeepsContent}
use Rattle.tg_rows.specs.Rows.{IsChain, IsVertexAt, key_at, name_at, name_in, names_in, rights_to, row_words}
use Rattle.tg_space.specs.Rows.{chunks_from, link_at}
use Rattle.tg_rows.specs.Graph.{IsGraph, content_in}
use Rattle.tg_graph.specs.Kept.{KeepsPayloads}
use Rattle.tg_space.specs.Numbering.{moved_place}
use Rattle.tg_rows.proofs.Members.{Contains-here, Contains-more}
use Rattle.tg_rows.proofs.Lookups.{vertex_of_name, name_of_vertex, label_at, value_at}
use Rattle.tg_rows.proofs.KeptCells.{Moves, IsKeptWord, is_copied, name_kept, key_kept, kind_at_after, sound_after}
use Rattle.tg_rows.proofs.KeptRows.{IsKeptRow, row_kept}

-- a word that gives a name some rights
pub record GivesRights (h : SpaceList) (name : ℕ) (words : List ℕ) : Type 0 where
  pub word : ℕ
  pub among : Contains words word
  pub some : word ≢ 0
  pub named : name_in h word ≡ name

pub rights_given : (h : SpaceList) (name : ℕ) (words : List ℕ) → is_none_held (rights_to h name words) ≡ false → GivesRights h name words
rights_given h name [] e = let no : true ≡ false = e in absurd cc
rights_given h name (w ∷ words) e = by_test (cases_Bool (not (w == 0) && (name_in h w == name))) (rights_given h name words)
  where
    by_test : ((not (w == 0) && (name_in h w == name)) ≡ true) ⊎ ((not (w == 0) && (name_in h w == name)) ≡ false) → (is_none_held (rights_to h name words) ≡ false → GivesRights h name words) → GivesRights h name (w ∷ words)
    by_test (inl t) again =
        let both = and_parts (not (w == 0)) (name_in h w == name) t in
        let one : not (w == 0) ≡ true = both.0 in
        let two : (name_in h w == name) ≡ true = both.1 in
        record { word = w; among = Contains-here w words; some = λ z. let zero_test : not (0 == 0) ≡ true = subst (λ (x : ℕ). not (x == 0) ≡ true) z one in let no : false ≡ true = zero_test in absurd cc; named = eqb-true (name_in h w) name two }
    by_test (inr f) again =
        let rest = again (rw f at e) in
        record { word = rest.word; among = Contains-more w words rest.word rest.among; some = rest.some; named = rest.named }

module _ {from : ℕ → Bool} {h after : SpaceList} {to : ℕ → Place} {kept : Place → Type 0} (move : Moves from h after to kept) (payloads left : Payloads) (graph : IsGraph h payloads) (keeps : KeepsPayloads h kept payloads left) where
  -- where an object of `after` was
  pub record WasAt (q : Place) : Type 0 where
    pub place : Place
    pub keep : kept place
    pub object : IsKindAt h Object place
    pub at : moved_place from h to place ≡ q
    pub name : name_at after q ≡ name_at h place
    pub key : key_at after q ≡ key_at h place

  pub was_at : (q : Place) → IsKindAt after Object q → WasAt q
  was_at q object = ⊎_elim (λ free. absurd (not_free free)) (λ (p, keep, at). found p keep at) (move.rest q object.held)
    where
      not_free : cell_at after q ≡ free_cell → ⊥
      not_free free = let no : Free ≡ Object = sym (ap kind_of free) ∙ object.is in absurd cc

      found : (p : Place) → kept p → moved_place from h to p ≡ q → WasAt q
      found p keep at =
          let is : kind_of (cell_at h p) ≡ Object = sym (is_copied move p keep).kind ∙ ap (λ (r : Place). kind_of (cell_at after r)) at ∙ object.is in
          record {
            place = p;
            keep = keep;
            object = record { held = move.held p keep; is = is };
            at = at;
            name = ap (name_at after) (sym at) ∙ name_kept move p keep is;
            key = ap (key_at after) (sym at) ∙ key_kept move p keep is;
          }

  row_of_kept : (p : Place) → kept p → IsKindAt h Object p → IsKeptRow move p
  row_of_kept p keep object = row_kept move p keep object.is (graph.ends p object)

  -- ---- the graph

  pub graph_after : IsGraph after left
  graph_after = record {
    sound = sound_after move;
    ends = λ q object.
        let was = was_at q object in
        subst (λ (r : Place). IsChain after (link_at after r) (chunks_from after (length (cells_of after)) (link_at after r))) was.at (row_of_kept was.place was.keep was.object).ends;
    targets = λ q object.
        let was = was_at q object in
        subst (λ (r : Place). IsDistinct (λ a b. a == b) (names_in after (row_words after r))) was.at
        (subst (λ (names : List ℕ). IsDistinct (λ a b. a == b) names) (sym (row_of_kept was.place was.keep was.object).names) (graph.targets was.place was.object));
    names = λ p q one two same.
        let was = was_at p one in
        let is = was_at q two in
        sym was.at ∙ ap (moved_place from h to) (graph.names was.place is.place was.object is.object (sym was.name ∙ same ∙ is.name)) ∙ is.at;
    keys = λ p q one two same.
        let was = was_at p one in
        let is = was_at q two in
        sym was.at ∙ ap (moved_place from h to) (graph.keys was.place is.place was.object is.object (sym was.key ∙ same ∙ is.key)) ∙ is.at;
    payloads_used = λ key. (used key, unused key);
  }
    where
      used : (key : ℕ) → IsSome (entry left key) → (q : Place) × IsKindAt after Object q × (key_at after q ≡ key)
      used key some =
          let old = keeps.none_else key some in
          (moved_place from h to old.0, kind_at_after move Object old.0 old.1 old.2.is, key_kept move old.0 old.1 old.2.is ∙ old.3)

      unused : (key : ℕ) → ((q : Place) × IsKindAt after Object q × (key_at after q ≡ key)) → IsSome (entry left key)
      unused key (q, object, at) =
          let was = was_at q object in
          let before : IsSome (entry payloads (key_at h was.place)) = (graph.payloads_used (key_at h was.place)).1 (was.place, was.object, refl) in
          let same : entry left key ≡ entry payloads (key_at h was.place) = ap (entry left) (sym at ∙ was.key) ∙ keeps.same was.place was.keep was.object in
          subst (λ (o : Option Value). IsSome o) (sym same) before

  -- ---- the content

  -- the vertices of `after` are the kept ones
  pub vertex_after : (x : ℕ) (p : Place) → kept p → IsVertexAt h x p → IsVertexAt after x (moved_place from h to p)
  vertex_after x p keep vertex = record {
    object = kind_at_after move Object p keep vertex.object.is;
    named = name_kept move p keep vertex.object.is ∙ vertex.named;
  }

  -- what the content is, where names show which vertices are kept
  module _ (names : ℕ → Type 0) (are : (x : ℕ) (p : Place) → IsVertexAt h x p → kept p ↔ names x) where
    -- where a vertex was, and where it is
    record Was (x : ℕ) : Type 0 where
      place : Place
      keep : kept place
      before : IsVertexAt h x place
      now : IsVertexAt after x (moved_place from h to place)
      row : IsKeptRow move place

    was : (x : ℕ) → IsNamed (content_in after left) x → Was x
    was x named =
        let at = vertex_of_name after left move.whole_after x named in
        let old = was_at at.0 at.1.object in
        let before : IsVertexAt h x old.place = record { object = old.object; named = sym old.name ∙ at.1.named } in
        record { place = old.place; keep = old.keep; before = before; now = vertex_after x old.place old.keep before; row = row_of_kept old.place old.keep old.object }

    named_after : (x : ℕ) (p : Place) → kept p → IsVertexAt h x p → IsNamed (content_in after left) x
    named_after x p keep vertex = name_of_vertex after left move.whole_after x (moved_place from h to p) (vertex_after x p keep vertex)

    names_kept : (x : ℕ) → IsNamed (content_in after left) x ↔ (IsNamed (content_in h payloads) x × names x)
    names_kept x = (
      λ named. let w = was x named in (name_of_vertex h payloads move.whole x w.place w.before, (are x w.place w.before).0 w.keep),
      λ (named, kept_name). let at = vertex_of_name h payloads move.whole x named in named_after x at.0 ((are x at.0 at.1).1 kept_name) at.1,
    )

    -- what a kept row gives rights over is kept
    target_named : (x y : ℕ) (w : Was x) → HasEdge (content_in h payloads).label x y → IsNamed (content_in after left) y
    target_named x y w edge =
        let label = label_at h payloads move.whole graph x w.place w.before y in
        let given = rights_given h y (row_words h w.place) (ap is_none_held (sym label) ∙ edge) in
        let keep = All-contains (IsKeptWord move) (row_words h w.place) given.word w.row.words given.among given.some in
        let is : IsReference h given.word = All-contains (IsReference h) (row_words h w.place) given.word w.row.references given.among in
        let refers : RefersTo h given.word = ⊎_elim (λ z. absurd (given.some z)) (λ r. r) is in
        named_after y (place_in given.word) keep.0 (record { object = refers.object; named = given.named })

    pub content_after : KeepsContent (content_in h payloads) (content_in after left) names
    content_after = record {
      names = names_kept;
      closed = λ x y named edge. target_named x y (was x named) edge;
      labels = λ x y named.
          let w = was x named in
          label_at after left move.whole_after graph_after x (moved_place from h to w.place) w.now y
          ∙ w.row.rights y
          ∙ sym (label_at h payloads move.whole graph x w.place w.before y);
      values = λ x named.
          let w = was x named in
          value_at after left move.whole_after graph_after x (moved_place from h to w.place) w.now
          ∙ ap (entry left) (key_kept move w.place w.keep w.before.object.is)
          ∙ keeps.same w.place w.keep w.before.object
          ∙ sym (value_at h payloads move.whole graph x w.place w.before);
    }

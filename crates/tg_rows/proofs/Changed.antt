-- What a change of the cells keeps, and what is to be shown for the graph after it.
use Rattle.std.proofs.Common.{◌≡◌, ◌≢◌, ◌↔◌, ℕ, ◌⊎◌, ◌==◌, ◌&&◌, inl, inr, true, false, cond, if◌then◌else◌, List, [], ◌∷◌, ◌++◌, length, take, drop, Option, None, IsSome, refl, sym, ap, subst, ◌∙◌, ⊎_elim}
use Rattle.std.specs.List.{All, IsDistinct, flat_map}
use Rattle.std.proofs.lemmas.Bool.Decides.{eqb_tells}
use Rattle.std.proofs.lemmas.List.Elements.{All-head, All-tail, All-weaker}
use Rattle.tg_rights.specs.RightSet.{RightSet, no_rights, union, minus}
use Rattle.tg_model.specs.declared.value.Value.{Value}
use Rattle.tg_model.specs.Graph.{with_rights, without_rights}
use Rattle.tg_word.specs.declared.Place.{Place}
use Rattle.tg_word.specs.Word.{place_in, rights_in}
use Rattle.tg_block.specs.declared.CellKind.TheVariants.{Object, Chunk}
use Rattle.tg_space.specs.SpaceList.{SpaceList, IsSpaceList, HasCell, cell_at, cells_of}
use Rattle.tg_space.specs.Soundness.{AreSound, HasLayout, HasLayoutOf, IsKindAt, IsReference, RefersTo, IsLink, LinksTo}
use Rattle.tg_space.specs.Rows.{link_of, chunks_from, link_at, row_of}
use Rattle.tg_payload.specs.Table.{Payloads, entry}
use Rattle.tg_rows.specs.Content.{IsContent, IsNamed}
use Rattle.tg_rows.specs.Rows.{IsChain, IsRow, IsVertexAt, key_at, name_at, name_in, names_in, references_of, rights_to, row_words, words_of}
use Rattle.tg_rows.specs.Graph.{IsGraph, content_in}
use Rattle.tg_rows.proofs.Places.{sound_from_places, links_apart}
use Rattle.tg_rows.proofs.Layouts.{KindCases, is_free, is_object, is_chunk, is_bad, kind_cases}
use Rattle.tg_rows.proofs.Lookups.{content_from, label_at, label_nowhere, name_of_vertex, value_at, value_nowhere, vertex_of_name}
use Rattle.tg_rows.proofs.Slots.{Puts}
use Rattle.tg_rows.proofs.Changes.{same_or_other}
use Rattle.tg_rows.proofs.Chains.{chain_whole, row_references}

-- ---- labels with one changed

-- the labels with this set from x to y
abbrev pub with_label : (ℕ → ℕ → RightSet) → ℕ → ℕ → RightSet → ℕ → ℕ → RightSet
with_label label x y rights a b = if (a == x) && (b == y) then rights else label a b

module _ (label : ℕ → ℕ → RightSet) (x y : ℕ) (rights set : RightSet) where
  at_pair : (f : RightSet → RightSet) → set ≡ f (label x y) → (a b : ℕ) → with_label label x y set a b ≡ (if (a == x) && (b == y) then f (label a b) else label a b)
  at_pair f is a b = by_names (eqb_tells a x) (eqb_tells b y)
    where
      by_names : (((a == x) ≡ true) × (a ≡ x)) ⊎ (((a == x) ≡ false) × (a ≢ x)) → (((b == y) ≡ true) × (b ≡ y)) ⊎ (((b == y) ≡ false) × (b ≢ y)) → with_label label x y set a b ≡ (if (a == x) && (b == y) then f (label a b) else label a b)
      by_names (inl one) (inl two) = rw (one.0, two.0) (is ∙ ap f (ap (λ n. label n y) (sym one.1) ∙ ap (label a) (sym two.1)))
      by_names (inl one) (inr two) = rw (one.0, two.0) refl
      by_names (inr one) _ = rw (one.0) refl

  pub with_label-union : set ≡ union (label x y) rights → (a b : ℕ) → with_label label x y set a b ≡ with_rights label x y rights a b
  with_label-union is = at_pair (λ r. union r rights) is

  pub with_label-minus : set ≡ minus (label x y) rights → (a b : ℕ) → with_label label x y set a b ≡ without_rights label x y rights a b
  with_label-minus is = at_pair (λ r. minus r rights) is

-- ---- what a graph says, row by row

-- the row of the object at a place ends, has at most one reference to each vertex, and gives these rights
pub record ShowsRow (h : SpaceList) (p : Place) (rights : ℕ → RightSet) : Type 0 where
  pub chunks : List Place
  pub ends : IsChain h (link_at h p) chunks
  pub targets : IsDistinct (λ a b. a == b) (names_in h (words_of h (p ∷ chunks)))
  pub labels : (y : ℕ) → rights_to h y (words_of h (p ∷ chunks)) ≡ rights y

-- the cells and the payloads are those of a graph with these names, labels and values
pub record Shows (h : SpaceList) (payloads : Payloads) (named : ℕ → Type 0) (label : ℕ → ℕ → RightSet) (value : ℕ → Option Value) : Type 0 where
  pub layouts : (p : Place) → HasCell h p → HasLayout h (cell_at h p)
  pub links : (p q : Place) → HasCell h p → HasCell h q → link_at h p ≢ 0 → link_at h p ≡ link_at h q → p ≡ q
  pub rows : (p : Place) → IsKindAt h Object p → ShowsRow h p (label (name_at h p))
  pub names : (p q : Place) → IsKindAt h Object p → IsKindAt h Object q → name_at h p ≡ name_at h q → p ≡ q
  pub keys : (p q : Place) → IsKindAt h Object p → IsKindAt h Object q → key_at h p ≡ key_at h q → p ≡ q
  pub payloads_used : (key : ℕ) → IsSome (entry payloads key) ↔ ((p : Place) × IsKindAt h Object p × (key_at h p ≡ key))
  pub vertex : (p : Place) → IsKindAt h Object p → named (name_at h p)
  pub at : (x : ℕ) → named x → (p : Place) × IsVertexAt h x p
  pub values : (p : Place) → IsKindAt h Object p → entry payloads (key_at h p) ≡ value (name_at h p)
  pub no_label : (x y : ℕ) → (named x → ⊥) → label x y ≡ no_rights
  pub no_value : (x : ℕ) → (named x → ⊥) → value x ≡ None

-- after a change the cells are those of a graph with this content, and each vertex is where it was
pub record Becomes (h after : SpaceList) (payloads : Payloads) (named : ℕ → Type 0) (label : ℕ → ℕ → RightSet) (value : ℕ → Option Value) : Type 0 where
  pub graph : IsGraph after payloads
  pub content : IsContent (content_in after payloads) named label value
  pub vertices : (x : ℕ) (p : Place) → IsVertexAt h x p → IsVertexAt after x p

-- the second step's content, in words of the first one's
pub becomes_then : (h mid after : SpaceList) (first second : Payloads) (named1 named2 named : ℕ → Type 0) (label1 label2 label : ℕ → ℕ → RightSet) (value1 value2 value : ℕ → Option Value) →
    Becomes h mid first named1 label1 value1 → Becomes mid after second named2 label2 value2 →
    ((x : ℕ) → named2 x ↔ named x) → ((x y : ℕ) → label2 x y ≡ label x y) → ((x : ℕ) → value2 x ≡ value x) → Becomes h after second named label value
becomes_then h mid after first second named1 named2 named label1 label2 label value1 value2 value one two names labels values = record {
  graph = two.graph;
  content = record {
    names = λ x. (λ n. (names x).0 ((two.content.names x).0 n), λ n. (two.content.names x).1 ((names x).1 n));
    labels = λ x y. two.content.labels x y ∙ labels x y;
    values = λ x. two.content.values x ∙ values x;
  };
  vertices = λ x p vertex. two.vertices x p (one.vertices x p vertex);
}

module _ (h : SpaceList) (payloads : Payloads) (is : IsSpaceList h) (named : ℕ → Type 0) (label : ℕ → ℕ → RightSet) (value : ℕ → Option Value) (shows : Shows h payloads named label value) where
  shown_sound : AreSound h []
  shown_sound = sound_from_places h is shows.layouts shows.links

  whole : (p : Place) (object : IsKindAt h Object p) → chunks_from h (length (cells_of h)) (link_at h p) ≡ (shows.rows p object).chunks
  whole p object = let row = shows.rows p object in chain_whole h is [] shown_sound p row.chunks object row.ends

  pub shown_graph : IsGraph h payloads
  shown_graph = record {
    sound = shown_sound;
    ends = λ p object. subst (IsChain h (link_at h p)) (sym (whole p object)) (shows.rows p object).ends;
    targets = λ p object. subst (λ (ps : List Place). IsDistinct (λ a b. a == b) (names_in h (words_of h (p ∷ ps)))) (sym (whole p object)) (shows.rows p object).targets;
    names = shows.names;
    keys = shows.keys;
    payloads_used = shows.payloads_used;
  }

  pub shown_content : IsContent (content_in h payloads) named label value
  shown_content = content_from h payloads is named label value
      (record {
        vertex = λ x p vertex. subst named vertex.named (shows.vertex p vertex.object);
        at = shows.at;
        labels = λ x p vertex y.
            let row = shows.rows p vertex.object in
            ap (λ (ps : List Place). rights_to h y (words_of h (p ∷ ps))) (whole p vertex.object) ∙ row.labels y ∙ ap (λ (n : ℕ). label n y) vertex.named;
        values = λ x p vertex. shows.values p vertex.object ∙ ap value vertex.named;
        no_label = shows.no_label;
        no_value = shows.no_value;
      })

-- ---- what stays

-- each object stays one, with its name and its key, and each chunk stays one
pub record Stays (h after : SpaceList) : Type 0 where
  pub objects : (p : Place) → IsKindAt h Object p → IsKindAt after Object p
  pub chunks : (p : Place) → IsKindAt h Chunk p → IsKindAt after Chunk p
  pub names : (p : Place) → IsKindAt h Object p → name_at after p ≡ name_at h p
  pub keys : (p : Place) → IsKindAt h Object p → key_at after p ≡ key_at h p

pub flat_map_same : {X Y : Type 0} (f g : X → List Y) (xs : List X) → All (λ x. g x ≡ f x) xs → flat_map g xs ≡ flat_map f xs
flat_map_same f g [] same = refl
flat_map_same f g (x ∷ xs) same =
    ap (λ ys. ys ++ flat_map g xs) (All-head (λ z. g z ≡ f z) x xs same) ∙ ap (λ ys. f x ++ ys) (flat_map_same f g xs (All-tail (λ z. g z ≡ f z) x xs same))

-- the words of a row whose cells stay
pub words_by_cells : (h after : SpaceList) (r : Place) → row_of after r ≡ row_of h r → All (λ q. cell_at after q ≡ cell_at h q) (row_of h r) → row_words after r ≡ row_words h r
words_by_cells h after r row cells =
    ap (λ (ps : List Place). words_of after ps) row
    ∙ flat_map_same (λ q. references_of (cell_at h q)) (λ q. references_of (cell_at after q)) (row_of h r)
    (All-weaker (λ q. cell_at after q ≡ cell_at h q) (λ q. references_of (cell_at after q) ≡ references_of (cell_at h q)) (λ q e. ap references_of e) (row_of h r) cells)

pub links_by_cells : (h after : SpaceList) (ps : List Place) → All (λ q. cell_at after q ≡ cell_at h q) ps → All (λ q. link_at after q ≡ link_at h q) ps
links_by_cells h after ps cells = All-weaker (λ q. cell_at after q ≡ cell_at h q) (λ q. link_at after q ≡ link_at h q) (λ q e. ap link_of e) ps cells

module _ (h after : SpaceList) (stays : Stays h after) where
  pub refers_stays : (word : ℕ) → RefersTo h word → RefersTo after word
  refers_stays word refers =
      record { present = refers.present; rights = refers.rights; object = stays.objects (place_in word) refers.object }

  pub reference_stays : (word : ℕ) → IsReference h word → IsReference after word
  reference_stays word is = ⊎_elim (λ z. inl z) (λ refers. inr (refers_stays word refers)) is

  pub link_stays : (word : ℕ) → IsLink h word → IsLink after word
  link_stays word is =
      ⊎_elim (λ z. inl z)
      (λ (links : LinksTo h word). inr (record { present = links.present; rights = links.rights; chunk = stays.chunks (place_in word) links.chunk }))
      is

  pub layout_stays : (words : List ℕ) → HasLayout h words → HasLayout after words
  layout_stays words layout = by_kind (kind_cases words)
    where
      by_kind : KindCases words → HasLayout after words
      by_kind (is_free kind _) = subst (HasLayoutOf after words) (sym kind) tt
      by_kind (is_object kind _) =
          let shape : HasLayoutOf h words Object = subst (HasLayoutOf h words) kind layout in
          subst (HasLayoutOf after words) (sym kind) (shape.0, All-weaker (IsReference h) (IsReference after) reference_stays (take 3 (drop 4 words)) shape.1, link_stays (link_of words) shape.2)
      by_kind (is_chunk kind _) =
          let shape : HasLayoutOf h words Chunk = subst (HasLayoutOf h words) kind layout in
          subst (HasLayoutOf after words) (sym kind) (All-weaker (IsReference h) (IsReference after) reference_stays (take 6 (drop 1 words)) shape.0, link_stays (link_of words) shape.1)
      by_kind (is_bad kind) = absurd (subst (HasLayoutOf h words) kind layout)

  pub name_stays : (word : ℕ) → IsReference h word → word ≢ 0 → name_in after word ≡ name_in h word
  name_stays word is some =
      ⊎_elim (λ z. absurd (some z)) (λ (refers : RefersTo h word). stays.names (place_in word) refers.object) is

  pub names_stay : (words : List ℕ) → All (IsReference h) words → names_in after words ≡ names_in h words
  names_stay [] all = refl
  names_stay (w ∷ words) all =
      by_test (eqb_tells w 0) (All-head (IsReference h) w words all) (names_stay words (All-tail (IsReference h) w words all))
    where
      by_test : (((w == 0) ≡ true) × (w ≡ 0)) ⊎ (((w == 0) ≡ false) × (w ≢ 0)) → IsReference h w → names_in after words ≡ names_in h words → names_in after (w ∷ words) ≡ names_in h (w ∷ words)
      by_test (inl z) is rest = rw (z.0) rest
      by_test (inr some) is rest =
          rw (some.0) (ap (λ (n : ℕ). n ∷ names_in after words) (name_stays w is some.1) ∙ ap (λ (ns : List ℕ). name_in h w ∷ ns) rest)

  pub rights_stay : (words : List ℕ) → All (IsReference h) words → (y : ℕ) → rights_to after y words ≡ rights_to h y words
  rights_stay [] all y = refl
  rights_stay (w ∷ words) all y =
      by_test (eqb_tells w 0) (All-head (IsReference h) w words all) (rights_stay words (All-tail (IsReference h) w words all) y)
    where
      by_test : (((w == 0) ≡ true) × (w ≡ 0)) ⊎ (((w == 0) ≡ false) × (w ≢ 0)) → IsReference h w → rights_to after y words ≡ rights_to h y words → rights_to after y (w ∷ words) ≡ rights_to h y (w ∷ words)
      by_test (inl z) is rest = rw (z.0) rest
      by_test (inr some) is rest =
          rw (some.0) (ap (λ (n : ℕ). cond (n == y) (rights_in w) (rights_to after y words)) (name_stays w is some.1) ∙ ap (λ (r : RightSet). cond (name_in h w == y) (rights_in w) r) rest)

  -- a chain stays where its links do
  pub chain_stays : (ps : List Place) (link : ℕ) → IsChain h link ps → All (λ q. link_at after q ≡ link_at h q) ps → IsChain after link ps
  chain_stays [] link ends same = ends
  chain_stays (p ∷ ps) link ends same =
      let rest = chain_stays ps (link_at h p) ends.3 (All-tail (λ q. link_at after q ≡ link_at h q) p ps same) in (
        ends.0,
        ends.1,
        stays.chunks p ends.2,
        subst (λ (l : ℕ). IsChain after l ps) (sym (All-head (λ q. link_at after q ≡ link_at h q) p ps same)) rest,
      )

  -- and so does a row where the links of its cells do
  pub row_chain : (r : Place) → IsRow h r → All (λ q. link_at after q ≡ link_at h q) (row_of h r) → IsChain after (link_at after r) (chunks_from h (length (cells_of h)) (link_at h r))
  row_chain r row same =
      let old = chunks_from h (length (cells_of h)) (link_at h r) in
      subst (λ (l : ℕ). IsChain after l old) (sym (All-head (λ q. link_at after q ≡ link_at h q) r old same)) (chain_stays old (link_at h r) row.ends (All-tail (λ q. link_at after q ≡ link_at h q) r old same))

  pub row_by_links : IsSpaceList after → AreSound after [] → (r : Place) → IsRow h r → All (λ q. link_at after q ≡ link_at h q) (row_of h r) → row_of after r ≡ row_of h r
  row_by_links after_is sound r row same =
      ap (λ (ps : List Place). r ∷ ps) (chain_whole after after_is [] sound r (chunks_from h (length (cells_of h)) (link_at h r)) (stays.objects r row.object) (row_chain r row same))

  -- what a row shows after the change, by what its words say before
  pub row_shown : (p : Place) (chunks : List Place) (words : List ℕ) (rights : ℕ → RightSet) → IsChain after (link_at after p) chunks → words_of after (p ∷ chunks) ≡ words → All (IsReference h) words →
      IsDistinct (λ a b. a == b) (names_in h words) → ((y : ℕ) → rights_to h y words ≡ rights y) → ShowsRow after p rights
  row_shown p chunks words rights ends is all apart labels = record {
    chunks = chunks;
    ends = ends;
    targets = subst (IsDistinct (λ a b. a == b)) (sym (ap (names_in after) is ∙ names_stay words all)) apart;
    labels = λ y. ap (rights_to after y) is ∙ rights_stay words all y ∙ labels y;
  }

  module _ (payloads : Payloads) (is : IsSpaceList h) (graph : IsGraph h payloads) where
    pub vertices_stay : (x : ℕ) (p : Place) → IsVertexAt h x p → IsVertexAt after x p
    vertices_stay x p vertex =
        record { object = stays.objects p vertex.object; named = stays.names p vertex.object ∙ vertex.named }

    -- a row whose cells stay keeps its words, its names and its rights
    pub row_stays : (p : Place) → IsKindAt h Object p → All (λ q. cell_at after q ≡ cell_at h q) (row_of h p) → ShowsRow after p ((content_in h payloads).label (name_at h p))
    row_stays p object same =
        let ends = graph.ends p object in
        let references = All-weaker (λ q. cell_at after q ≡ cell_at h q) (λ q. references_of (cell_at after q) ≡ references_of (cell_at h q)) (λ q e. ap references_of e) (row_of h p) same in
        row_shown p (chunks_from h (length (cells_of h)) (link_at h p)) (row_words h p) ((content_in h payloads).label (name_at h p))
        (row_chain p (record { object = object; ends = ends }) (links_by_cells h after (row_of h p) same))
        (flat_map_same (λ q. references_of (cell_at h q)) (λ q. references_of (cell_at after q)) (row_of h p) references)
        (row_references h is [] graph.sound p object ends)
        (graph.targets p object)
        (λ y. sym (label_at h payloads is graph (name_at h p) p (record { object = object; named = refl }) y))

    -- links stay apart where each that isn't empty stood in the same cell before
    pub links_stay : ((p : Place) → HasCell after p → link_at after p ≢ 0 → HasCell h p × (link_at after p ≡ link_at h p)) → (p q : Place) → HasCell after p → HasCell after q → link_at after p ≢ 0 → link_at after p ≡ link_at after q → p ≡ q
    links_stay old p q hp hq some same =
        let one = old p hp some in
        let two = old q hq (λ z. some (same ∙ z)) in
        links_apart h is [] graph.sound p q one.0 two.0 (λ z. some (one.1 ∙ z)) (sym one.1 ∙ same ∙ two.1)

    -- where there is no new object, names and values are as before
    pub same_objects : (label : ℕ → ℕ → RightSet) → IsSpaceList after → ((p : Place) → IsKindAt after Object p → IsKindAt h Object p) → ((p : Place) → HasCell after p → HasLayout after (cell_at after p)) →
        ((p q : Place) → HasCell after p → HasCell after q → link_at after p ≢ 0 → link_at after p ≡ link_at after q → p ≡ q) → ((p : Place) → IsKindAt h Object p → ShowsRow after p (label (name_at h p))) →
        ((x y : ℕ) → (IsNamed (content_in h payloads) x → ⊥) → label x y ≡ no_rights) → Becomes h after payloads (IsNamed (content_in h payloads)) label (content_in h payloads).value
    same_objects label spaces back layouts links rows nowhere =
        let c = content_in h payloads in
        let shows : Shows after payloads (IsNamed c) label c.value = record {
          layouts = layouts;
          links = links;
          rows = λ p object. subst (λ (n : ℕ). ShowsRow after p (label n)) (sym (stays.names p (back p object))) (rows p (back p object));
          names = λ p q op oq same. graph.names p q (back p op) (back q oq) (sym (stays.names p (back p op)) ∙ same ∙ stays.names q (back q oq));
          keys = λ p q op oq same. graph.keys p q (back p op) (back q oq) (sym (stays.keys p (back p op)) ∙ same ∙ stays.keys q (back q oq));
          payloads_used = λ key. (
            λ some. let at = (graph.payloads_used key).0 some in (at.0, stays.objects at.0 at.1, stays.keys at.0 at.1 ∙ at.2),
            λ at. (graph.payloads_used key).1 (at.0, back at.0 at.1, sym (stays.keys at.0 (back at.0 at.1)) ∙ at.2),
          );
          vertex = λ p object. name_of_vertex h payloads is (name_at after p) p (record { object = back p object; named = sym (stays.names p (back p object)) });
          at = λ x named. let at = vertex_of_name h payloads is x named in (at.0, vertices_stay x at.0 at.1);
          values = λ p object.
              let before = back p object in
              ap (entry payloads) (stays.keys p before) ∙ sym (value_at h payloads is graph (name_at h p) p (record { object = before; named = refl })) ∙ ap c.value (sym (stays.names p before));
          no_label = nowhere;
          no_value = value_nowhere h payloads is;
        } in
        record {
          graph = shown_graph after payloads spaces (IsNamed c) label c.value shows;
          content = shown_content after payloads spaces (IsNamed c) label c.value shows;
          vertices = vertices_stay;
        }

    -- where the row of one object says something else of one name, and all other rows stay
    module _ (p : Place) (object : IsKindAt h Object p) (name : ℕ) (rights : RightSet) where
      abbrev changed : ℕ → ℕ → RightSet
      changed = with_label (content_in h payloads).label (name_at h p) name rights

      changed_here : (new : List ℕ) → Puts h (row_words h p) new name rights → (y : ℕ) → rights_to h y new ≡ changed (name_at h p) y
      changed_here new puts y =
          let self : (name_at h p == name_at h p) ≡ true = ⊎_elim (λ t. t.0) (λ f. absurd (f.1 refl)) (eqb_tells (name_at h p) (name_at h p)) in
          puts.gives y
          ∙ ap (λ (r : RightSet). cond (y == name) rights r) (sym (label_at h payloads is graph (name_at h p) p (record { object = object; named = refl }) y))
          ∙ rw self refl

      changed_at : (a y : ℕ) → a ≢ name_at h p → (content_in h payloads).label a y ≡ changed a y
      changed_at a y other =
          let test : (a == name_at h p) ≡ false = ⊎_elim (λ t. absurd (other t.1)) (λ f. f.0) (eqb_tells a (name_at h p)) in
          rw test refl

      changed_there : (a : ℕ) → a ≢ name_at h p → (content_in h payloads).label a ≡ changed a
      changed_there a other = λ i y. changed_at a y other i

      changed_nowhere : (x y : ℕ) → (IsNamed (content_in h payloads) x → ⊥) → changed x y ≡ no_rights
      changed_nowhere x y none =
          let other : x ≢ name_at h p = λ e. none (name_of_vertex h payloads is x p (record { object = object; named = sym e })) in
          sym (changed_at x y other) ∙ label_nowhere h payloads is x none y

      pub one_row : (chunks : List Place) (new : List ℕ) → IsSpaceList after → ((q : Place) → IsKindAt after Object q → IsKindAt h Object q) → ((q : Place) → HasCell after q → HasLayout after (cell_at after q)) →
          ((q r : Place) → HasCell after q → HasCell after r → link_at after q ≢ 0 → link_at after q ≡ link_at after r → q ≡ r) →
          ((q : Place) → IsKindAt h Object q → q ≢ p → ShowsRow after q ((content_in h payloads).label (name_at h q))) →
          IsChain after (link_at after p) chunks → words_of after (p ∷ chunks) ≡ new → All (IsReference h) new → Puts h (row_words h p) new name rights →
          Becomes h after payloads (IsNamed (content_in h payloads)) changed (content_in h payloads).value
      one_row chunks new spaces back layouts links others ends words references puts =
          same_objects changed spaces back layouts links (λ q at. by_place q at (same_or_other q p)) changed_nowhere
        where
          by_place : (q : Place) → IsKindAt h Object q → (q ≡ p) ⊎ (q ≢ p) → ShowsRow after q (changed (name_at h q))
          by_place q at (inl same) =
              subst (λ (r : Place). ShowsRow after r (changed (name_at h r))) (sym same)
              (row_shown p chunks new (changed (name_at h p)) ends words references puts.distinct (changed_here new puts))
          by_place q at (inr other) =
              subst (ShowsRow after q) (changed_there (name_at h q) (λ e. other (graph.names q p at object e))) (others q at other)

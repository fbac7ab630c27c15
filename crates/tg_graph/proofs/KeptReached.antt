-- What a collection keeps is what walks along edges reach from the active subjects: all of it, and after a full collection nothing else.
use Rattle.std.proofs.Common.{◌≡◌, ◌≢◌, ℕ, ◌≤◌, ◌+◌, ◌-◌, ◌⊎◌, ◌++◌, Bool, true, false, List, [], ◌∷◌, length, get_or, map, Option, refl, sym, ap, subst, arith, ◌∙◌, inl, inr, ⊎_elim}
use Rattle.std.specs.List.{All, Contains}
use Rattle.std.proofs.lemmas.Bool.{cases_Bool}
use Rattle.std.proofs.lemmas.List.Elements.{All-contains, All-map, Contains-append_cases}
use Rattle.tg_rights.specs.RightSet.{is_none_held}
use Rattle.tg_model.specs.Graph.{HasEdge}
use Rattle.tg_model.specs.Walks.{Walk-within, begins, goes}
use Rattle.tg_word.specs.declared.Place.{Place}
use Rattle.tg_word.specs.Word.{place_in}
use Rattle.tg_subjects.specs.Subjects.{names_of, subject_places}
use Rattle.tg_subjects.specs.declared.subject.Subject.{Subject}
use Rattle.tg_block.specs.declared.CellKind.TheVariants.{Object, Chunk}
use Rattle.tg_space.specs.SpaceList.{SpaceList, IsSpaceList, HasCell, cell_at, cells_of, flat_of}
use Rattle.tg_space.specs.Targets.{every_space, first_pointer, pointers_of, root_targets_of, targets_of, all_root_targets}
use Rattle.tg_space.specs.Soundness.{IsKindAt, IsReference, RefersTo}
use Rattle.tg_space.specs.Closure.{IsInClosure}
use Rattle.tg_space.specs.declared.root.Root.{Root}
use Rattle.tg_space.specs.declared.root.Root.TheVariants.{Row}
use Rattle.tg_space.specs.Rows.{link_of, chunks_from, link_at, row_of}
use Rattle.tg_space.proofs.Flat.{same_place}
use Rattle.tg_space.proofs.Pointing.{parts}
use Rattle.tg_payload.specs.Table.{Payloads}
use Rattle.tg_graph.specs.Standing.{IsReached}
use Rattle.tg_rows.specs.Rows.{IsChain, IsVertexAt, name_at, name_in, object_named, references_of, rights_to, row_words}
use Rattle.tg_rows.specs.Graph.{IsGraph, content_in, label_from}
use Rattle.tg_rows.proofs.Members.{Contains-cases, Contains-here, Contains-more, Contains-none, Contains-flat_map, Contains-from_flat_map, Contains-from_map, Contains-map, option_cases}
use Rattle.tg_rows.proofs.Places.{cell_long}
use Rattle.tg_rows.proofs.Layouts.{object_tagged, chunk_tagged, apart_kinds, references_at}
use Rattle.tg_rows.proofs.Lookups.{label_at, vertex_from_named}
use Rattle.tg_rows.proofs.Slots.{IsOther, others_from_none}
use Rattle.tg_rows.proofs.Chains.{chain_chunks, row_held, row_references}
use Rattle.tg_rows.proofs.KeptCells.{Moves, IsKeptWord}
use Rattle.tg_rows.proofs.KeptRows.{IsKeptRow, row_kept}
use Rattle.tg_graph.proofs.KeptGraph.{GivesRights, rights_given}
use Rattle.tg_graph.proofs.KeptTargets.{NamesNumber, next_of}

-- ---- edges and pointers

-- each subject is the vertex with its name, at its place
abbrev pub AreVertices : SpaceList → List Subject → Type 0
AreVertices h subjects = All (λ x. IsVertexAt h x.name x.place) subjects

pub subject_objects : (h : SpaceList) (subjects : List Subject) → AreVertices h subjects → All (IsKindAt h Object) (subject_places subjects)
subject_objects h subjects are =
    All-map (IsKindAt h Object) (λ (x : Subject). x.place) subjects (λ k d low. (are k d low).object)

-- the subject at a place
pub subject_at : (h : SpaceList) (subjects : List Subject) (p : Place) → AreVertices h subjects → Contains (subject_places subjects) p → (x : ℕ) × Contains (names_of subjects) x × IsVertexAt h x p
subject_at h subjects p are has =
    let found = Contains-from_map (λ (x : Subject). x.place) subjects p has in (
      found.0.name,
      Contains-map (λ (x : Subject). x.name) subjects found.0 found.1,
      subst (IsVertexAt h found.0.name) found.2 (All-contains (λ (x : Subject). IsVertexAt h x.name x.place) subjects found.0 are found.1),
    )

-- the place of the subject with a name
pub subject_named : (h : SpaceList) (subjects : List Subject) (x : ℕ) → AreVertices h subjects → Contains (names_of subjects) x → (p : Place) × Contains (subject_places subjects) p × IsVertexAt h x p
subject_named h subjects x are has =
    let found = Contains-from_map (λ (s : Subject). s.name) subjects x has in (
      found.0.place,
      Contains-map (λ (s : Subject). s.place) subjects found.0 found.1,
      subst (λ (name : ℕ). IsVertexAt h name found.0.place) found.2 (All-contains (λ (s : Subject). IsVertexAt h s.name s.place) subjects found.0 are found.1),
    )

-- the rows at these places, as roots
abbrev pub rows_at : List Place → List Root
rows_at places = map (λ p. Row p) places

module _ (h : SpaceList) (places : List Place) where
  place_of_root : (number : ℕ) → Contains (all_root_targets every_space h (rows_at places)) number → (p : Place) × Contains places p × (flat_of h p ≡ number)
  place_of_root number has =
      let piece = Contains-from_flat_map (root_targets_of every_space h) (rows_at places) number has in
      let row = Contains-from_map (λ (p : Place). Row p) places piece.0 piece.1 in
      let one : Contains (flat_of h row.0 ∷ []) number = subst (λ (root : Root). Contains (root_targets_of every_space h root) number) (sym row.2) piece.2 in
      (row.0, row.1, ⊎_elim (λ e. e) (λ none. absurd (Contains-none number none)) (Contains-cases (flat_of h row.0) [] number one))

  abbrev pub IsInRows : ℕ → Type 0
  IsInRows = IsInClosure (all_root_targets every_space h (rows_at places)) (targets_of every_space h)

-- the next chunk of a row is in it
row_next : (h : SpaceList) (o : Place) (ps : List Place) → IsChain h (link_at h o) ps → (p : Place) → Contains (o ∷ ps) p → link_at h p ≢ 0 → Contains ps (place_in (link_at h p))
row_next h o [] none p has some =
    ⊎_elim (λ e. absurd (some (ap (link_at h) (sym e) ∙ none))) (λ rest. absurd (Contains-none p rest)) (Contains-cases o [] p has)
row_next h o (q ∷ qs) (linked, at, chunk, rest) p has some =
    ⊎_elim
    (λ e. subst (λ (r : Place). Contains (q ∷ qs) r) (sym at ∙ ap (λ (r : Place). place_in (link_at h r)) e) (Contains-here q qs))
    (λ later. Contains-more q qs (place_in (link_at h p)) (row_next h q qs rest p later some))
    (Contains-cases o (q ∷ qs) p has)

module _ (h : SpaceList) (payloads : Payloads) (whole : IsSpaceList h) (graph : IsGraph h payloads) where
  -- a reference of a row is an edge
  pub edge_of_word : (o : Place) → IsKindAt h Object o → (word : ℕ) → Contains (row_words h o) word → word ≢ 0 → HasEdge (content_in h payloads).label (name_at h o) (name_in h word)
  edge_of_word o object word among some =
      ap is_none_held (label_at h payloads whole graph (name_at h o) o (record { object = object; named = refl }) (name_in h word))
      ∙ ⊎_elim
      (λ t. absurd (All-contains (IsOther h (name_in h word)) (row_words h o) word (others_from_none h (name_in h word) (row_words h o) (row_references h whole [] graph.sound o object (graph.ends o object)) t) among some refl))
      (λ f. f)
      (cases_Bool (is_none_held (rights_to h (name_in h word) (row_words h o))))

  -- an edge begins at a vertex
  pub edge_begins : (x y : ℕ) → HasEdge (content_in h payloads).label x y → (p : Place) × IsVertexAt h x p
  edge_begins x y edge =
      ⊎_elim
      (λ none. absurd (let no : true ≡ false = sym (ap (λ (o : Option Place). is_none_held (label_from h o y)) none) ∙ edge in cc))
      (λ (p, found). (p, vertex_from_named h whole x p found))
      (option_cases (object_named h x))

  -- the first pointer of a cell of a row
  row_kind : (o p : Place) → IsKindAt h Object o → Contains (row_of h o) p → IsKindAt h Object p ⊎ IsKindAt h Chunk p
  row_kind o p object has =
      ⊎_elim
      (λ e. inl (subst (λ (q : Place). IsKindAt h Object q) e object))
      (λ later. inr (All-contains (IsKindAt h Chunk) (chunks_from h (length (cells_of h)) (link_at h o)) p (chain_chunks h (chunks_from h (length (cells_of h)) (link_at h o)) (link_at h o) (graph.ends o object)) later))
      (Contains-cases o (chunks_from h (length (cells_of h)) (link_at h o)) p has)

  row_first : (o p : Place) → IsKindAt h Object o → Contains (row_of h o) p → first_pointer (get_or (cell_at h p) 0 0) ≤ 7
  row_first o p object has =
      ⊎_elim
      (λ (one : IsKindAt h Object p). let four : first_pointer (get_or (cell_at h p) 0 0) ≡ 4 = ap first_pointer ((object_tagged (cell_at h p)).0 one.is) in omega arith)
      (λ (two : IsKindAt h Chunk p). let one : first_pointer (get_or (cell_at h p) 0 0) ≡ 1 = ap first_pointer ((chunk_tagged (cell_at h p)).0 two.is) in omega arith)
      (row_kind o p object has)

  row_cell_held : (o p : Place) → IsKindAt h Object o → Contains (row_of h o) p → HasCell h p
  row_cell_held o p object has =
      All-contains (HasCell h) (row_of h o) p (row_held h o (chunks_from h (length (cells_of h)) (link_at h o)) object (graph.ends o object)) has

  -- a pointer of a cell of a row is one of its references, or its link
  pointer_cases : (o p : Place) → IsKindAt h Object o → Contains (row_of h o) p → (word : ℕ) → Contains (pointers_of (cell_at h p)) word → Contains (references_of (cell_at h p)) word ⊎ (link_at h p ≡ word)
  pointer_cases o p object has word among =
      let words = cell_at h p in
      let n = first_pointer (get_or words 0 0) in
      let few : n ≤ 7 = row_first o p object has in
      let sum : n + (7 - n) ≡ 7 = omega arith in
      let split : pointers_of words ≡ references_of words ++ (link_of words ∷ []) = parts h words (cell_long h whole p (row_cell_held o p object has)) n (7 - n) sum in
      ⊎_elim
      inl
      (λ link. inr (⊎_elim (λ e. e) (λ none. absurd (Contains-none word none)) (Contains-cases (link_of words) [] word link)))
      (Contains-append_cases (references_of words) (link_of words ∷ []) word (subst (λ (ws : List ℕ). Contains ws word) split among))

  module _ (subjects : List Subject) (are : AreVertices h subjects) where
    abbrev pub IsReachedName : ℕ → Type 0
    IsReachedName = IsReached (content_in h payloads) (names_of subjects)

    -- the cell with a number is in the row of a reached vertex
    pub record IsInReachedRow (number : ℕ) : Type 0 where
      pub vertex : Place
      pub object : IsKindAt h Object vertex
      pub reached : IsReachedName (name_at h vertex)
      pub cell : Place
      pub among : Contains (row_of h vertex) cell
      pub at : flat_of h cell ≡ number

    pub in_reached_row : (number : ℕ) → IsInRows h (subject_places subjects) number → IsInReachedRow number
    in_reached_row = Walk-within IsInReachedRow first next
      where
        first : (number : ℕ) → Contains (all_root_targets every_space h (rows_at (subject_places subjects))) number → IsInReachedRow number
        first number has =
            let root = place_of_root h (subject_places subjects) number has in
            let subject = subject_at h subjects root.0 are root.1 in
            record {
              vertex = root.0;
              object = subject.2.object;
              reached = subst (λ (x : ℕ). IsReachedName x) (sym subject.2.named) (begins subject.1);
              cell = root.0;
              among = Contains-here root.0 (chunks_from h (length (cells_of h)) (link_at h root.0));
              at = root.2;
            }

        by_pointer : (row : (n : ℕ) × IsInReachedRow n) (target : ℕ) → (named : NamesNumber every_space h (pointers_of (cell_at h row.1.cell)) target) → Contains (references_of (cell_at h row.1.cell)) named.word ⊎ (link_at h row.1.cell ≡ named.word) → IsInReachedRow target
        by_pointer (n, row) target named (inl reference) =
            let held = row_cell_held row.vertex row.cell row.object row.among in
            let is : IsReference h named.word = All-contains (IsReference h) (references_of (cell_at h row.cell)) named.word (references_at h whole [] graph.sound row.cell held) reference in
            let refers : RefersTo h named.word = ⊎_elim (λ z. absurd (named.some z)) (λ r. r) is in
            let in_row : Contains (row_words h row.vertex) named.word = Contains-flat_map (λ (q : Place). references_of (cell_at h q)) (row_of h row.vertex) row.cell named.word row.among reference in
            record {
              vertex = place_in named.word;
              object = refers.object;
              reached = goes row.reached (edge_of_word row.vertex row.object named.word in_row named.some);
              cell = place_in named.word;
              among = Contains-here (place_in named.word) (chunks_from h (length (cells_of h)) (link_at h (place_in named.word)));
              at = named.at;
            }
        by_pointer (n, row) target named (inr link) =
            let later = row_next h row.vertex (chunks_from h (length (cells_of h)) (link_at h row.vertex)) (graph.ends row.vertex row.object) row.cell row.among (λ z. named.some (sym link ∙ z)) in
            record {
              vertex = row.vertex;
              object = row.object;
              reached = row.reached;
              cell = place_in named.word;
              among = subst (λ (word : ℕ). Contains (row_of h row.vertex) (place_in word)) link (Contains-more row.vertex (chunks_from h (length (cells_of h)) (link_at h row.vertex)) (place_in (link_at h row.cell)) later);
              at = named.at;
            }

        next : (number target : ℕ) → IsInReachedRow number → Contains (targets_of every_space h number) target → IsInReachedRow target
        next number target row has =
            let named : NamesNumber every_space h (pointers_of (cell_at h row.cell)) target = next_of every_space h whole graph.sound row.cell (row_cell_held row.vertex row.cell row.object row.among) target (subst (λ (n : ℕ). Contains (targets_of every_space h n) target) (sym row.at) has) in
            by_pointer (number, row) target named (pointer_cases row.vertex row.cell row.object row.among named.word named.among)

    -- an object that the rows of the subjects reach is a reached vertex
    pub vertex_reached : (x : ℕ) (p : Place) → IsVertexAt h x p → IsInRows h (subject_places subjects) (flat_of h p) → IsReachedName x
    vertex_reached x p vertex in_rows =
        let row = in_reached_row (flat_of h p) in_rows in
        let one : row.cell ≡ p = same_place h whole.spaces row.cell p (row_cell_held row.vertex row.cell row.object row.among) vertex.object.held row.at in
        ⊎_elim
        (λ e. subst IsReachedName (ap (name_at h) (e ∙ one) ∙ vertex.named) row.reached)
        (λ later. absurd (apart_kinds h p vertex.object (subst (λ (q : Place). IsKindAt h Chunk q) one (All-contains (IsKindAt h Chunk) (chunks_from h (length (cells_of h)) (link_at h row.vertex)) row.cell (chain_chunks h (chunks_from h (length (cells_of h)) (link_at h row.vertex)) (link_at h row.vertex) (graph.ends row.vertex row.object)) later))))
        (Contains-cases row.vertex (chunks_from h (length (cells_of h)) (link_at h row.vertex)) row.cell row.among)

-- what is reached is kept, where the subjects are
module _ {from : ℕ → Bool} {h after : SpaceList} {to : ℕ → Place} {kept : Place → Type 0} (move : Moves from h after to kept) (payloads : Payloads) (graph : IsGraph h payloads) (subjects : List Subject) (are : AreVertices h subjects) (keep : All kept (subject_places subjects)) where
  pub reached_kept : (x : ℕ) → IsReached (content_in h payloads) (names_of subjects) x → (p : Place) → IsVertexAt h x p → kept p
  reached_kept = Walk-within (λ x. (p : Place) → IsVertexAt h x p → kept p) first next
    where
      first : (x : ℕ) → Contains (names_of subjects) x → (p : Place) → IsVertexAt h x p → kept p
      first x has p vertex =
          let subject = subject_named h subjects x are has in
          subst kept (graph.names subject.0 p subject.2.object vertex.object (subject.2.named ∙ sym vertex.named)) (All-contains kept (subject_places subjects) subject.0 keep subject.1)

      next : (x y : ℕ) → ((p : Place) → IsVertexAt h x p → kept p) → HasEdge (content_in h payloads).label x y → (p : Place) → IsVertexAt h y p → kept p
      next x y before edge p vertex =
          let at = edge_begins h payloads move.whole graph x y edge in
          let row : IsKeptRow move at.0 = row_kept move at.0 (before at.0 at.1) at.1.object.is (graph.ends at.0 at.1.object) in
          let given : GivesRights h y (row_words h at.0) = rights_given h y (row_words h at.0) (ap is_none_held (sym (label_at h payloads move.whole graph x at.0 at.1 y)) ∙ edge) in
          let target = All-contains (IsKeptWord move) (row_words h at.0) given.word row.words given.among given.some in
          let is : IsReference h given.word = All-contains (IsReference h) (row_words h at.0) given.word row.references given.among in
          let refers : RefersTo h given.word = ⊎_elim (λ z. absurd (given.some z)) (λ r. r) is in
          subst kept (graph.names (place_in given.word) p refers.object vertex.object (given.named ∙ sym vertex.named)) target.0

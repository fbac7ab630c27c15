-- What a step makes of a heap.
use Rattle.std.proofs.Common.{arith, ◌≡◌, ◌<◌, ◌≤◌, ◌==◌, ◌≢◌, ◌↔◌, ◌∙◌, ℕ, false, true, is_some, map, nat_eq, ap, List, [], ◌∷◌, ◌++◌, length, get_or, Option, Some, None, refl, sym, subst}
use Rattle.std.specs.List.{All, Contains, filter}
use Rattle.std.proofs.lemmas.List.{get_or-map, length-map}
use Rattle.std.proofs.lemmas.List.Elements.{All-contains, All-filter, All-push}
use Rattle.std.specs.Prelude.{not}
use Rattle.tg_rights.specs.RightSet.{RightSet}
use Rattle.tg_model.specs.declared.value.Value.{Value}
use Rattle.tg_word.specs.Word.{nursery_space}
use Rattle.tg_word.specs.declared.Place.{Place}
use Rattle.tg_word.specs.declared.TheConstants.{MAX_NURSERIES, SPACES}
use Rattle.tg_subjects.specs.Subjects.{AreSubjects, IsSubjectNamed, names_of, without}
use Rattle.tg_subjects.specs.declared.subject.Subject.{Subject}
use Rattle.std.specs.Map.{lookup}
use Rattle.tg_space.specs.SpaceList.{SpaceList, IsSpaceList}
use Rattle.tg_space.specs.SpaceTable.{SpaceTable}
use Rattle.tg_space.specs.Generations.{AreRemembered}
use Rattle.tg_payload.specs.Table.{Payloads}
use Rattle.tg_rows.specs.Content.{IsContent, IsNamed}
use Rattle.tg_graph.specs.Heap.{HeapState, IsWellFormed, KeepsPlaces, content_of}
use Rattle.tg_rows.specs.Graph.{content_in}
use Rattle.tg_rows.specs.Index.{AreIndexed, MayIndex, SameIndexed, indexed_in, names_indexed}
use Rattle.tg_rows.specs.declared.indexed_row.IndexedRow.{IndexedRow}
use Rattle.tg_rows.specs.Rows.{IsVertexAt, name_at, objects_of}
use Rattle.tg_rows.specs.Steps.{ChangesTo}
use Rattle.tg_rows.proofs.Growing.{graph_entries}
use Rattle.tg_rows.proofs.Lookups.{name_of_vertex}
use Rattle.tg_rows.proofs.Members.{Contains-filter, Contains-from_filter}

-- an active subject is the vertex with its name
pub subject_vertex : (s : HeapState) → IsWellFormed s → (x : ℕ) (subject : Subject) → IsSubjectNamed s.subjects x subject → IsVertexAt s.table.spaces x subject.place
subject_vertex s formed x subject is =
    subst (λ (name : ℕ). IsVertexAt s.table.spaces name subject.place) is.named (All-contains (λ (y : Subject). IsVertexAt s.table.spaces y.name y.place) s.subjects subject formed.vertices is.there)

-- the nursery of an active subject is one of the spaces
pub nursery_inside : (s : HeapState) → IsWellFormed s → (subject : Subject) → Contains s.subjects subject → nursery_space subject.nursery < length s.table.spaces
nursery_inside s formed subject there =
    let low : subject.nursery < MAX_NURSERIES = All-contains (λ (y : Subject). y.nursery < MAX_NURSERIES) s.subjects subject formed.subjects.nurseries there in
    let many : SPACES ≤ length s.table.spaces = formed.nurseries in
    omega (arith, low, many)

-- the heap with other cells and payloads, and other indexes
abbrev pub heap_with : HeapState → SpaceTable → Payloads → List Place → List ℕ → HeapState
heap_with s table payloads places indexed = record { table = table; payloads = payloads; subjects = s.subjects; remembered = places; indexed = indexed }

pub heap_same : (s : HeapState) (table : SpaceTable) (payloads : Payloads) (places : List Place) (indexed : List ℕ) → table ≡ s.table → payloads ≡ s.payloads → places ≡ s.remembered → indexed ≡ s.indexed → heap_with s table payloads places indexed ≡ s
heap_same s table payloads places indexed cells stored noted same = λ i. record { table = cells i; payloads = stored i; subjects = s.subjects; remembered = noted i; indexed = same i }

-- room for more payloads keeps it well formed
pub well_formed_roomy : (s : HeapState) (table : SpaceTable) (payloads : Payloads) (places : List Place) (indexed : List ℕ) → IsWellFormed s → table ≡ s.table → payloads.entries ≡ s.payloads.entries → places ≡ s.remembered → IsWellFormed (heap_with s table payloads places indexed)
well_formed_roomy s table payloads places indexed formed cells stored noted =
    let here : IsWellFormed (heap_with s s.table payloads s.remembered indexed) =
    record { graph = graph_entries s.table.spaces s.payloads payloads stored formed.graph; subjects = formed.subjects; vertices = formed.vertices; nurseries = formed.nurseries; remembered = formed.remembered } in
    subst (λ (ps : List Place). IsWellFormed (heap_with s table payloads ps indexed)) (sym noted) (subst (λ (t : SpaceTable). IsWellFormed (heap_with s t payloads s.remembered indexed)) (sym cells) here)

module _ (s : HeapState) (after : SpaceTable) (payloads : Payloads) (places : List Place) (indexed : List ℕ) (named : ℕ → Type 0) (label : ℕ → ℕ → RightSet) (value : ℕ → Option Value) (to : ChangesTo s.table after payloads named label value) where
  pub well_formed_after : AreRemembered after.spaces places → IsWellFormed s → IsWellFormed (heap_with s after payloads places indexed)
  well_formed_after remembered formed = record {
    graph = to.graph;
    subjects = formed.subjects;
    vertices = λ k d low. to.vertices (get_or s.subjects k d).name (get_or s.subjects k d).place (formed.vertices k d low);
    nurseries = let many = formed.nurseries in let same = to.spaces in omega (arith, many, same);
    remembered = remembered;
  }

  pub places_kept : KeepsPlaces s (heap_with s after payloads places indexed)
  places_kept = record { subjects = refl; limits = to.limits; vertices = to.vertices }

  pub content_after : IsContent (content_of (heap_with s after payloads places indexed)) named label value
  content_after = to.content

-- ---- subjects that come and go

-- a name above all names is above that of each subject
pub names_above : (subjects : List Subject) (name : ℕ) → All (λ x. x < name) (names_of subjects) → All (λ x. x.name < name) subjects
names_above subjects name above k d low =
    let within : k < length (names_of subjects) = let same = length-map subjects (λ (x : Subject). x.name) in omega (arith, same, low) in
    subst (λ (x : ℕ). x < name) (get_or-map (λ (x : Subject). x.name) subjects k d 0 low) (above k 0 within)

-- with one more subject, where a vertex is
pub well_formed_more : (s : HeapState) → IsWellFormed s → (x : Subject) → AreSubjects (s.subjects ++ x ∷ []) → IsVertexAt s.table.spaces x.name x.place → IsWellFormed (record { table = s.table; payloads = s.payloads; subjects = s.subjects ++ x ∷ []; remembered = s.remembered; indexed = s.indexed })
well_formed_more s formed x are vertex = record {
  graph = formed.graph;
  subjects = are;
  vertices = All-push (λ (y : Subject). IsVertexAt s.table.spaces y.name y.place) s.subjects x formed.vertices vertex;
  nurseries = formed.nurseries;
  remembered = formed.remembered;
}

-- with one less
pub well_formed_without : (s : HeapState) → IsWellFormed s → (name : ℕ) → AreSubjects (without s.subjects name) → IsWellFormed (record { table = s.table; payloads = s.payloads; subjects = without s.subjects name; remembered = s.remembered; indexed = s.indexed })
well_formed_without s formed name are = record {
  graph = formed.graph;
  subjects = are;
  vertices = All-filter (λ (y : Subject). not (y.name == name)) (λ (y : Subject). IsVertexAt s.table.spaces y.name y.place) s.subjects formed.vertices;
  nurseries = formed.nurseries;
  remembered = formed.remembered;
}

-- ---- the names with an index

-- they are those of the vertices under whose name one stands
pub is_indexed : (h : SpaceList) (payloads : Payloads) (rows : List (ℕ × IndexedRow)) (x : ℕ) → Contains (names_indexed h rows) x ↔ (IsNamed (content_in h payloads) x × (indexed_in rows x ≡ true))
is_indexed h payloads rows x = (
  λ has. Contains-from_filter (indexed_in rows) (map (name_at h) (objects_of h)) x has,
  λ both. Contains-filter (indexed_in rows) (map (name_at h) (objects_of h)) x both.0 both.1,
)

pub names_same : (h after : SpaceList) (rows later : List (ℕ × IndexedRow)) → after ≡ h → SameIndexed rows later → names_indexed after later ≡ names_indexed h rows
names_same h after rows later cells same = λ i. filter (λ x. same x i) (map (name_at (cells i)) (objects_of (cells i)))

module _ (h after : SpaceList) (payloads left : Payloads) (rows later : List (ℕ × IndexedRow)) (own : ℕ) (may : MayIndex own rows later) where
  -- a name that is there as before
  pub still_indexed : (x : ℕ) → x ≢ own → (IsNamed (content_in after left) x → IsNamed (content_in h payloads) x) → (IsNamed (content_in h payloads) x → IsNamed (content_in after left) x) → Contains (names_indexed after later) x ↔ Contains (names_indexed h rows) x
  still_indexed x other back on = (
    λ has. let both = (is_indexed after left later x).0 has in (is_indexed h payloads rows x).1 (back both.0, sym (may.others x other) ∙ both.1),
    λ has. let both = (is_indexed h payloads rows x).0 has in (is_indexed after left later x).1 (on both.0, may.others x other ∙ both.1),
  )

  -- a new name has none
  pub new_unindexed : (x : ℕ) → x ≢ own → (IsNamed (content_in h payloads) x → ⊥) → (indexed_in rows x ≡ true → IsNamed (content_in h payloads) x) → Contains (names_indexed after later) x ↔ Contains (names_indexed h rows) x
  new_unindexed x other fresh named = (
    λ has. let both = (is_indexed after left later x).0 has in absurd (fresh (named (sym (may.others x other) ∙ both.1))),
    λ has. absurd (fresh ((is_indexed h payloads rows x).0 has).0),
  )

  pub own_kept : (IsNamed (content_in h payloads) own → IsNamed (content_in after left) own) → Contains (names_indexed h rows) own → Contains (names_indexed after later) own
  own_kept on has = let both = (is_indexed h payloads rows own).0 has in (is_indexed after left later own).1 (on both.0, may.kept both.1)

-- a name under which an index stands is that of a vertex
pub indexed_named : (h : SpaceList) (payloads : Payloads) → IsSpaceList h → (remembered : List Place) (rows : List (ℕ × IndexedRow)) → AreIndexed h remembered rows → (x : ℕ) → indexed_in rows x ≡ true → IsNamed (content_in h payloads) x
indexed_named h payloads whole remembered rows indexed x shown = by_row (lookup (nat_eq x) rows) refl
  where
    by_row : (o : Option IndexedRow) → lookup (nat_eq x) rows ≡ o → IsNamed (content_in h payloads) x
    by_row (Some row) found = let is = indexed x row found in name_of_vertex h payloads whole x is.place is.vertex
    by_row None found = let no : false ≡ true = sym (ap (λ (o : Option IndexedRow). is_some o) found) ∙ shown in absurd cc

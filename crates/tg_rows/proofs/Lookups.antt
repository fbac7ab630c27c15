-- Vertices by name, and what a heap's content is at each.
use Rattle.std.proofs.Common.{◌≡◌, ℕ, ◌⊎◌, inl, inr, true, false, ◌==◌, get_or, map, Option, Some, None, refl, sym, ap, subst, ◌∙◌}
use Rattle.std.specs.List.{Contains}
use Rattle.std.proofs.lemmas.Bool.{eqb-false, eqb-true}
use Rattle.tg_rights.specs.RightSet.{RightSet, no_rights}
use Rattle.tg_model.specs.declared.value.Value.{Value}
use Rattle.tg_word.specs.declared.Place.{Place}
use Rattle.tg_block.specs.declared.CellKind.TheVariants.{Object}
use Rattle.tg_space.specs.SpaceList.{SpaceList, IsSpaceList, cell_at}
use Rattle.tg_space.specs.Soundness.{IsKindAt}
use Rattle.tg_payload.specs.Table.{Payloads, entry}
use Rattle.tg_rows.specs.Content.{Content, IsContent, IsNamed}
use Rattle.tg_rows.specs.Rows.{IsVertexAt, is_object, key_at, name_at, object_named, objects_of, places_of, rights_to, row_words}
use Rattle.tg_rows.specs.Graph.{IsGraph, content_in, label_from, value_from}
use Rattle.tg_rows.proofs.Members.{Contains-filter, Contains-from_filter, Contains-from_map, Contains-map, find_gives, find_none, option_cases}
use Rattle.tg_rows.proofs.Places.{holds_from_places, places_from_holds}
use Rattle.tg_rows.proofs.Layouts.{object_tagged}

module _ (h : SpaceList) (is : IsSpaceList h) where
  pub objects_from_kind : (p : Place) → IsKindAt h Object p → Contains (objects_of h) p
  objects_from_kind p object =
      let tag = (object_tagged (cell_at h p)).0 object.is in
      Contains-filter (λ q. is_object (cell_at h q)) (places_of h) p (places_from_holds h is p object.held) (rw tag refl)

  pub kind_from_objects : (p : Place) → Contains (objects_of h) p → IsKindAt h Object p
  kind_from_objects p has =
      let both = Contains-from_filter (λ q. is_object (cell_at h q)) (places_of h) p has in
      let test : is_object (cell_at h p) ≡ true = both.1 in
      record { held = holds_from_places h is p both.0; is = (object_tagged (cell_at h p)).1 (eqb-true (get_or (cell_at h p) 0 0) 1 test) }

  pub vertex_from_named : (x : ℕ) (p : Place) → object_named h x ≡ Some p → IsVertexAt h x p
  vertex_from_named x p found =
      let both = find_gives (λ q. name_at h q == x) (objects_of h) p found in
      let test : (name_at h p == x) ≡ true = both.1 in
      record { object = kind_from_objects p both.0; named = eqb-true (name_at h p) x test }

  pub no_vertex : (x : ℕ) (p : Place) → object_named h x ≡ None → IsVertexAt h x p → ⊥
  no_vertex x p none vertex =
      let test : (name_at h p == x) ≡ false = find_none (λ q. name_at h q == x) (objects_of h) p none (objects_from_kind p vertex.object) in
      eqb-false (name_at h p) x test vertex.named

-- what the objects of a heap say, vertex by vertex
pub record IsRead (h : SpaceList) (payloads : Payloads) (named : ℕ → Type 0) (label : ℕ → ℕ → RightSet) (value : ℕ → Option Value) : Type 0 where
  pub vertex : (x : ℕ) (p : Place) → IsVertexAt h x p → named x
  pub at : (x : ℕ) → named x → (p : Place) × IsVertexAt h x p
  pub labels : (x : ℕ) (p : Place) → IsVertexAt h x p → (y : ℕ) → rights_to h y (row_words h p) ≡ label x y
  pub values : (x : ℕ) (p : Place) → IsVertexAt h x p → entry payloads (key_at h p) ≡ value x
  pub no_label : (x y : ℕ) → (named x → ⊥) → label x y ≡ no_rights
  pub no_value : (x : ℕ) → (named x → ⊥) → value x ≡ None

module _ (h : SpaceList) (payloads : Payloads) (is : IsSpaceList h) where
  pub vertex_of_name : (x : ℕ) → IsNamed (content_in h payloads) x → (p : Place) × IsVertexAt h x p
  vertex_of_name x has =
      let at = Contains-from_map (name_at h) (objects_of h) x has in
      (at.0, record { object = kind_from_objects h is at.0 at.1; named = at.2 })

  pub name_of_vertex : (x : ℕ) (p : Place) → IsVertexAt h x p → IsNamed (content_in h payloads) x
  name_of_vertex x p vertex =
      subst (Contains (map (name_at h) (objects_of h))) vertex.named
      (Contains-map (name_at h) (objects_of h) p (objects_from_kind h is p vertex.object))

  pub content_from : (named : ℕ → Type 0) (label : ℕ → ℕ → RightSet) (value : ℕ → Option Value) → IsRead h payloads named label value → IsContent (content_in h payloads) named label value
  content_from named label value read = record {
    names = λ x. (
      λ has. let at = vertex_of_name x has in read.vertex x at.0 at.1,
      λ n. let at = read.at x n in name_of_vertex x at.0 at.1,
    );
    labels = λ x y. by_label x y (option_cases (object_named h x));
    values = λ x. by_value x (option_cases (object_named h x));
  }
    where
      unnamed : (x : ℕ) → object_named h x ≡ None → named x → ⊥
      unnamed x none n = let at = read.at x n in no_vertex h is x at.0 none at.1

      by_label : (x y : ℕ) → (object_named h x ≡ None) ⊎ ((p : Place) × (object_named h x ≡ Some p)) → label_from h (object_named h x) y ≡ label x y
      by_label x y (inl none) = rw none (sym (read.no_label x y (unnamed x none)))
      by_label x y (inr some) = rw (some.1) (read.labels x some.0 (vertex_from_named h is x some.0 some.1) y)

      by_value : (x : ℕ) → (object_named h x ≡ None) ⊎ ((p : Place) × (object_named h x ≡ Some p)) → value_from h payloads (object_named h x) ≡ value x
      by_value x (inl none) = rw none (sym (read.no_value x (unnamed x none)))
      by_value x (inr some) = rw (some.1) (read.values x some.0 (vertex_from_named h is x some.0 some.1))

  -- where no vertex has the name
  pub label_nowhere : (x : ℕ) → (IsNamed (content_in h payloads) x → ⊥) → (y : ℕ) → (content_in h payloads).label x y ≡ no_rights
  label_nowhere x none y = by_label (option_cases (object_named h x))
    where
      by_label : (object_named h x ≡ None) ⊎ ((p : Place) × (object_named h x ≡ Some p)) → label_from h (object_named h x) y ≡ no_rights
      by_label (inl e) = rw e refl
      by_label (inr some) = absurd (none (name_of_vertex x some.0 (vertex_from_named h is x some.0 some.1)))

  pub value_nowhere : (x : ℕ) → (IsNamed (content_in h payloads) x → ⊥) → (content_in h payloads).value x ≡ None
  value_nowhere x none = by_value (option_cases (object_named h x))
    where
      by_value : (object_named h x ≡ None) ⊎ ((p : Place) × (object_named h x ≡ Some p)) → value_from h payloads (object_named h x) ≡ None
      by_value (inl e) = rw e refl
      by_value (inr some) = absurd (none (name_of_vertex x some.0 (vertex_from_named h is x some.0 some.1)))

  module _ (graph : IsGraph h payloads) where
    pub named_from_vertex : (x : ℕ) (p : Place) → IsVertexAt h x p → object_named h x ≡ Some p
    named_from_vertex x p vertex = by_found (option_cases (object_named h x))
      where
        by_found : (object_named h x ≡ None) ⊎ ((q : Place) × (object_named h x ≡ Some q)) → object_named h x ≡ Some p
        by_found (inl none) = absurd (no_vertex h is x p none vertex)
        by_found (inr some) =
            let found = vertex_from_named h is x some.0 some.1 in
            some.1 ∙ ap Some (graph.names some.0 p found.object vertex.object (found.named ∙ sym vertex.named))

    pub label_at : (x : ℕ) (p : Place) → IsVertexAt h x p → (y : ℕ) → (content_in h payloads).label x y ≡ rights_to h y (row_words h p)
    label_at x p vertex y = ap (λ (o : Option Place). label_from h o y) (named_from_vertex x p vertex)

    pub value_at : (x : ℕ) (p : Place) → IsVertexAt h x p → (content_in h payloads).value x ≡ entry payloads (key_at h p)
    value_at x p vertex = ap (λ (o : Option Place). value_from h payloads o) (named_from_vertex x p vertex)

-- a content's labels and values, as functions
pub label_is : (c : Content) (named : ℕ → Type 0) (label : ℕ → ℕ → RightSet) (value : ℕ → Option Value) → IsContent c named label value → c.label ≡ label
label_is c named label value content = λ i x y. content.labels x y i

pub value_is : (c : Content) (named : ℕ → Type 0) (label : ℕ → ℕ → RightSet) (value : ℕ → Option Value) → IsContent c named label value → c.value ≡ value
value_is c named label value content = λ i x. content.values x i

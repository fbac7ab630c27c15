-- A law that is reported of the heap's value is that of the graph's.
use Rattle.std.proofs.Common.{◌≡◌, ◌↔◌, ◌∙◌, ℕ, ◌+◌, ◌<◌, ◌≤◌, ◌&&◌, ◌||◌, Bool, true, false, not, List, [], ◌∷◌, ◌++◌, length, map, take, get_or, refl, sym, ap, subst, ⊎_elim}
use Rattle.std.specs.Prelude.{IfSome, IsSome, Option, Some, None, is_some, option_map}
use Rattle.std.specs.List.{Contains}
use Rattle.std.proofs.lemmas.List.{map-append, take_all, take_more}
use Rattle.std.proofs.lemmas.List.Elements.{Contains-append_cases}
use Rattle.tg_rights.specs.RightSet.{RightSet, is_none_held}
use Rattle.tg_model.specs.declared.law.Law.{Law}
use Rattle.tg_model.specs.declared.value.Value.{Value}
use Rattle.tg_model.specs.Graph.{ProtectionGraph, IsReachable, IsSubject}
use Rattle.tg_word.specs.declared.Place.{Place}
use Rattle.tg_rows.specs.Content.{Content}
use Rattle.tg_rows.proofs.Members.{Contains-cases, Contains-none}
use Rattle.tg_graph.specs.Heap.{HeapState, content_of, subject_names}
use Rattle.tg_graph.specs.Standing.{IsContentOf}
use Rattle.tg_graph.proofs.StandingLaws.{IsReachable-IsReached, IsReached-IsReachable, StandsFor-near, StandsFor-values_near}
use Rattle.tg_store.specs.Inner.Reaching.{AreReachedIn, names_found}
use Rattle.tg_store.specs.Seeing.{ReportsLaw, has_value_right}
use Rattle.tg_store.proofs.Apart.{false_not_true}

value_held : (r w t g a l u v : Bool) → (r || w || a) ≡ true → (not r && not w && not t && not g && not a && not l && not u && not v) ≡ false
value_held true w t g a l u v is = refl
value_held false true t g a l u v is = refl
value_held false false true g a l u v is = refl
value_held false false false true a l u v is = refl
value_held false false false false true l u v is = refl
value_held false false false false false l u v is = absurd (false_not_true is)

-- who has a right to use a value has an edge to it
pub value_edge : (s : RightSet) → has_value_right s ≡ true → is_none_held s ≡ false
value_edge s is = value_held s.r s.w s.t s.g s.a s.l s.u s.v is

abbrev pub LawIs : Option Value → Option Law → Type 0
LawIs v law = IfSome law (λ of. option_map (λ value. value.law) v ≡ Some of)

law_same : (v w : Option Value) (law : Option Law) → (IsSome law → v ≡ w) → LawIs v law → LawIs w law
law_same v w None same is = tt
law_same v w (Some of) same is = ap (option_map (λ value. value.law)) (sym (same refl)) ∙ is

module _ (c : Content) (g : ProtectionGraph) (stands : IsContentOf c g) (y : ℕ) (law : Option Law) (is : LawIs (c.value y) law) where
  -- to a name that no subject has
  pub law_to_nobody : (x : ℕ) → (IsSubject g x → ⊥) → law ≡ None → ReportsLaw g (IsSubject g x × (has_value_right (g.label x y) ≡ true)) y law
  law_to_nobody x nobody none =
      record {
        exactly = (λ some. absurd (false_not_true (ap is_some (sym none) ∙ some)), λ may. absurd (nobody may.0));
        is = subst (LawIs (g.value y)) (sym none) tt;
      }

  -- to a subject that may use it
  pub law_to_subject : (x : ℕ) → IsSubject g x → (IsSome law ↔ (has_value_right (c.label x y) ≡ true)) → ReportsLaw g (IsSubject g x × (has_value_right (g.label x y) ≡ true)) y law
  law_to_subject x subject exactly =
      let label : c.label x y ≡ g.label x y = (StandsFor-near c g stands x subject).own y in
      let held : IsSome law → has_value_right (g.label x y) ≡ true = λ some. subst (λ s. has_value_right s ≡ true) label (exactly.0 some) in
      record {
        exactly = (λ some. (subject, held some), λ may. exactly.1 (subst (λ s. has_value_right s ≡ true) (sym label) may.1));
        is = law_same (c.value y) (g.value y) law (λ some. StandsFor-values_near c g stands x subject y (value_edge (g.label x y) (held some))) is;
      }

  -- to the host, of a vertex that is reached
  pub law_to_host : (IsSome law ↔ IsReachable g y) → ReportsLaw g (IsReachable g y) y law
  law_to_host exactly =
      record {
        exactly = exactly;
        is = law_same (c.value y) (g.value y) law (λ some. stands.values y (stands.reachable y (exactly.0 some))) is;
      }

-- what a walk over the heap finds is what is reached on the graph
pub found_reached : (heap : HeapState) (g : ProtectionGraph) → IsContentOf (content_of heap) g → g.subjects ≡ subject_names heap → (vertices : List (ℕ × Place)) → AreReachedIn heap vertices → (y : ℕ) → Contains (names_found vertices) y ↔ IsReachable g y
found_reached heap g stands same vertices reached y = (
  λ has. IsReachable-IsReached (content_of heap) g stands (subject_names heap) same y ((reached.names y).0 has),
  λ reachable. (reached.names y).1 (IsReached-IsReachable (content_of heap) g stands (subject_names heap) same y reachable),
)

-- ---- a walk along vertices for a name

module _ (vertices : List (ℕ × Place)) (name : ℕ) where
  abbrev pub NoneBefore : ℕ → Type 0
  NoneBefore i = Contains (names_found (take i vertices)) name → ⊥

  pub none_next : (i : ℕ) (d : ℕ × Place) → i < length vertices → NoneBefore i → ((get_or vertices i d).0 ≡ name → ⊥) → NoneBefore (i + 1)
  none_next i d low none other has =
      let v = get_or vertices i d in
      let joined : names_found (take (i + 1) vertices) ≡ names_found (take i vertices) ++ v.0 ∷ [] =
      ap names_found (take_more vertices i d low) ∙ map-append (λ (u : ℕ × Place). u.0) (take i vertices) (v ∷ []) in
      ⊎_elim none (λ last. ⊎_elim other (Contains-none name) (Contains-cases v.0 [] name last))
      (Contains-append_cases (names_found (take i vertices)) (v.0 ∷ []) name (subst (λ (ns : List ℕ). Contains ns name) joined has))

  pub none_at_all : (i : ℕ) → length vertices ≤ i → NoneBefore i → Contains (names_found vertices) name → ⊥
  none_at_all i end none has = none (subst (λ (vs : List (ℕ × Place)). Contains (names_found vs) name) (sym (take_all i vertices end)) has)

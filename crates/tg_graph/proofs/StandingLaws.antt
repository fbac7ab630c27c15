-- What is decided and changed on a content, and what a collection keeps of it, against the graph that it represents.
use Rattle.std.proofs.Common.{◌≡◌, ◌↔◌, ◌⊎◌, inl, inr, ⊎_elim, ℕ, ◌<◌, ◌≤◌, ◌==◌, ◌&&◌, Bool, true, false, cond, map, List, [], ◌∷◌, ◌++◌, length, Some, None, refl, sym, ap, ◌∙◌, subst, arith}
use Rattle.std.proofs.lemmas.Bool.{cond-true, eq-eqb, eqb-true}
use Rattle.std.specs.List.{Contains}
use Rattle.tg_rights.specs.RightSet.{RightSet, no_rights, union, is_none_held}
use Rattle.tg_rights.proofs.RightLaws.{none_held-same}
use Rattle.tg_model.specs.declared.value.Value.{Value}
use Rattle.tg_model.specs.declared.law.Law.{Law}
use Rattle.tg_model.specs.declared.command.Command.{Command}
use Rattle.tg_model.specs.declared.command.Deed.TheVariants.{Create, Spawn, Plain}
use Rattle.tg_model.specs.declared.reply.Denial.{Denial}
use Rattle.tg_model.specs.declared.opening.TheConstants.{MAX_WORKERS}
use Rattle.tg_model.specs.Walks.{begins, goes, Walk-within}
use Rattle.tg_model.specs.Graph.{ProtectionGraph, IsSubject, HasEdge, IsReachable, IsSound, with_rights}
use Rattle.tg_model.specs.Near.{SameNear, SameValuesNear}
use Rattle.tg_model.specs.Rules.{Permits, denial_of, denied_or, reply_of, labels_after, values_after, with_value, effect, with_vertex, step, answer_of}
use Rattle.tg_model.proofs.AllowedLaws.{permits-no_denial, step-allowed, step-denied, step-created, step-spawned, step-not_allowed}
use Rattle.tg_model.proofs.NearLaws.{denial_of-near, reply_of-near, labels_after-same, values_after-same}
use Rattle.tg_model.proofs.ReachLaws.{HasEdge-with_rights, closed_after, IsReachable-plain, IsReachable-step}
use Rattle.tg_word.specs.declared.Place.{Place}
use Rattle.tg_rows.specs.Rows.{name_at, object_named, objects_of}
use Rattle.tg_graph.specs.Heap.{HeapState, IsUnchangedHeap, content_of}
use Rattle.tg_rows.specs.Graph.{content_in}
use Rattle.tg_rows.proofs.Members.{Contains-map, find_gives, option_cases}
use Rattle.tg_rows.specs.Content.{Content, IsNamed, IsContent, IsSameContent, OnlyNamedHold}
use Rattle.tg_graph.specs.Standing.{IsContentOf, IsReached, KeepsContent, KeepsReached}
use Rattle.tg_space.specs.declared.kind.Kind.{Kind}
use Rattle.tg_space.specs.declared.kind.Kind.TheVariants.{Full, Nursery}

-- edges from where the labels are the same
edge_along : (label other : ℕ → ℕ → RightSet) (x y : ℕ) → other x y ≡ label x y → HasEdge other x y → HasEdge label x y
edge_along label other x y same edge = ap is_none_held (sym same) ∙ edge

-- ---- what is decided

module _ (c : Content) (g : ProtectionGraph) (stands : IsContentOf c g) where
  -- a subject has all of its own row, and the rows next to it
  pub StandsFor-near : (x : ℕ) → IsSubject g x → SameNear g.label c.label x
  StandsFor-near x subject = record {
    own = λ y. stands.labels x y (stands.reachable x (begins subject));
    next = λ via y edge. stands.labels via y (stands.reachable via (goes (begins subject) edge));
  }

  pub StandsFor-values_near : (x : ℕ) → IsSubject g x → SameValuesNear g.label g.value c.value x
  StandsFor-values_near x subject y edge = stands.values y (stands.reachable y (goes (begins subject) edge))

  pub denial_of-stands : (x : ℕ) (command : Command) → IsSubject g x → denial_of c.label c.value x command ≡ denial_of g.label g.value x command
  denial_of-stands x command subject = denial_of-near g.label c.label x g.value c.value (StandsFor-near x subject) (StandsFor-values_near x subject) command

  permitted : (x : ℕ) (command : Command) → IsSubject g x → denial_of c.label c.value x command ≡ None → Permits g.label g.value x command
  permitted x command subject none = permits-no_denial g.label g.value x command (sym (denial_of-stands x command subject) ∙ none)

  pub reply_of-stands : (x : ℕ) (command : Command) → IsSubject g x → denial_of c.label c.value x command ≡ None → reply_of c.label c.value g.made x command ≡ reply_of g.label g.value g.made x command
  reply_of-stands x command subject none =
      reply_of-near g.label c.label x g.value c.value g.made command (StandsFor-near x subject) (StandsFor-values_near x subject)
      (permitted x command subject none)

  -- the graph's answer is what is computed on the content
  pub answer_of-stands : (x : ℕ) (command : Command) → IsSubject g x → answer_of g x (Plain command) ≡ denied_or (denial_of c.label c.value x command) (reply_of c.label c.value g.made x command)
  answer_of-stands x command subject =
      elim (denial_of c.label c.value x command) as (λ d. denial_of c.label c.value x command ≡ d → denied_or (denial_of g.label g.value x command) (reply_of g.label g.value g.made x command) ≡ denied_or d (reply_of c.label c.value g.made x command)) [
        | None ↦ λ e.
            ap (λ d. denied_or d (reply_of g.label g.value g.made x command)) (sym (denial_of-stands x command subject) ∙ e)
            ∙ sym (reply_of-stands x command subject e)
        | Some d ↦ λ e. ap (λ d. denied_or d (reply_of g.label g.value g.made x command)) (sym (denial_of-stands x command subject) ∙ e)
      ] refl

-- ---- what is changed

pub IsSameContent-self : (c : Content) → IsSameContent c c
IsSameContent-self c = record { names = λ x. (λ is. is, λ is. is); labels = λ x y. refl; values = λ x. refl }

-- a content that is the same represents the same graph
pub StandsFor-same : (old new : Content) (g : ProtectionGraph) → IsContentOf old g → IsSameContent old new → IsContentOf new g
StandsFor-same old new g stands same = record {
  made = λ x is. stands.made x ((same.names x).0 is);
  reachable = λ x reachable. (same.names x).1 (stands.reachable x reachable);
  closed = λ x y is edge. (same.names y).1 (stands.closed x y ((same.names x).0 is) edge);
  labels = λ x y is. same.labels x y ∙ stands.labels x y ((same.names x).0 is);
  values = λ x is. same.values x ∙ stands.values x ((same.names x).0 is);
}

module _ (c new : Content) (g : ProtectionGraph) (stands : IsContentOf c g) (x : ℕ) (subject : IsSubject g x) where
  -- where a command is served, the content that it changes represents the next graph
  pub StandsFor-served : (command : Command) → denial_of c.label c.value x command ≡ None → IsContent new (IsNamed c) (labels_after c.label x command) (values_after c.value command) → IsContentOf new (step g x (Plain command))
  StandsFor-served command none is =
      let allowed = permitted c g stands x command subject none in
      let next = step-allowed g x command allowed in
      let reachable_before : (y : ℕ) → IsReachable (effect g x command) y → IsReachable g y =
      λ y reachable. IsReachable-plain g x subject command y (subst (λ k. IsReachable k y) (sym next) reachable) in
      let after : IsContentOf new (effect g x command) = record {
        made = λ a named. stands.made a ((is.names a).0 named);
        reachable = λ a reachable. (is.names a).1 (stands.reachable a (reachable_before a reachable));
        closed = λ a b named edge. (is.names b).1 (closed_after g.label (IsNamed c) stands.closed g.value x command (stands.reachable x (begins subject)) allowed a b ((is.names a).0 named) edge);
        labels = λ a b named. is.labels a b ∙ labels_after-same g.label c.label x command a b (stands.labels a b ((is.names a).0 named));
        values = λ a named. is.values a ∙ values_after-same g.value c.value command a (stands.values a ((is.names a).0 named));
      } in
      subst (IsContentOf new) (sym next) after

  -- where it is denied, the content stays
  pub StandsFor-denied : (command : Command) (denial : Denial) → denial_of c.label c.value x command ≡ Some denial → IsSameContent c new → IsContentOf new (step g x (Plain command))
  StandsFor-denied command denial denied same =
      subst (IsContentOf new) (sym (step-denied g x command denial (sym (denial_of-stands c g stands x command subject) ∙ denied)))
      (StandsFor-same c new g stands same)

-- what was not made yet has no name in the content
pub not_named-made : (c : Content) (g : ProtectionGraph) → IsContentOf c g → (IsNamed c g.made → ⊥)
not_named-made c g stands named = omega (arith, stands.made g.made named)

no_edge-none : (b : Bool) → (b ≡ false → ⊥) → b ≡ true
no_edge-none true none = refl
no_edge-none false none = absurd (none refl)

module _ (c new : Content) (g : ProtectionGraph) (stands : IsContentOf c g) (x : ℕ) (label : RightSet) where
  -- a new vertex has no edge, in the content and in the graph
  no_row : OnlyNamedHold c → IsSound g → (b : ℕ) → c.label g.made b ≡ g.label g.made b
  no_row only sound b =
      only g.made (not_named-made c g stands) b
      ∙ sym (none_held-same (g.label g.made b) (no_edge-none _ (λ edge. omega (arith, (sound.ends_made g.made b edge).0))))

  more : (a b : ℕ) → c.label a b ≡ g.label a b → with_rights c.label x g.made label a b ≡ with_rights g.label x g.made label a b
  more a b same = ap (λ s. cond ((a == x) && (b == g.made)) (union s label) s) same

  -- the content with a vertex of the next name
  abbrev IsMadeIn : Value → Type 0
  IsMadeIn value = IsContent new (λ y. IsNamed c y ⊎ (y ≡ g.made)) (with_rights c.label x g.made label) (with_value c.value g.made value)

  -- the graph with it, and with these subjects
  abbrev made_with : Value → List ℕ → ProtectionGraph
  made_with value subjects = record (with_vertex g x label value) { subjects = subjects }

  -- that content represents that graph, where nothing else is reached there than before
  content_made : (value : Value) (subjects : List ℕ) → OnlyNamedHold c → IsSound g → IsMadeIn value → ((a : ℕ) → IsReachable (made_with value subjects) a → IsReachable g a ⊎ (a ≡ g.made)) → IsContentOf new (made_with value subjects)
  content_made value subjects only sound is before = record {
    made = λ a named. ⊎_elim (λ old. omega (arith, stands.made a old)) (λ at. omega (arith, at)) ((is.names a).0 named);
    reachable = λ a reachable. (is.names a).1 (⊎_elim (λ k. inl (stands.reachable a k)) (λ at. inr at) (before a reachable));
    closed = λ a b named edge.
        (is.names b).1 (⊎_elim
        (λ old_edge. ⊎_elim (λ old. inl (stands.closed a b old old_edge)) (λ at. absurd (omega (arith, at, (sound.ends_made a b old_edge).0))) ((is.names a).0 named))
        (λ (at_x, at_made, some). inr at_made)
        (HasEdge-with_rights g.label x g.made label a b edge));
    labels = λ a b named.
        is.labels a b ∙ more a b (⊎_elim (stands.labels a b) (λ at. subst (λ k. c.label k b ≡ g.label k b) (sym at) (no_row only sound b)) ((is.names a).0 named));
    values = λ a named.
        is.values a ∙ ⊎_elim
        (λ old. ap (λ o. cond (a == g.made) (Some value) o) (stands.values a old))
        (λ at. given_at a at)
        ((is.names a).0 named);
  }
    where
      given_at : (a : ℕ) → a ≡ g.made → with_value c.value g.made value a ≡ with_value g.value g.made value a
      given_at a at =
          let is_it = eq-eqb a g.made at in
          cond-true (a == g.made) _ (c.value a) is_it ∙ sym (cond-true (a == g.made) _ (g.value a) is_it)

  -- so it represents the graph after a create
  pub StandsFor-created : (law : Law) (state : List ℕ) → OnlyNamedHold c → IsSound g → IsSubject g x → g.made < g.limit → IsMadeIn (record { law = law; state = state }) → IsContentOf new (step g x (Create label law state))
  StandsFor-created law state only sound subject room is =
      let next = step-created g x label law state room in
      subst (IsContentOf new) (sym next)
      (content_made (record { law = law; state = state }) g.subjects only sound is
      (λ a reachable. IsReachable-step g x subject sound (Create label law state) a (subst (λ k. IsReachable k a) (sym next) reachable)))

  -- and after a spawn
  pub StandsFor-spawned : (law : Law) (state : List ℕ) → OnlyNamedHold c → IsSound g → IsSubject g x → g.made < g.limit → length g.subjects < MAX_WORKERS → IsMadeIn (record { law = law; state = state }) → IsContentOf new (step g x (Spawn label law state))
  StandsFor-spawned law state only sound subject room few is =
      let next = step-spawned g x label law state room few in
      subst (IsContentOf new) (sym next)
      (content_made (record { law = law; state = state }) (g.subjects ++ g.made ∷ []) only sound is
      (λ a reachable. IsReachable-step g x subject sound (Spawn label law state) a (subst (λ k. IsReachable k a) (sym next) reachable)))

  -- where no more may be made, the content stays
  pub StandsFor-full : (law : Law) (state : List ℕ) → g.limit ≤ g.made → IsSameContent c new → IsContentOf new (step g x (Create label law state))
  StandsFor-full law state full same =
      subst (IsContentOf new) (sym (step-not_allowed g x (Create label law state) (λ room. omega (arith, full, room))))
      (StandsFor-same c new g stands same)

-- ---- contents of heaps

module _ (s : HeapState) where
  pub OnlyNamedHold-content_of : OnlyNamedHold (content_of s)
  OnlyNamedHold-content_of x not_named y = by_object (option_cases (object_named s.table.spaces x))
    where
      by_object : (object_named s.table.spaces x ≡ None) ⊎ ((p : Place) × (object_named s.table.spaces x ≡ Some p)) → (content_of s).label x y ≡ no_rights
      by_object (inl none) = rw none refl
      by_object (inr (p, found)) =
          let h = s.table.spaces in
          let both = find_gives (λ q. name_at h q == x) (objects_of h) p found in
          absurd (not_named (subst (Contains (map (name_at h) (objects_of h))) (eqb-true (name_at h p) x both.1) (Contains-map (name_at h) (objects_of h) p both.0)))

-- a heap that is unchanged has the same content
pub IsSameContent-unchanged : (old new : HeapState) → IsUnchangedHeap old new → IsSameContent (content_of old) (content_of new)
IsSameContent-unchanged old new unchanged =
    let same : content_of new ≡ content_of old = λ i. content_in (unchanged.table i).spaces (record { entries = unchanged.entries i; spare = 0 }) in
    record {
      names = λ x. let P : Content → Type 0 = λ c. IsNamed c x ↔ IsNamed (content_of old) x in subst P (sym same) (λ is. is, λ is. is);
      labels = λ x y. ap (λ c. c.label x y) same;
      values = λ x. ap (λ c. c.value x) same;
    }

pub StandsFor-unchanged : (old new : HeapState) (g : ProtectionGraph) → IsContentOf (content_of old) g → IsUnchangedHeap old new → IsContentOf (content_of new) g
StandsFor-unchanged old new g stands unchanged =
    StandsFor-same (content_of old) (content_of new) g stands (IsSameContent-unchanged old new unchanged)

-- ---- what is kept

module _ (c : Content) (g : ProtectionGraph) (stands : IsContentOf c g) (subjects : List ℕ) (same : g.subjects ≡ subjects) where
  -- walks on the content are walks on the graph
  pub IsReachable-IsReached : (x : ℕ) → IsReached c subjects x → IsReachable g x
  IsReachable-IsReached =
      Walk-within (IsReachable g) (λ x active. begins (subst (λ (names : List ℕ). Contains names x) (sym same) active))
      (λ a b reachable edge. goes reachable (edge_along g.label c.label a b (stands.labels a b (stands.reachable a reachable)) edge))

  -- and back
  pub IsReached-IsReachable : (x : ℕ) → IsReachable g x → IsReached c subjects x
  IsReached-IsReachable =
      Walk-within (IsReached c subjects) (λ x subject. begins (subst (λ (names : List ℕ). Contains names x) same subject))
      (λ a b reached edge. goes reached (edge_along c.label g.label a b (sym (stands.labels a b (stands.reachable a (IsReachable-IsReached a reached)))) edge))

module _ (old new : Content) (g : ProtectionGraph) (stands : IsContentOf old g) where
  -- what is kept represents the same graph, where all that can be reached is kept
  pub StandsFor-kept : (kept : ℕ → Type 0) → KeepsContent old new kept → ((x : ℕ) → IsReachable g x → kept x) → IsContentOf new g
  StandsFor-kept kept keeps all =
      let before : (x : ℕ) → IsNamed new x → IsNamed old x = λ x named. ((keeps.names x).0 named).0 in
      record {
        made = λ x named. stands.made x (before x named);
        reachable = λ x reachable. (keeps.names x).1 (stands.reachable x reachable, all x reachable);
        closed = λ x y named edge. keeps.closed x y named (edge_along old.label g.label x y (sym (stands.labels x y (before x named))) edge);
        labels = λ x y named. keeps.labels x y named ∙ stands.labels x y (before x named);
        values = λ x named. keeps.values x named ∙ stands.values x (before x named);
      }

  module _ (subjects : List ℕ) (same : g.subjects ≡ subjects) (keeps : KeepsContent old new (IsReached old subjects)) where
    pub StandsFor-full_collection : IsContentOf new g
    StandsFor-full_collection = StandsFor-kept (IsReached old subjects) keeps (IsReached-IsReachable old g stands subjects same)

    -- a full collection keeps exactly the names that can be reached
    pub names-full_collection : (x : ℕ) → IsNamed new x ↔ IsReachable g x
    names-full_collection x = (
      λ named. IsReachable-IsReached old g stands subjects same x ((keeps.names x).0 named).1,
      λ reachable. (keeps.names x).1 (stands.reachable x reachable, IsReached-IsReachable old g stands subjects same x reachable),
    )

-- what a collection of either kind keeps
pub StandsFor-collected : (kind : Kind) (old new : Content) (g : ProtectionGraph) (subjects : List ℕ) → IsContentOf old g → g.subjects ≡ subjects → KeepsReached kind old new subjects → IsContentOf new g
StandsFor-collected Full old new g subjects stands same keeps = StandsFor-full_collection old new g stands subjects same keeps
StandsFor-collected Nursery old new g subjects stands same keeps =
    StandsFor-kept old new g stands (IsNamed new) keeps.0 (λ x reachable. keeps.1 x (IsReached-IsReachable old g stands subjects same x reachable))

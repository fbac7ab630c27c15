-- One vertex more in a heap without edges.
use Rattle.std.proofs.Common.{◌≡◌, ◌≢◌, ◌⊎◌, inl, inr, ⊎_elim, ◌∙◌, ◌+◌, ◌<◌, ◌≤◌, ◌==◌, ◌++◌, ◌∷◌, [], ℕ, zero, suc, Bool, true, false, cond, List, length, get_or, take, not, Some, refl, sym, ap, subst, arith}
use Rattle.std.specs.Prelude.{slice_get}
use Rattle.std.specs.List.{All, Contains}
use Rattle.tg_rights.specs.RightSet.{no_rights}
use Rattle.std.proofs.lemmas.Bool.{cond-true, eqb-true, eqb-false, ne_eqb}
use Rattle.std.proofs.lemmas.List.{length-map, map-append, length-take-le, get_or-take, get_or_default, take_more}
use Rattle.std.proofs.lemmas.List.Elements.{All-contains, Contains-append_left, Contains-get_or, Contains-push, Contains-push_cases}
use Rattle.std.proofs.lemmas.List.Kept.{AllPairs-from_increasing}
use Rattle.tg_model.specs.declared.value.Value.{Value}
use Rattle.tg_model.specs.Graph.{without_subject}
use Rattle.tg_model.specs.Opened.{start_of}
use Rattle.tg_model.specs.Rules.{with_value}
use Rattle.tg_model.specs.Walks.{begins}
use Rattle.tg_subjects.specs.Subjects.{names_of, without}
use Rattle.tg_subjects.specs.declared.subject.Subject.{Subject}
use Rattle.tg_space.specs.SpaceTable.{SpaceTable}
use Rattle.tg_rows.specs.Content.{Content, IsNamed}
use Rattle.tg_rows.specs.Graph.{content_in}
use Rattle.tg_rows.specs.Rows.{IsVertexAt}
use Rattle.tg_rules.proofs.SubjectNames.{names_without}
use Rattle.tg_graph.specs.Heap.{AddsSubject, HeapState, IsActive, content_of, subject_names}
use Rattle.tg_graph.specs.Standing.{IsContentOf}
use Rattle.tg_graph.proofs.StandingLaws.{OnlyNamedHold-content_of}
use Rattle.tg_snapshot.specs.declared.vertex.ShownVertex.{ShownVertex}
use Rattle.tg_snapshot.specs.Snapshot.{Saved, IsSnapshot, ShowsName, stored_in}
use Rattle.tg_snapshot.proofs.GraphLaws.{IsSound-shown, shown_subject}
use Rattle.tg_snapshot.proofs.ShownLaws.{nobody}
use Rattle.tg_rebuild.specs.Inner.Bare.{AddsBare, IsBare, KeepsVertices}
use Rattle.tg_rebuild.specs.Inner.Lines.{IsLineOf}
use Rattle.tg_rebuild.specs.Inner.Raising.{AreMadeUpTo, CanSpawn, IsBareOf, IsBelowRest, IsHandedOn, IsRaised, Spawns, acting, holder_among}
use Rattle.tg_rebuild.proofs.LineLaws.{line_made, lines_rise, rises, stored_line}

-- ---- any vertex

module _ (p : Saved) (old new : HeapState) (name : ℕ) (v : Value) (base : IsBareOf p old) (added : AddsBare old new name v) where
  given : (x : ℕ) → (b : Bool) → b ≡ (x == name) → stored_in p name ≡ Some v → (IsNamed (content_of old) x ⊎ (x ≡ name)) → with_value (content_of old).value name v x ≡ stored_in p x
  given x true is stored named = cond-true (x == name) (Some v) ((content_of old).value x) (sym is) ∙ sym stored ∙ ap (stored_in p) (sym (eqb-true x name (sym is)))
  given x false is stored named =
      ap (λ (b : Bool). cond b (Some v) ((content_of old).value x)) (sym is)
      ∙ ⊎_elim (base.values x) (λ at. absurd (eqb-false x name (sym is) at)) named

  pub bare_more : name < p.picture.made → stored_in p name ≡ Some v → IsBareOf p new
  bare_more low stored = record {
    bare = added.labels;
    made = λ x named. ⊎_elim (base.made x) (λ at. subst (λ (n : ℕ). n < p.picture.made) (sym at) low) ((added.names x).0 named);
    values = λ x named. added.values x ∙ given x (x == name) refl stored ((added.names x).0 named);
  }

-- ---- the vertex 0

module _ (p : Saved) (is : IsSnapshot p) (s : HeapState) (v : Value) (limit : ℕ) (stands : IsContentOf (content_of s) (start_of (record { workers = 1; edges = []; values = v ∷ []; limit = limit }))) where
  bare_start : (x y : ℕ) → (content_of s).label x y ≡ no_rights
  bare_start zero y = stands.labels 0 y (stands.reachable 0 (begins (Contains-get_or (0 ∷ []) 0 0 (omega arith))))
  bare_start (suc x) y = OnlyNamedHold-content_of s (suc x) (λ named. let low = stands.made (suc x) named in absurd (omega (arith, low))) y

  -- the heap that is opened with it alone
  pub zero_raised : stored_in p 0 ≡ Some v → IsRaised p s
  zero_raised stored = record {
    base = record {
      bare = bare_start;
      made = λ x named. let low = stands.made x named in let some = is.some_made in omega (arith, low, some);
      values = λ x named.
          let zero : x ≡ 0 = let low = stands.made x named in omega (arith, low) in
          stands.values x named ∙ ap (slice_get (v ∷ [])) zero ∙ sym stored ∙ ap (stored_in p) (sym zero);
    };
    named = λ x named. inl (let low = stands.made x named in omega (arith, low));
  }

-- ---- a subject

pub names_push : (old new : HeapState) (name : ℕ) → AddsSubject old new name → subject_names new ≡ subject_names old ++ name ∷ []
names_push old new name added =
    ap names_of added.subjects ∙ map-append (λ (s : Subject). s.name) old.subjects (added.subject ∷ [])
    ∙ ap (λ (n : ℕ). subject_names old ++ n ∷ []) added.named

-- a vertex that may be a subject isn't there yet
pub not_there : (p : Saved) (holder name : ℕ) (s : HeapState) → CanSpawn p holder name s → ¬ IsNamed (content_of s) name
not_there p holder name s can named =
    ⊎_elim can.positive
    (λ active. let below : name < name = All-contains (λ (x : ℕ). x < name) (subject_names s) name can.above active in omega (arith, below))
    (can.raised.named name named)

pub spawned : (p : Saved) → IsSnapshot p → (old new : HeapState) (name at : ℕ) (v : Value) → IsLineOf p.vertices name at → ((d : ShownVertex) → v ≡ (get_or p.vertices at d).value) → IsRaised p old → AddsBare old new name v → subject_names new ≡ subject_names old ++ name ∷ [] → KeepsVertices old new → Spawns p name old new
spawned p is old new name at v line value raised added subjects kept = record {
  raised = record {
    base = bare_more p old new name v raised.base added (line_made p is name at line) (stored_line p is name at nobody line ∙ ap (λ (u : Value). Some u) (sym (value nobody)));
    named = λ x named.
        ⊎_elim
        (λ before. ⊎_elim inl (λ active. inr (subst (λ (xs : List ℕ). Contains xs x) (sym subjects) (Contains-append_left (subject_names old) (name ∷ []) x active))) (raised.named x before))
        (λ here. inr (subst (λ (xs : List ℕ). Contains xs x) (sym subjects) (subst (Contains (subject_names old ++ name ∷ [])) (sym here) (Contains-push (subject_names old) name))))
        ((added.names x).0 named);
  };
  subjects = subjects;
  kept = kept;
}

-- ---- which subjects there are

pub acting_some : (xs : List ℕ) → 0 < length xs → acting xs ≡ xs
acting_some [] some = absurd (omega (arith, some))
acting_some (x ∷ xs) some = refl

pub acting_holder : (xs : List ℕ) → Contains (acting xs) (holder_among xs)
acting_holder [] = Contains-get_or (0 ∷ []) 0 0 (omega arith)
acting_holder (x ∷ xs) = Contains-get_or (x ∷ xs) 0 x (omega arith)

-- who is left if the snapshot has no subject
pub none_left : (xs : List ℕ) (old new : List Subject) → length xs ≤ 0 → names_of old ≡ acting xs → new ≡ without old 0 → names_of new ≡ xs
none_left [] old new none names gone = ap names_of gone ∙ names_without old 0 ∙ ap (λ (ys : List ℕ). without_subject ys 0) names
none_left (x ∷ xs) old new none names gone = absurd (omega (arith, none))

pub first_acting : (xs : List ℕ) → take 1 (acting xs) ≡ holder_among xs ∷ []
first_acting [] = refl
first_acting (x ∷ xs) = refl

pub length-acting : (xs : List ℕ) (at : ℕ) → 1 ≤ at → length xs ≤ at → length (acting xs) ≤ at
length-acting [] at some all = some
length-acting (x ∷ xs) at some all = all

pub holder_first : (xs : List ℕ) (d : ℕ) → 0 < length xs → holder_among xs ≡ get_or xs 0 d
holder_first [] d some = absurd (omega (arith, some))
holder_first (x ∷ xs) d some = refl

-- the first subject, if it isn't 0
pub holder_shown : (p : Saved) → IsSnapshot p → holder_among p.picture.subjects ≢ 0 → ShowsName p.vertices (holder_among p.picture.subjects)
holder_shown p is other = shown_subject p is (holder_among p.picture.subjects) (there p.picture.subjects other)
  where
    there : (xs : List ℕ) → holder_among xs ≢ 0 → Contains xs (holder_among xs)
    there [] other = absurd (other refl)
    there (x ∷ xs) other = Contains-get_or (x ∷ xs) 0 x (omega arith)

-- who is left once 0 retired
pub zero_gone : (first : ℕ) → first ≢ 0 → without_subject (0 ∷ first ∷ []) 0 ≡ first ∷ []
zero_gone first other = ap (λ (b : Bool). cond (not b) (first ∷ []) []) (ne_eqb first 0 other)

-- the next subject comes after those that are active
pub next_names : (xs : List ℕ) (at name : ℕ) → at < length xs → name ≡ get_or xs at 0 → take at (acting xs) ++ name ∷ [] ≡ take (at + 1) (acting xs)
next_names xs at name inside here =
    let same : acting xs ≡ xs = acting_some xs (omega (arith, inside)) in
    ap (λ (ys : List ℕ). take at ys ++ name ∷ []) same ∙ ap (λ (n : ℕ). take at xs ++ n ∷ []) here
    ∙ sym (take_more xs at 0 inside) ∙ ap (take (at + 1)) (sym same)

-- ---- the first subject

pub content_same : (mid new : HeapState) → new.table ≡ mid.table → new.payloads ≡ mid.payloads → content_of new ≡ content_of mid
content_same mid new table payloads = λ i. content_in (table i).spaces (payloads i)

above_zero : (first : ℕ) → first ≢ 0 → All (λ (x : ℕ). x < first) (0 ∷ [])
above_zero first other zero d before = omega (arith, other)
above_zero first other (suc k) d before = absurd (omega (arith, before))

pub can_spawn_first : (p : Saved) → IsSnapshot p → (s : HeapState) → IsRaised p s → subject_names s ≡ 0 ∷ [] → (first : ℕ) → first ≡ holder_among p.picture.subjects → first ≢ 0 → CanSpawn p 0 first s
can_spawn_first p is s raised names first same other = record {
  raised = raised;
  active = subst (λ (xs : List ℕ). Contains xs 0) (sym names) (Contains-get_or (0 ∷ []) 0 0 (omega arith));
  few = let long = length-map s.subjects (λ (x : Subject). x.name) in let one = ap length names in omega (arith, long, one);
  above = subst (All (λ (x : ℕ). x < first)) (sym names) (above_zero first other);
  shown = subst (ShowsName p.vertices) (sym same) (holder_shown p is (λ zero. other (same ∙ zero)));
  positive = other;
}

-- the vertex 0 is a subject no more
pub handed_on : (p : Saved) (old mid new : HeapState) (first : ℕ) → first ≡ holder_among p.picture.subjects → first ≢ 0 → subject_names old ≡ 0 ∷ [] → Spawns p first old mid → new.subjects ≡ without mid.subjects 0 → new.table ≡ mid.table → new.payloads ≡ mid.payloads → IsHandedOn p old new
handed_on p old mid new first same other names spawns gone table payloads =
    let content = content_same mid new table payloads in
    let both : subject_names mid ≡ 0 ∷ first ∷ [] = spawns.subjects ∙ ap (λ (xs : List ℕ). xs ++ first ∷ []) names in
    let left : subject_names new ≡ first ∷ [] = ap names_of gone ∙ names_without mid.subjects 0 ∙ ap (λ (xs : List ℕ). without_subject xs 0) both ∙ zero_gone first other in
    record {
      raised = record {
        base = record {
          bare = subst IsBare (sym content) spawns.raised.base.bare;
          made = λ x named. spawns.raised.base.made x (subst (λ (c : Content). IsNamed c x) content named);
          values = λ x named. ap (λ (c : Content). c.value x) content ∙ spawns.raised.base.values x (subst (λ (c : Content). IsNamed c x) content named);
        };
        named = λ x named.
            ⊎_elim inl
            (λ active. by_name x left (Contains-push_cases (0 ∷ []) first x (subst (λ (xs : List ℕ). Contains xs x) both active)))
            (spawns.raised.named x (subst (λ (c : Content). IsNamed c x) content named));
      };
      subjects = left ∙ ap (λ (n : ℕ). n ∷ []) same;
      kept = record {
        limits = ap (λ (t : SpaceTable). t.limits) table ∙ spawns.kept.limits;
        vertices = λ x q is. subst (λ (t : SpaceTable). IsVertexAt t.spaces x q) (sym table) (spawns.kept.vertices x q is);
      };
    }
  where
    zero_only : (x k : ℕ) → k < 1 → get_or (0 ∷ []) k x ≡ x → x ≡ 0
    zero_only x zero inside is = sym is
    zero_only x (suc k) inside is = absurd (omega (arith, inside))

    by_name : (x : ℕ) → subject_names new ≡ first ∷ [] → Contains (0 ∷ []) x ⊎ (first ≡ x) → (x ≡ 0) ⊎ IsActive new x
    by_name x left (inl at) = inl (zero_only x at.0 at.1 at.2)
    by_name x left (inr at) = inr (subst (λ (xs : List ℕ). Contains xs x) (sym left) (subst (Contains (first ∷ [])) at (Contains-get_or (first ∷ []) 0 first (omega arith))))

-- it stays one if it is the first
pub stays_first : (p : Saved) (s : HeapState) → IsRaised p s → subject_names s ≡ 0 ∷ [] → 0 ≡ holder_among p.picture.subjects → IsHandedOn p s s
stays_first p s raised names same = record {
  raised = raised;
  subjects = names ∙ ap (λ (n : ℕ). n ∷ []) same;
  kept = record { limits = refl; vertices = λ x q is. is };
}

-- ---- the next subject

module _ (p : Saved) (is : IsSnapshot p) (at : ℕ) (s : HeapState) where
  -- the next subject may be made
  pub can_spawn : IsRaised p s → subject_names s ≡ take at (acting p.picture.subjects) → 1 ≤ at → at < length p.picture.subjects → (name : ℕ) → name ≡ get_or p.picture.subjects at 0 → CanSpawn p (holder_among p.picture.subjects) name s
  can_spawn raised subjects some inside name here =
      let xs = p.picture.subjects in
      let rising = (IsSound-shown p is).rising in
      let few = (IsSound-shown p is).few_subjects in
      let same : subject_names s ≡ take at xs = subjects ∙ ap (take at) (acting_some xs (omega (arith, inside))) in
      let positive : 0 < at = omega (arith, some) in
      let below : (k d : ℕ) → k < at → get_or xs k d < name =
      λ k d before. subst (λ (n : ℕ). get_or xs k d < n) (sym (named d)) (AllPairs-from_increasing xs rising k at d before inside) in
      record {
        raised = raised;
        active = subst (λ (ys : List ℕ). Contains ys (holder_among xs)) (sym same)
            (subst (Contains (take at xs)) (get_or-take at xs 0 0 positive ∙ sym (holder_first xs 0 (omega (arith, inside))))
            (Contains-get_or (take at xs) 0 0 (subst (λ (n : ℕ). 0 < n) (sym (length-take-le at xs (omega (arith, inside)))) positive)));
        few = let long = length-map s.subjects (λ (x : Subject). x.name) in let taken = ap length same in let short = length-take-le at xs (omega (arith, inside)) in omega (arith, long, taken, short, few, inside);
        above = subst (All (λ (x : ℕ). x < name)) (sym same)
            (λ k d before. let short = length-take-le at xs (omega (arith, inside)) in
            let low : k < at = omega (arith, before, short) in
            subst (λ (n : ℕ). n < name) (sym (get_or-take at xs k d low)) (below k d low));
        shown = shown_subject p is name (at, inside, get_or_default xs at name 0 inside ∙ sym here);
        positive = λ zero. let low = below 0 0 positive in omega (arith, low, zero);
      }
    where
      named : (d : ℕ) → name ≡ get_or p.picture.subjects at d
      named d = here ∙ get_or_default p.picture.subjects at 0 d inside

-- ---- the other vertices

module _ (p : Saved) (is : IsSnapshot p) (at : ℕ) (old : HeapState) (made : AreMadeUpTo p at old) where
  rest_more : (x : ℕ) → IsBelowRest p.vertices at x → IsBelowRest p.vertices (at + 1) x
  rest_more x below k d from inside = below k d (omega (arith, from)) inside

  -- a vertex that is there already
  pub made_there : AreMadeUpTo p (at + 1) old
  made_there = record {
    base = made.base;
    named = λ x named. ⊎_elim inl (λ below. inr (rest_more x below)) (made.named x named);
  }

  -- one that is neither the vertex 0 nor a subject isn't there yet
  pub unmade : (name : ℕ) → IsLineOf p.vertices name at → name ≢ 0 → ¬ IsActive old name → ¬ IsNamed (content_of old) name
  unmade name line positive idle named =
      ⊎_elim (⊎_elim positive idle)
      (λ below. let less : name < name = subst (λ (n : ℕ). name < n) (line.named nobody) (below at nobody (omega arith) line.inside) in omega (arith, less))
      (made.named name named)

  pub made_more : (new : HeapState) (name : ℕ) (v : Value) → IsLineOf p.vertices name at → ((d : ShownVertex) → v ≡ (get_or p.vertices at d).value) → AddsBare old new name v → new.subjects ≡ old.subjects → AreMadeUpTo p (at + 1) new
  made_more new name v line value added subjects = record {
    base = bare_more p old new name v made.base added (line_made p is name at line) (stored_line p is name at nobody line ∙ ap (λ (u : Value). Some u) (sym (value nobody)));
    named = λ x named.
        ⊎_elim
        (λ before.
        ⊎_elim
        (λ there. inl (⊎_elim inl (λ active. inr (subst (λ (xs : List ℕ). Contains xs x) (ap names_of (sym subjects)) active)) there))
        (λ below. inr (rest_more x below)) (made.named x before))
        (λ here. inr (λ k d from inside.
        let less = rises p.vertices (lines_rise p is) at k d (omega (arith, from)) inside in
        let mine = line.named d in
        omega (arith, less, mine, here)))
        ((added.names x).0 named);
  }

-- A graph and a picture of what its active subjects reach take the same turns, and agree on who is reached after each.
use Rattle.std.proofs.Common.{◌≡◌, ◌⊎◌, inl, inr, ⊎_elim, ℕ, ◌<◌, ◌≤◌, ◌==◌, ◌&&◌, nat_lt, Bool, true, false, cond, List, [], ◌∷◌, length, Option, Some, None, refl, sym, ap, ◌∙◌, subst, arith}
use Rattle.std.specs.List.{Contains}
use Rattle.std.proofs.lemmas.Bool.{cases_lt, false≢true}
use Rattle.std.proofs.lemmas.Bool.Decides.{same_from_decides}
use Rattle.std.proofs.lemmas.List.Elements.{Contains-push_cases}
use Rattle.tg_rights.specs.RightSet.{RightSet, has, no_rights, union, is_none_held}
use Rattle.tg_rights.proofs.RightLaws.{same_rights}
use Rattle.tg_rights.specs.declared.Right.{Right}
use Rattle.tg_model.specs.declared.opening.TheConstants.{MAX_WORKERS}
use Rattle.tg_model.specs.declared.edge.Edge.{Edge}
use Rattle.tg_model.specs.declared.value.Value.{Value}
use Rattle.tg_model.specs.declared.command.Command.{Command}
use Rattle.tg_model.specs.declared.command.Deed.{Deed}
use Rattle.tg_model.specs.declared.command.Deed.TheVariants.{Create, Spawn, Plain}
use Rattle.tg_model.specs.declared.reply.Denial.{Denial}
use Rattle.tg_model.specs.Graph.{ProtectionGraph, IsSubject, HasEdge, IsReachable, IsSound, with_rights}
use Rattle.tg_model.specs.Near.{SameNear}
use Rattle.tg_model.specs.Opened.{label_in}
use Rattle.tg_model.specs.Picture.{Holds, Shown, IsPictureOf}
use Rattle.tg_model.specs.Rules.{denial_of, effect, unless_denied, with_vertex, with_subject, step}
use Rattle.tg_model.specs.Walks.{begins, goes, Walk-within}
use Rattle.tg_model.proofs.AllowedLaws.{permits-no_denial}
use Rattle.tg_model.proofs.NearLaws.{denial_of-near, labels_after-same}
use Rattle.tg_model.proofs.ReachLaws.{HasEdge-with_rights, closed_after, IsReachable-step, unreachable_row}
use Rattle.tg_model.proofs.SoundLaws.{IsSound-step, le-step-made}
use Rattle.tg_model.proofs.SubjectLaws.{subject_before}
use Rattle.tg_could.specs.Turns.{Turn, Acts, AreTurns, IsSilent, LeadThere, NeverHolds, after}
use Rattle.tg_could.specs.Reached.{HaveSameReach, IsLedTo, IsReachedEdge, IsReachedPicture}
use Rattle.tg_could.proofs.TurnLaws.{Holds-member, given_by, no_right, right_edge}

-- ---- two graphs that agree on a set of vertices

-- the same graph with other labels
abbrev pub relabelled : ProtectionGraph → (ℕ → ℕ → RightSet) → ProtectionGraph
relabelled g label = record g { label = label }

-- Other labels are the same in the rows of a set, which has the subjects and what isn't made yet, and which no edge leaves.
pub record Agree (known : ℕ → Type 0) (g : ProtectionGraph) (label : ℕ → ℕ → RightSet) : Type 0 where
  pub subjects : (p : ℕ) → IsSubject g p → known p
  pub later : (x : ℕ) → g.made ≤ x → known x
  pub closed : (a b : ℕ) → known a → HasEdge g.label a b → known b
  pub labels : (a b : ℕ) → known a → label a b ≡ g.label a b

-- the other graph is the same but for its labels, and they agree
pub record AreAlike (known : ℕ → Type 0) (g h : ProtectionGraph) : Type 0 where
  pub same : h ≡ relabelled g h.label
  pub agree : Agree known g h.label

module _ (known : ℕ → Type 0) (g : ProtectionGraph) (label : ℕ → ℕ → RightSet) (agree : Agree known g label) (p : ℕ) (subject : IsSubject g p) where
  abbrev Both : ProtectionGraph → ProtectionGraph → Type 0
  Both = AreAlike known

  abbrev other : ProtectionGraph
  other = relabelled g label

  own : known p
  own = agree.subjects p subject

  near : SameNear g.label label p
  near = record { own = λ y. agree.labels p y own; next = λ via y edge. agree.labels via y (agree.closed p via own edge) }

  same_denial : (command : Command) → denial_of label g.value p command ≡ denial_of g.label g.value p command
  same_denial command = denial_of-near g.label label p g.value g.value near (λ y edge. refl) command

  both_same : Both g other
  both_same = record { same = refl; agree = agree }

  both_served : (command : Command) → denial_of g.label g.value p command ≡ None → Both (effect g p command) (effect other p command)
  both_served command none =
      let allowed = permits-no_denial g.label g.value p command none in
      record {
        same = refl;
        agree = record {
          subjects = λ q later. agree.subjects q (subject_before g.subjects p command q later);
          later = agree.later;
          closed = closed_after g.label known agree.closed g.value p command own allowed;
          labels = λ a b is. labels_after-same g.label label p command a b (agree.labels a b is);
        };
      }

  both_plain : (command : Command) → Both (step g p (Plain command)) (step other p (Plain command))
  both_plain command =
      let d : Option Denial = denial_of g.label g.value p command in
      subst (λ (e : Option Denial). Both (unless_denied d g (effect g p command)) (unless_denied e other (effect other p command))) (sym (same_denial command))
      (elim d as (λ (e : Option Denial). denial_of g.label g.value p command ≡ e → Both (unless_denied e g (effect g p command)) (unless_denied e other (effect other p command))) [
        | None ↦ λ none. both_served command none
        | Some denial ↦ λ denied. both_same
      ] refl)

  -- one vertex more
  agree_made : (rights : RightSet) (value : Value) → Agree known (with_vertex g p rights value) (with_rights label p g.made rights)
  agree_made rights value = record {
    subjects = agree.subjects;
    later = λ x above. agree.later x (omega (arith, above));
    closed = λ a b is edge. ⊎_elim
        (λ old. agree.closed a b is old)
        (λ (at_p, at_new, some). agree.later b (omega (arith, at_new)))
        (HasEdge-with_rights g.label p g.made rights a b edge);
    labels = λ a b is. ap (λ s. cond ((a == p) && (b == g.made)) (union s rights) s) (agree.labels a b is);
  }

  both_made : (rights : RightSet) (value : Value) → Both (with_vertex g p rights value) (with_vertex other p rights value)
  both_made rights value = record { same = refl; agree = agree_made rights value }

  both_spawned : (rights : RightSet) (value : Value) → Both (with_subject g p rights value) (with_subject other p rights value)
  both_spawned rights value =
      let made = agree_made rights value in
      record {
        same = refl;
        agree = record {
          subjects = λ q is. ⊎_elim (agree.subjects q) (λ new. agree.later q (omega (arith, new))) (Contains-push_cases g.subjects g.made q is);
          later = made.later;
          closed = made.closed;
          labels = made.labels;
        };
      }

  both_step : (deed : Deed) → Both (step g p deed) (step other p deed)
  both_step (Create rights law state) =
      let value : Value = record { law = law; state = state } in
      elim (nat_lt g.made g.limit) as (λ (b : Bool). Both (cond b (with_vertex g p rights value) g) (cond b (with_vertex other p rights value) other)) [
        | true ↦ both_made rights value
        | false ↦ both_same
      ]
  both_step (Spawn rights law state) =
      let value : Value = record { law = law; state = state } in
      elim (nat_lt g.made g.limit) as (λ (b : Bool).
      Both (cond b (cond (nat_lt (length g.subjects) MAX_WORKERS) (with_subject g p rights value) g) g)
      (cond b (cond (nat_lt (length g.subjects) MAX_WORKERS) (with_subject other p rights value) other) other)) [
        | true ↦ elim (nat_lt (length g.subjects) MAX_WORKERS) as (λ (b : Bool). Both (cond b (with_subject g p rights value) g) (cond b (with_subject other p rights value) other)) [
          | true ↦ both_spawned rights value
          | false ↦ both_same
        ]
        | false ↦ both_same
      ]
  both_step (Plain command) = both_plain command

-- ---- turns

module _ (known : ℕ → Type 0) (silent : ℕ → Type 0) where
  alike_step : (g h : ProtectionGraph) → AreAlike known g h → (p : ℕ) → IsSubject g p → (deed : Deed) → AreAlike known (step g p deed) (step h p deed)
  alike_step g h alike p subject deed =
      subst (λ (k : ProtectionGraph). AreAlike known (step g p deed) (step k p deed)) (sym alike.same)
      (both_step known g h.label alike.agree p subject deed)

  same_acts : (g h : ProtectionGraph) → AreAlike known g h → (p : ℕ) → Acts silent h p → Acts silent g p
  same_acts g h alike p acts = subst (λ (k : ProtectionGraph). Acts silent k p) alike.same acts

  same_acts_back : (g h : ProtectionGraph) → AreAlike known g h → (p : ℕ) → Acts silent g p → Acts silent h p
  same_acts_back g h alike p acts = subst (λ (k : ProtectionGraph). Acts silent k p) (sym alike.same) acts

  -- the turns of the one graph are those of the other, and the graphs are alike after them
  pub alike_turns : (turns : List Turn) (g h : ProtectionGraph) → AreAlike known g h → AreTurns silent g turns ⊎ AreTurns silent h turns → AreTurns silent g turns × AreTurns silent h turns × AreAlike known (after g turns) (after h turns)
  alike_turns [] g h alike are = (tt, tt, alike)
  alike_turns (turn ∷ turns) g h alike are =
      let acts : Acts silent g turn.0 = ⊎_elim (λ own. own.0) (λ others. same_acts g h alike turn.0 others.0) are in
      let next = alike_step g h alike turn.0 acts.0 turn.1 in
      let rest = alike_turns turns (step g turn.0 turn.1) (step h turn.0 turn.1) next (⊎_elim (λ own. inl own.1) (λ others. inr others.1) are) in
      ((acts, rest.0), (same_acts_back g h alike turn.0 acts, rest.1), rest.2)

-- ---- pictures

-- who is reached, or isn't made yet
abbrev pub Known : ProtectionGraph → ℕ → Type 0
Known g x = IsReachable g x ⊎ (g.made ≤ x)

-- sets that hold the same rights are one
same_held : (s t : RightSet) → ((q : Right) → has s q ≡ true → has t q ≡ true) → ((q : Right) → has t q ≡ true → has s q ≡ true) → s ≡ t
same_held s t on back = same_rights s t (λ q. same_from_decides {P = has t q ≡ true} (has s q) (has t q) (on q, back q) (λ h. h, λ h. h))

pub some_edge : (s : RightSet) (q : Right) → has s q ≡ true → s ≡ no_rights → ⊥
some_edge s q h none = no_right q (ap (λ t. has t q) (sym none) ∙ h)

-- and where none is held, none are
none_held : (s : RightSet) → ((q : Right) → ¬ (has s q ≡ true)) → s ≡ no_rights
none_held s lacks = same_held s no_rights (λ q h. absurd (lacks q h)) (λ q h. absurd (no_right q h))

-- the picture's edge from a to b, where there is one
module _ (p : Shown) (g : ProtectionGraph) (picture : IsReachedPicture p g) where
  abbrev shown : ℕ → ℕ → RightSet
  shown = label_in p.edges

  given_is : (a b : ℕ) (q : Right) → Holds shown a q b → IsReachable g a × Holds g.label a q b
  given_is a b q h =
      let given = given_by p.edges a q b h in
      let is = (picture.edges given.edge).0 given.there in
      let P : ℕ → ℕ → Type 0 = λ x y. IsReachable g x × Holds g.label x q y in
      subst (λ y. P a y) given.to (subst (λ x. P x given.edge.to) given.from (is.from, ap (λ s. has s q) (sym is.label) ∙ given.holds))

  given_back : (a b : ℕ) (q : Right) → IsReachable g a → Holds g.label a q b → Holds shown a q b
  given_back a b q reached h =
      let edge : Edge = record { from = a; to = b; label = g.label a b } in
      let there : HasEdge g.label a b = right_edge (g.label a b) q h in
      let is : Contains p.edges edge = (picture.edges edge).1 (record { from = reached; there = there; label = refl }) in
      Holds-member p.edges is.0 edge is.1 (sym is.2) q h

  -- who is reached is an active subject, or an edge leads to it
  pub reached_shown : (x : ℕ) → IsReachable g x → Contains p.subjects x ⊎ IsLedTo p.edges x
  reached_shown x (begins is) = inl (subst (λ (names : List ℕ). Contains names x) picture.subjects is)
  reached_shown x (goes {b = b} walk edge) =
      let e : Edge = record { from = b; to = x; label = g.label b x } in
      inr (record { edge = e; there = (picture.edges e).1 (record { from = walk; there = edge; label = refl }); leads = refl })

  pub shown_reached : (x : ℕ) → Contains p.subjects x ⊎ IsLedTo p.edges x → IsReachable g x
  shown_reached x (inl is) = begins (subst (λ (names : List ℕ). Contains names x) (sym picture.subjects) is)
  shown_reached x (inr led) =
      let is = (picture.edges led.edge).0 led.there in
      subst (IsReachable g) led.leads (goes is.from is.there)

module _ (p : Shown) (g : ProtectionGraph) (sound : IsSound g) (picture : IsReachedPicture p g) where
  -- a right that is shown joins two that were made
  shown_made : (a b : ℕ) (q : Right) → Holds (label_in p.edges) a q b → (a < g.made) × (b < g.made)
  shown_made a b q h = sound.ends_made a b (right_edge (g.label a b) q (given_is p g picture a b q h).1)

  pub picture_agrees : Agree (Known g) g (label_in p.edges)
  picture_agrees = record {
    subjects = λ q is. inl (begins is);
    later = λ x above. inr above;
    closed = λ a b is edge. ⊎_elim (λ reached. inl (goes reached edge)) (λ above. absurd (omega (arith, above, sound.ends_made a b edge))) is;
    labels = λ a b is.
        same_held (label_in p.edges a b) (g.label a b) (λ q h. (given_is p g picture a b q h).1)
        (λ q h.
        ⊎_elim (λ reached. given_back p g picture a b q reached h)
        (λ above. absurd (omega (arith, above, sound.ends_made a b (right_edge (g.label a b) q h)))) is);
  }

  -- it is a picture of the graph with the labels that it shows
  pub pictured : IsPictureOf p (relabelled g (label_in p.edges))
  pictured = record {
    is_made = record { subjects = sound.subjects_made; ends = shown_made };
    subjects = picture.subjects;
    made = picture.made;
    limit = picture.limit;
    labels = λ a b. refl;
  }

  -- so does an edge
  edge_made : (a b : ℕ) → HasEdge (label_in p.edges) a b → (a < g.made) × (b < g.made)
  edge_made a b edge = (
    ⊎_elim (λ below. below) (λ above. some (λ q h. omega (arith, above, shown_made a b q h))) (cases_lt a g.made),
    ⊎_elim (λ below. below) (λ above. some (λ q h. omega (arith, above, shown_made a b q h))) (cases_lt b g.made),
  )
    where
      some : {A : Type 0} → ((q : Right) → ¬ Holds (label_in p.edges) a q b) → A
      some lacks = absurd (false≢true (sym edge ∙ ap is_none_held (none_held (label_in p.edges a b) lacks)))

  -- the graph with the labels that it shows is sound
  pub sound_shown : IsSound (relabelled g (label_in p.edges))
  sound_shown = record {
    rising = sound.rising;
    subjects_made = sound.subjects_made;
    few_subjects = sound.few_subjects;
    ends_made = edge_made;
    no_loop = λ x.
        none_held (label_in p.edges x x) (λ q h. no_right q (ap (λ s. has s q) (sym (sound.no_loop x)) ∙ (given_is p g picture x x q h).1));
    values = sound.values;
  }

module _ (silent : List ℕ) (g : ProtectionGraph) (label : ℕ → ℕ → RightSet) (known : ℕ → Type 0) (agree : Agree known g label) (x : ℕ) (is : known x) (r : Right) (y : ℕ) where
  alike_first : AreAlike known g (relabelled g label)
  alike_first = record { same = refl; agree = agree }

  pub never_on : NeverHolds silent (relabelled g label) x r y → NeverHolds silent g x r y
  never_on never turns are h =
      let both = alike_turns known (IsSilent silent g) turns g (relabelled g label) alike_first (inl are) in
      never turns both.1 (subst (λ (s : RightSet). has s r ≡ true) (sym (both.2.agree.labels x y is)) h)

  pub lead_on : (turns : List Turn) → LeadThere silent (relabelled g label) turns x r y → LeadThere silent g turns x r y
  lead_on turns lead =
      let both = alike_turns known (IsSilent silent g) turns g (relabelled g label) alike_first (inr lead.0) in
      (both.0, subst (λ (s : RightSet). has s r ≡ true) (both.2.agree.labels x y is) lead.1)

-- ---- who isn't reached

pub unreached_row : (silent : ℕ → Type 0) (turns : List Turn) (g : ProtectionGraph) (x : ℕ) → IsSound g → x < g.made → ¬ IsReachable g x → AreTurns silent g turns → (y : ℕ) → (after g turns).label x y ≡ g.label x y
unreached_row silent [] g x sound made unreached are y = refl
unreached_row silent (turn ∷ turns) g x sound made unreached are y =
    let p = turn.0 in
    let next = step g p turn.1 in
    let more = le-step-made g p turn.1 in
    let still : ¬ IsReachable next x = λ reached. ⊎_elim unreached (λ (new : x ≡ g.made). omega (arith, new, made)) (IsReachable-step g p are.0.0 sound turn.1 x reached) in
    unreached_row silent turns next x (IsSound-step g sound p are.0.0 turn.1) (omega (arith, made, more)) still are.1 y
    ∙ unreachable_row g p are.0.0 x unreached turn.1 y

-- ---- graphs with the same reached part

-- no more are reached on the other graph
reach_back : (g h : ProtectionGraph) → HaveSameReach g h → (x : ℕ) → IsReachable h x → IsReachable g x
reach_back g h same =
    Walk-within (IsReachable g) (λ q is. begins (subst (λ (names : List ℕ). Contains names q) same.subjects is))
    (λ a b reached edge. goes reached (sym (ap is_none_held (same.labels a b reached)) ∙ edge))

-- the other way round, too
swapped : (g h : ProtectionGraph) → HaveSameReach g h → HaveSameReach h g
swapped g h same = record {
  subjects = sym same.subjects;
  made = sym same.made;
  limit = sym same.limit;
  labels = λ a b reached. sym (same.labels a b (reach_back g h same a reached));
}

edge_on : (g h : ProtectionGraph) → HaveSameReach g h → (edge : Edge) → IsReachedEdge g edge → IsReachedEdge h edge
edge_on g h same edge is = record {
  from = reach_back h g (swapped g h same) edge.from is.from;
  there = ap is_none_held (same.labels edge.from edge.to is.from) ∙ is.there;
  label = is.label ∙ sym (same.labels edge.from edge.to is.from);
}

pub same_picture : (g h : ProtectionGraph) → HaveSameReach g h → (p : Shown) → IsReachedPicture p g → IsReachedPicture p h
same_picture g h same p picture = record {
  subjects = same.subjects ∙ picture.subjects;
  made = same.made ∙ picture.made;
  limit = same.limit ∙ picture.limit;
  edges = λ edge. (
    λ there. edge_on g h same edge ((picture.edges edge).0 there),
    λ is. (picture.edges edge).1 (edge_on h g (swapped g h same) edge is),
  );
}

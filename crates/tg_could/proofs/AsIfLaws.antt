-- What is answered on a picture with edges more is so of the whole graph with these edges, where active subjects reach their ends.
use Rattle.std.proofs.Common.{◌≡◌, ◌≢◌, ◌⊎◌, inl, inr, ⊎_elim, ℕ, ◌<◌, ◌≤◌, ◌==◌, ◌&&◌, Bool, true, false, cond, List, [], ◌∷◌, ◌++◌, refl, sym, ap, ap₂, ◌∙◌, subst, arith}
use Rattle.std.proofs.lemmas.Bool.{and_parts, cases_Bool, eqb-true}
use Rattle.std.proofs.lemmas.List.Elements.{All-head, All-tail}
use Rattle.tg_rights.specs.RightSet.{RightSet, has, holds_all, no_rights, union, is_none_held}
use Rattle.tg_rights.proofs.RightLaws.{has-union, holds_all-union, none_held-same, none_union, some_holds_all, some_union, union_assoc, union_comm}
use Rattle.tg_rights.specs.declared.Right.{Right}
use Rattle.tg_model.specs.declared.edge.Edge.{Edge}
use Rattle.tg_model.specs.Graph.{ProtectionGraph, HasEdge, IsReachable, IsSound}
use Rattle.tg_model.specs.Opened.{label_in}
use Rattle.tg_model.specs.Picture.{Shown, IsPictureOf}
use Rattle.tg_model.specs.Walks.{begins, goes, Walk-within, Walk-map}
use Rattle.tg_model.proofs.PictureLaws.{or_true}
use Rattle.tg_model.proofs.ReachLaws.{lt-IsReachable}
use Rattle.tg_could.specs.Turns.{with_names}
use Rattle.tg_could.specs.Answered.{IsAnswer}
use Rattle.tg_could.specs.Reached.{IsReachedPicture, IsToldOf, JoinsReached, JoinReached, with_edges}
use Rattle.tg_could.specs.declared.reached.ReachedAnswer.TheVariants.{Of, Unreached}
use Rattle.tg_could.specs.declared.answer.Answer.{Answer}
use Rattle.tg_could.specs.declared.answer.Answer.TheVariants.{Never, Could, WantsNames, Open}
use Rattle.tg_could.proofs.ReachedLaws.{Agree, Known, relabelled, picture_agrees, pictured, never_on, lead_on, some_edge, sound_shown, unreached_row}

-- the edges of two lists
pub label_in-append : (es more : List Edge) (a b : ℕ) → label_in (es ++ more) a b ≡ union (label_in es a b) (label_in more a b)
label_in-append [] more a b = sym (none_union (label_in more a b))
label_in-append (e ∷ es) more a b = by_test (label_in-append es more a b) ((a == e.from) && (b == e.to))
  where
    by_test : label_in (es ++ more) a b ≡ union (label_in es a b) (label_in more a b) → (t : Bool) → cond t (union e.label (label_in (es ++ more) a b)) (label_in (es ++ more) a b)
        ≡ union (cond t (union e.label (label_in es a b)) (label_in es a b)) (label_in more a b)
    by_test rest true = ap (union e.label) rest ∙ sym (union_assoc e.label (label_in es a b) (label_in more a b))
    by_test rest false = rest

-- a right that is held, and an edge
pub held_edge : (s : RightSet) (q : Right) → has s q ≡ true → is_none_held s ≡ false
held_edge s q h = ⊎_elim (λ none. absurd (some_edge s q h (none_held-same s none))) (λ some. some) (cases_Bool (is_none_held s))

-- what is held is held with more rights too
more_held : (a b : RightSet) → is_none_held a ≡ false → is_none_held (union a b) ≡ false
more_held a b some = some_holds_all (union a b) a (ap (λ s. holds_all s a) (union_comm a b) ∙ holds_all-union b a) some

-- two different vertices that are both reached
abbrev Ends : ProtectionGraph → ℕ → ℕ → Type 0
Ends g a b = IsReachable g a × IsReachable g b × (a ≢ b)

module _ (g : ProtectionGraph) where
  joined : (es : List Edge) → JoinReached g es → (a b : ℕ) → HasEdge (label_in es) a b → Ends g a b
  joined [] all a b edge = absurd (cc edge)
  joined (e ∷ es) all a b edge = by_test (joined es (All-tail (JoinsReached g) e es all) a b) (cases_Bool ((a == e.from) && (b == e.to)))
    where
      by_test : (HasEdge (label_in es) a b → Ends g a b) → (((a == e.from) && (b == e.to)) ≡ true) ⊎ (((a == e.from) && (b == e.to)) ≡ false) → Ends g a b
      by_test rest (inl t) =
          let ends = and_parts (a == e.from) (b == e.to) t in
          let own = All-head (JoinsReached g) e es all in
          subst (λ y. Ends g a y) (sym (eqb-true b e.to ends.1)) (subst (λ x. Ends g x e.to) (sym (eqb-true a e.from ends.0)) (own.from, own.to, own.differ))
      by_test rest (inr f) = rest (sym (ap (λ t. is_none_held (cond t (union e.label (label_in es a b)) (label_in es a b))) f) ∙ edge)

module _ (g : ProtectionGraph) (sound : IsSound g) (es : List Edge) (all : JoinReached g es) where
  abbrev supposed : ProtectionGraph
  supposed = with_edges g es

  cases_edge : (a b : ℕ) → HasEdge supposed.label a b → HasEdge g.label a b ⊎ Ends g a b
  cases_edge a b edge = ⊎_elim (λ old. inl old) (λ new. inr (joined g es all a b new)) (some_union (g.label a b) (label_in es a b) edge)

  no_loop_in : (x : ℕ) → label_in es x x ≡ no_rights
  no_loop_in x = ⊎_elim (λ none. none_held-same (label_in es x x) none) (λ some. absurd ((joined g es all x x some).2 refl)) (cases_Bool (is_none_held (label_in es x x)))

  pub supposed_sound : IsSound supposed
  supposed_sound = record {
    rising = sound.rising;
    subjects_made = sound.subjects_made;
    few_subjects = sound.few_subjects;
    ends_made = λ a b edge. ⊎_elim (λ old. sound.ends_made a b old) (λ new. (lt-IsReachable g sound a new.0, lt-IsReachable g sound b new.1)) (cases_edge a b edge);
    no_loop = λ x. ap₂ union (sound.no_loop x) (no_loop_in x) ∙ none_union no_rights;
    values = sound.values;
  }

  -- the same are reached
  pub reached_before : (x : ℕ) → IsReachable supposed x → IsReachable g x
  reached_before = Walk-within (IsReachable g) (λ q is. begins is) (λ a b reached edge. ⊎_elim (λ old. goes reached old) (λ new. new.1) (cases_edge a b edge))

  pub reached_then : (x : ℕ) → IsReachable g x → IsReachable supposed x
  reached_then = Walk-map (λ q is. is) (λ a b edge. more_held (g.label a b) (label_in es a b) edge)

  module _ (p : Shown) (picture : IsReachedPicture p g) where
    abbrev pub seen : ℕ → ℕ → RightSet
    seen a b = union (label_in p.edges a b) (label_in es a b)

    abbrev pub more : Shown
    more = record p { edges = p.edges ++ es }

    pub agrees : Agree (Known g) supposed seen
    agrees =
        let before = picture_agrees p g sound picture in
        record {
          subjects = before.subjects;
          later = before.later;
          closed = λ a b is edge. ⊎_elim (λ old. before.closed a b is old) (λ new. inl new.1) (cases_edge a b edge);
          labels = λ a b is. ap (λ s. union s (label_in es a b)) (before.labels a b is);
        }

    pub seen_by : IsPictureOf more (relabelled supposed seen)
    seen_by =
        let before = pictured p g sound picture in
        record {
          is_made = record {
            subjects = sound.subjects_made;
            ends = λ a b q h. ⊎_elim
                (λ old. before.is_made.ends a b q old)
                (λ new. let ends = joined g es all a b (held_edge (label_in es a b) q new) in (lt-IsReachable g sound a ends.0, lt-IsReachable g sound b ends.1))
                (or_true (has (label_in p.edges a b) q) (has (label_in es a b) q) (sym (has-union (label_in p.edges a b) (label_in es a b) q) ∙ h));
          };
          subjects = picture.subjects;
          made = picture.made;
          limit = picture.limit;
          labels = λ a b. sym (label_in-append p.edges es a b);
        }

    seen_sound : IsSound (relabelled supposed seen)
    seen_sound =
        let shown = sound_shown p g sound picture in
        record {
          rising = sound.rising;
          subjects_made = sound.subjects_made;
          few_subjects = sound.few_subjects;
          ends_made = λ a b edge. ⊎_elim
              (λ old. shown.ends_made a b old)
              (λ new. let ends = joined g es all a b new in (lt-IsReachable g sound a ends.0, lt-IsReachable g sound b ends.1))
              (some_union (label_in p.edges a b) (label_in es a b) edge);
          no_loop = λ x. ap₂ union (shown.no_loop x) (no_loop_in x) ∙ none_union no_rights;
          values = sound.values;
        }

    module _ (silent : List ℕ) (x : ℕ) (r : Right) (y : ℕ) where
      answer_as : Known g x → (answer : Answer) → IsAnswer silent (relabelled supposed seen) x r y answer → IsAnswer silent supposed x r y answer
      answer_as is (Never separation) never = never_on silent supposed seen (Known g) agrees x is r y never
      answer_as is (Could turns) lead = lead_on silent supposed seen (Known g) agrees x is r y turns.items lead
      answer_as is (WantsNames turns names) (lead, short) =
          let many : Agree (Known g) (with_names supposed names) seen = record { subjects = agrees.subjects; later = agrees.later; closed = agrees.closed; labels = agrees.labels } in
          (lead_on silent (with_names supposed names) seen (Known g) many x is r y turns.items lead, short)
      answer_as is Open answered = λ near_x near_y.
          let said = answered near_x near_y in
          record {
            enough = λ any long.
                let could = said.enough seen_sound long in
                record { turns = could.turns; lead_there = lead_on silent supposed seen (Known g) agrees x is r y could.turns could.lead_there };
            with_more = λ any names long.
                let could = said.with_more seen_sound names long in
                let many : Agree (Known g) (with_names supposed names) seen = record { subjects = agrees.subjects; later = agrees.later; closed = agrees.closed; labels = agrees.labels } in
                record { turns = could.turns; lead_there = lead_on silent (with_names supposed names) seen (Known g) many x is r y could.turns could.lead_there };
          }

      pub told_unreached_as : x < p.made → ¬ IsReachable g x → IsToldOf silent supposed x r y Unreached
      told_unreached_as made unreached =
          let below : x < g.made = let same = picture.made in omega (arith, same, made) in
          let still : ¬ IsReachable supposed x = λ reached. unreached (reached_before x reached) in
          (below, still, λ turns are y. unreached_row (λ q. ⊥) turns supposed x supposed_sound below still are y)

      pub told_as : (answer : Answer) → IsReachable g x ⊎ (p.made ≤ x) → ((h : ProtectionGraph) → IsPictureOf more h → IsAnswer silent h x r y answer) → IsToldOf silent supposed x r y (Of answer)
      told_as answer where_x of_all =
          let is : Known g x = ⊎_elim inl (λ (above : p.made ≤ x). let same = picture.made in inr (omega (arith, same, above))) where_x in
          (⊎_elim (λ reached. inl (reached_then x reached)) inr is, answer_as is answer (of_all (relabelled supposed seen) seen_by))

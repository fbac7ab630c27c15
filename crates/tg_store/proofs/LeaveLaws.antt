-- Who gives up each edge of its row, one after the other, and retires, holds nothing then, and all else is as it was.
use mathlib.Core.Bool.{true≢false}
use Rattle.std.proofs.Common.{◌≡◌, ◌≢◌, ℕ, zero, suc, ◌+◌, ◌<◌, ◌≤◌, ◌==◌, ◌&&◌, nat_lt, Bool, true, false, cond, not, ◌⊎◌, inl, inr, List, [], ◌∷◌, ◌++◌, map, refl, sym, ap, subst, ◌∙◌, arith}
use Rattle.std.specs.List.{All, Contains, filter, range_with_len}
use Rattle.std.specs.Prelude.{Option, Some, None}
use Rattle.tg_model.specs.declared.reply.Denial.{Denial}
use Rattle.tg_graph.specs.Heap.{content_of, subject_names}
use Rattle.tg_rows.specs.Content.{Content}
use Rattle.tg_graph.specs.Standing.{IsContentOf}
use Rattle.tg_rules.proofs.DecisionLaws.{answer-served}
use Rattle.tg_store.specs.Store.{StoreState, IsFaithful, IsStore, graph_of_store}
use Rattle.std.proofs.lemmas.Bool.{eqb-true, eqb-false, eq-eqb, ne_eqb, ltb-true, ltb-false}
use Rattle.tg_rights.specs.RightSet.{RightSet, no_rights, is_none_held, minus, holds_all}
use Rattle.tg_rights.proofs.RightLaws.{none_held-same}
use Rattle.tg_model.specs.declared.command.Command.TheVariants.{List as Listing, Remove, Retire}
use Rattle.tg_model.specs.declared.command.Deed.TheVariants.{Plain}
use Rattle.tg_model.specs.declared.reply.Reply.TheVariants.{Done, Edges}
use Rattle.tg_model.specs.Graph.{ProtectionGraph, IsSubject, IsSound, listing_of, without_rights, without_subject}
use Rattle.tg_model.specs.Rules.{Permits, denied_or, step}
use Rattle.tg_model.proofs.AllowedLaws.{no_denial-permits, step-allowed}
use Rattle.tg_model.proofs.SoundLaws.{command-subjects}
use Rattle.tg_journal.specs.declared.entry.Entry.{Entry}
use Rattle.tg_journal.specs.History.{IsLegal, IsLegalEntry, graph_after}
use Rattle.tg_journal.proofs.HistoryLaws.{IsLegal-push, graph_after-push}
use Rattle.tg_store.specs.Leaving.{leaving, left_by, removal, retiring}
use Rattle.tg_store.proofs.StandLaws.{IsStore-grown, graph-grown, sound_of}

-- ---- sets of rights

and_not : (held : Bool) → (held && not held) ≡ false
and_not true = refl
and_not false = refl

none_left : (s : RightSet) → minus s s ≡ no_rights
none_left s = λ i. record {
  r = and_not s.r i;
  w = and_not s.w i;
  t = and_not s.t i;
  g = and_not s.g i;
  a = and_not s.a i;
  l = and_not s.l i;
  u = and_not s.u i;
  v = and_not s.v i;
}

holds_itself : (s : RightSet) → holds_all s s ≡ true
holds_itself s = ap is_none_held (none_left s)

-- ---- one edge

abbrev with_labels : ProtectionGraph → (ℕ → ℕ → RightSet) → ProtectionGraph
with_labels g label = record g { label = label }

module _ (g : ProtectionGraph) (x y : ℕ) (subject : IsSubject g x) (apart : x ≢ y) where
  permitted : Permits g.label g.value x (Remove (g.label x y) y)
  permitted = (apart, holds_itself (g.label x y))

  pub legal_removal : IsLegalEntry g (removal x (y, g.label x y))
  legal_removal = record {
    subject = subject;
    fits = tt;
    reply = ap (λ d. denied_or d Done) (sym (no_denial-permits g.label g.value x (Remove (g.label x y) y) permitted));
  }

  pub step_removal : step g x (Plain (Remove (g.label x y) y)) ≡ with_labels g (without_rights g.label x y (g.label x y))
  step_removal = step-allowed g x (Remove (g.label x y) y) permitted

-- ---- a row

-- the edges over names from n on, of m names
abbrev row_from : (ℕ → RightSet) → ℕ → ℕ → List (ℕ × RightSet)
row_from f n m = filter (λ e. not (is_none_held e.1)) (map (λ y. (y, f y)) (range_with_len n m))

row_same : (m n : ℕ) (f h : ℕ → RightSet) → ((y : ℕ) → n ≤ y → f y ≡ h y) → row_from f n m ≡ row_from h n m
row_same zero n f h same = refl
row_same (suc m) n f h same =
    let here = same n (omega arith) in
    let rest = row_same m (n + 1) f h (λ y le. same y (omega (arith, le))) in
    λ i. cond (not (is_none_held (here i))) ((n, here i) ∷ rest i) (rest i)

-- What x held over m names from n on was given up, and nothing else.
record GivenUp (x n m : ℕ) (label after : ℕ → ℕ → RightSet) : Type 0 where
  pub others : (a b : ℕ) → a ≢ x → after a b ≡ label a b
  pub outside : (b : ℕ) → (b < n) ⊎ (n + m ≤ b) → after x b ≡ label x b
  pub inside : (b : ℕ) → n ≤ b → b < n + m → after x b ≡ no_rights

-- the same of a history from one graph to another
record GivesUp (x n m : ℕ) (g : ProtectionGraph) (es : List Entry) : Type 0 where
  pub legal : IsLegal g es
  pub label : ℕ → ℕ → RightSet
  pub graph : graph_after g es ≡ with_labels g label
  pub given_up : GivenUp x n m g.label label

cond_both_false : (v : Bool) (s r : RightSet) → cond (v && false) s r ≡ r
cond_both_false true s r = refl
cond_both_false false s r = refl

module _ (label : ℕ → ℕ → RightSet) (x n : ℕ) where
  abbrev lost : ℕ → ℕ → RightSet
  lost = without_rights label x n (label x n)

  lost_others : (a b : ℕ) → a ≢ x → lost a b ≡ label a b
  lost_others a b apart = ap (λ v. cond (v && (b == n)) (minus (label a b) (label x n)) (label a b)) (ne_eqb a x apart)

  lost_elsewhere : (b : ℕ) → b ≢ n → lost x b ≡ label x b
  lost_elsewhere b apart = ap (λ v. cond ((x == x) && v) (minus (label x b) (label x n)) (label x b)) (ne_eqb b n apart) ∙ cond_both_false (x == x) (minus (label x b) (label x n)) (label x b)

  lost_here : lost x n ≡ no_rights
  lost_here = (λ i. cond (eq-eqb x x refl i && eq-eqb n n refl i) (minus (label x n) (label x n)) (label x n)) ∙ none_left (label x n)

wider : (n m b : ℕ) → (b < n) ⊎ (n + suc m ≤ b) → (b < n + 1) ⊎ (n + 1 + m ≤ b)
wider n m b (inl low) = inl (omega arith)
wider n m b (inr high) = inr (omega arith)

apart_outside : (n m b : ℕ) → b ≡ n → (b < n) ⊎ (n + suc m ≤ b) → ⊥
apart_outside n m b e (inl low) = omega arith
apart_outside n m b e (inr high) = omega arith

-- an edge first, then the names after it
given_up_more : (x n m : ℕ) (label after : ℕ → ℕ → RightSet) → GivenUp x (n + 1) m (lost label x n) after → GivenUp x n (suc m) label after
given_up_more x n m label after given = record {
  others = λ a b apart. given.others a b apart ∙ lost_others label x n a b apart;
  outside = λ b out. given.outside b (wider n m b out) ∙ lost_elsewhere label x n b (λ e. apart_outside n m b e out);
  inside = λ b low high.
      elim (b == n) as (λ v. (b == n) ≡ v → after x b ≡ no_rights) [
        | true ↦ λ e. let here : b ≡ n = eqb-true b n e in given.outside b (inl (omega (arith, here))) ∙ ap (λ y. lost label x n x y) here ∙ lost_here label x n
        | false ↦ λ e. let apart : b ≢ n = eqb-false b n e in given.inside b (omega (arith, low, apart)) (omega (arith, high))
      ] refl;
}

-- a name over which nothing is held first
given_up_none : (x n m : ℕ) (label after : ℕ → ℕ → RightSet) → label x n ≡ no_rights → GivenUp x (n + 1) m label after → GivenUp x n (suc m) label after
given_up_none x n m label after none given = record {
  others = given.others;
  outside = λ b out. given.outside b (wider n m b out);
  inside = λ b low high.
      elim (b == n) as (λ v. (b == n) ≡ v → after x b ≡ no_rights) [
        | true ↦ λ e. let here : b ≡ n = eqb-true b n e in given.outside b (inl (omega (arith, here))) ∙ ap (λ y. label x y) here ∙ none
        | false ↦ λ e. let apart : b ≢ n = eqb-false b n e in given.inside b (omega (arith, low, apart)) (omega (arith, high))
      ] refl;
}

given_up_nothing : (x n : ℕ) (label : ℕ → ℕ → RightSet) → GivenUp x n 0 label label
given_up_nothing x n label = record {
  others = λ a b apart. refl;
  outside = λ b out. refl;
  inside = λ b low high. absurd (omega (arith, low, high));
}

-- what x gives up on the graph without an edge of its, it gives up after that edge
gives_up_more : (m n : ℕ) (g : ProtectionGraph) (x : ℕ) → IsSubject g x → x ≢ n
    → GivesUp x (n + 1) m (with_labels g (lost g.label x n)) (map (removal x) (row_from (lost g.label x n x) (n + 1) m))
    → GivesUp x n (suc m) g (removal x (n, g.label x n) ∷ map (removal x) (row_from (g.label x) (n + 1) m))
gives_up_more m n g x subject apart next =
    let next_graph : ProtectionGraph = with_labels g (lost g.label x n) in
    let row = row_same m (n + 1) (lost g.label x n x) (g.label x) (λ y le. lost_elsewhere g.label x n y (λ e. omega (arith, e, le))) in
    let rest : GivesUp x (n + 1) m next_graph (map (removal x) (row_from (g.label x) (n + 1) m)) =
    subst (λ es. GivesUp x (n + 1) m next_graph (map (removal x) es)) row next in
    let stepped = step_removal g x n subject apart in
    record {
      legal = (legal_removal g x n subject apart, subst (λ (h : ProtectionGraph). IsLegal h (map (removal x) (row_from (g.label x) (n + 1) m))) (sym stepped) rest.legal);
      label = rest.label;
      graph = ap (λ (h : ProtectionGraph). graph_after h (map (removal x) (row_from (g.label x) (n + 1) m))) stepped ∙ rest.graph;
      given_up = given_up_more x n m g.label rest.label rest.given_up;
    }

gives_up_none : (m n : ℕ) (g : ProtectionGraph) (x : ℕ) (es : List Entry) → g.label x n ≡ no_rights → GivesUp x (n + 1) m g es → GivesUp x n (suc m) g es
gives_up_none m n g x es none next = record {
  legal = next.legal;
  label = next.label;
  graph = next.graph;
  given_up = given_up_none x n m g.label next.label none next.given_up;
}

-- x gives up its edges over m names from n on, one after the other
gives_up : (m n : ℕ) (g : ProtectionGraph) (x : ℕ) → IsSubject g x → g.label x x ≡ no_rights → GivesUp x n m g (map (removal x) (row_from (g.label x) n m))
gives_up zero n g x subject loop = record { legal = tt; label = g.label; graph = refl; given_up = given_up_nothing x n g.label }
gives_up (suc m) n g x subject loop =
    let rest = row_from (g.label x) (n + 1) m in
    elim (is_none_held (g.label x n)) as (λ v. is_none_held (g.label x n) ≡ v → GivesUp x n (suc m) g (map (removal x) (cond (not v) ((n, g.label x n) ∷ rest) rest))) [
      | true ↦ λ none. gives_up_none m n g x (map (removal x) rest) (none_held-same (g.label x n) none) (gives_up m (n + 1) g x subject loop)
      | false ↦ λ held.
          let apart : x ≢ n = λ same. true≢false (sym (ap is_none_held (ap (λ y. g.label x y) (sym same) ∙ loop)) ∙ held) in
          gives_up_more m n g x subject apart (gives_up m (n + 1) (with_labels g (lost g.label x n)) x subject (lost_elsewhere g.label x n x apart ∙ loop))
    ] refl

-- ---- all of it

module _ (g : ProtectionGraph) (x : ℕ) (sound : IsSound g) (subject : IsSubject g x) where
  abbrev removals : List Entry
  removals = map (removal x) (listing_of g.label g.made x)

  given : GivesUp x 0 g.made g removals
  given = gives_up g.made 0 g x subject (sound.no_loop x)

  past_made : (b : ℕ) → g.made ≤ b → g.label x b ≡ no_rights
  past_made b past =
      elim (is_none_held (g.label x b)) as (λ v. is_none_held (g.label x b) ≡ v → g.label x b ≡ no_rights) [
        | true ↦ λ none. none_held-same (g.label x b) none
        | false ↦ λ held. absurd (omega (arith, past, (sound.ends_made x b held).1))
      ] refl

  row_empty : (b : ℕ) → given.label x b ≡ no_rights
  row_empty b =
      elim (nat_lt b g.made) as (λ v. nat_lt b g.made ≡ v → given.label x b ≡ no_rights) [
        | true ↦ λ low. let below : b < g.made = ltb-true b g.made low in given.given_up.inside b (omega arith) (omega (arith, below))
        | false ↦ λ high. let past : g.made ≤ b = ltb-false b g.made high in given.given_up.outside b (inr (omega (arith, past))) ∙ past_made b past
      ] refl

  labels_left : (a b : ℕ) → given.label a b ≡ cond (a == x) no_rights (g.label a b)
  labels_left a b =
      elim (a == x) as (λ v. (a == x) ≡ v → given.label a b ≡ cond v no_rights (g.label a b)) [
        | true ↦ λ e. ap (λ y. given.label y b) (eqb-true a x e) ∙ row_empty b
        | false ↦ λ e. given.given_up.others a b (eqb-false a x e)
      ] refl

  removed : graph_after g removals ≡ with_labels g (λ a b. cond (a == x) no_rights (g.label a b))
  removed = given.graph ∙ (λ i. with_labels g (λ a b. labels_left a b i))

  pub legal_removals : IsLegal g removals
  legal_removals = given.legal

  pub legal_leaving : IsLegal g (leaving g x)
  legal_leaving = IsLegal-push g removals (retiring x) given.legal (record {
    subject = subst (λ (h : ProtectionGraph). IsSubject h x) (sym removed) subject;
    fits = tt;
    reply = refl;
  })

  pub graph_left : graph_after g (leaving g x) ≡ left_by g x
  graph_left = graph_after-push g removals (retiring x) ∙ ap (λ (h : ProtectionGraph). step h x (Plain Retire)) removed

-- ---- on the heap

-- the row that the heap lists is the graph's
pub listed : (c : Content) (g : ProtectionGraph) (x w : ℕ) (row : List (ℕ × RightSet)) → IsContentOf c g → IsSubject g w → x ≡ w
    → ((n : ℕ) → All (λ name. name < n) c.names → row ≡ listing_of c.label n x) → row ≡ listing_of g.label g.made w
listed c g x w row stands subject named is =
    let told : Edges (listing_of g.label g.made w) ≡ Edges row = answer-served c g stands w Listing subject (Edges row) refl
    (λ n below. ap (λ (es : List (ℕ × RightSet)). Edges es) (is n below ∙ ap (λ y. listing_of c.label n y) named)) in
    cc told

-- what is answered that it is done isn't denied
pub served : (o : Option Denial) → Done ≡ denied_or o Done → o ≡ None
served None e = refl
served (Some denial) e = let no : ⊥ = cc e in absurd no

same_subjects : (row : List (ℕ × RightSet)) (g : ProtectionGraph) (x : ℕ) → (graph_after g (map (removal x) row)).subjects ≡ g.subjects
same_subjects [] g x = refl
same_subjects (e ∷ row) g x =
    same_subjects row (step g x (Plain (Remove e.1 e.0))) x ∙ command-subjects g x (Remove e.1 e.0) (λ is. let no : ⊥ = cc is in no)

-- who gives up edges stays a subject
pub still_subject : (g : ProtectionGraph) (x : ℕ) (row : List (ℕ × RightSet)) → IsSubject g x → IsSubject (graph_after g (map (removal x) row)) x
still_subject g x row subject = subst (λ (subjects : List ℕ). Contains subjects x) (sym (same_subjects row g x)) subject

-- ---- the store

module _ (old new : StoreState) (x : ℕ) (faithful : IsFaithful old) (subject : IsSubject (graph_of_store old) x)
    (opening : new.opening ≡ old.opening) (entries : new.entries ≡ old.entries ++ leaving (graph_of_store old) x) where
  abbrev graph : ProtectionGraph
  graph = graph_of_store old

  pub sound_before : IsSound graph
  sound_before = sound_of old faithful

  pub graph_of_left : graph_of_store new ≡ left_by graph x
  graph_of_left = graph-grown old new (leaving graph x) opening entries ∙ graph_left graph x sound_before subject

  pub IsStore-left : (made : ℕ) → made ≡ graph.made
      → IsContentOf (content_of new.heap) (step (graph_after graph (map (removal x) (listing_of graph.label graph.made x))) x (Plain Retire))
      → subject_names new.heap ≡ without_subject (subject_names old.heap) x → IsStore new made
  IsStore-left made is_made stands names =
      let left = graph_left graph x sound_before subject in
      IsStore-grown old new (leaving graph x) opening entries made faithful (legal_leaving graph x sound_before subject)
      (subst (IsContentOf (content_of new.heap)) (sym (graph_after-push graph (map (removal x) (listing_of graph.label graph.made x)) (retiring x))) stands)
      (names ∙ ap (λ (subjects : List ℕ). without_subject subjects x) faithful.subjects ∙ ap (λ (h : ProtectionGraph). h.subjects) (sym left))
      (is_made ∙ ap (λ (h : ProtectionGraph). h.made) (sym left))

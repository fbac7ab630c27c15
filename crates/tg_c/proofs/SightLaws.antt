-- Names of whom a picture shows, and what a view shows by them.
use Rattle.std.proofs.Common.{◌≡◌, ◌↔◌, ◌⊎◌, inl, inr, ⊎_elim, ℕ, ◌+◌, ◌<◌, ◌≤◌, ◌==◌, ◌&&◌, nat_eq, Bool, true, false, cond, List, [], ◌∷◌, ◌++◌, Option, Some, None, IfSome, Ok, get_or, length, refl, take, sym, ap, ◌∙◌, subst, arith, eq-eqb}
use Rattle.std.specs.List.{All, Contains, list_any}
use Rattle.std.proofs.lemmas.Bool.{and_parts, cases_Bool, cases_eq, cases_lt, eqb-true, ne_eqb, false≢true}
use Rattle.std.proofs.lemmas.List.{take_all, take_more}
use Rattle.std.proofs.lemmas.List.Elements.{All-cons, All-head, All-tail, Contains-append_left, Contains-push, Contains-push_cases}
use Rattle.tg_model.specs.declared.edge.Edge.{Edge}
use Rattle.tg_model.specs.Graph.{ProtectionGraph, HasEdge, IsReachable, IsSound}
use Rattle.tg_model.specs.Opened.{label_in}
use Rattle.tg_model.specs.Picture.{Shown, IsPictureOf}
use Rattle.tg_model.proofs.PictureLaws.{or_true}
use Rattle.indexmap.specs.IndexSet.{contains}
use Rattle.tg_model.specs.Walks.{Walk-within}
use Rattle.tg_rights.specs.declared.Right.{Right}
use Rattle.tg_rights.specs.RightSet.{RightSet, has, is_none_held, union}
use Rattle.tg_rights.proofs.RightLaws.{has-union, some_union, union_assoc}
use Rattle.tg_could.specs.Reached.{IsLedTo, IsReachedPicture, JoinReached, JoinsMade, JoinsReached, with_edges}
use Rattle.tg_could.specs.Turns.{NeverHolds}
use Rattle.tg_could.specs.View.{FollowsEdge, IsViewAfter, IsViewOf, IsViewStill, shown_with}
use Rattle.tg_could.proofs.ReachedLaws.{Agree, Known, never_on, reached_shown, relabelled, shown_reached}
use Rattle.tg_c.specs.View.{AreShown, SightFollows, IsShownIn, IsSightOf, JoinsSeen, is_seen}
use Rattle.tg_c.specs.declared.view.sight.ReachedView.{ReachedView}
use Rattle.tg_c.specs.declared.view.sight.Sight.{Sight}
use Rattle.tg_could.proofs.AsIfLaws.{agrees, held_edge, label_in-append, more, reached_before, reached_then, seen, seen_by, supposed_sound}

-- a list has exactly these names
abbrev pub AreOn : (ℕ → Type 0) → List ℕ → Type 0
AreOn these names = (x : ℕ) → (list_any (nat_eq x) names ≡ true) ↔ these x

-- it has one name more
abbrev pub HasMore : List ℕ → List ℕ → ℕ → Type 0
HasMore names new name = (x : ℕ) → list_any (nat_eq x) new ≡ cond (nat_eq name x) true (list_any (nat_eq x) names)

one_more : (these those : ℕ → Type 0) (names new : List ℕ) (name : ℕ) → AreOn these names → ((x : ℕ) → those x ↔ (these x ⊎ (x ≡ name))) → HasMore names new name → AreOn those new
one_more these those names new name on same has x = by_test (cases_eq x name)
  where
    by_test : (x ≡ name) ⊎ (x ≡ name → ⊥) → (list_any (nat_eq x) new ≡ true) ↔ those x
    by_test (inl here) = (
      λ _. (same x).1 (inr here),
      λ _. has x ∙ ap (λ (b : Bool). cond b true (list_any (nat_eq x) names)) (eq-eqb name x (sym here)),
    )
    by_test (inr other) =
        let kept : list_any (nat_eq x) new ≡ list_any (nat_eq x) names =
        has x ∙ ap (λ (b : Bool). cond b true (list_any (nat_eq x) names)) (ne_eqb name x (λ at. other (sym at))) in (
          λ t. (same x).1 (inl ((on x).0 (sym kept ∙ t))),
          λ is. ⊎_elim (λ was. kept ∙ (on x).1 was) (λ here. absurd (other here)) ((same x).0 is),
        )

-- the same names
same_on : (these those : ℕ → Type 0) (names : List ℕ) → AreOn these names → ((x : ℕ) → these x ↔ those x) → AreOn those names
same_on these those names on same x = (λ t. (same x).0 ((on x).0 t), λ is. (on x).1 ((same x).1 is))

-- no name yet
pub none_on : (names : List ℕ) → names ≡ [] → AreOn (λ x. Contains [] x) names
none_on names none x = (
  λ t. absurd (false≢true (sym (ap (list_any (nat_eq x)) none) ∙ t)),
  λ has. let low = has.1 in absurd (omega arith),
)

-- one subject more, or one edge more
pub subjects_more : (names : List ℕ) (i : ℕ) (old new : List ℕ) → i < length names → AreOn (λ x. Contains (take i names) x) old → HasMore old new (get_or names i 0)
    → AreOn (λ x. Contains (take (i + 1) names) x) new
subjects_more names i old new low on has =
    let name : ℕ = get_or names i 0 in
    let grown : take (i + 1) names ≡ take i names ++ name ∷ [] = take_more names i 0 low in
    one_more (λ x. Contains (take i names) x) (λ x. Contains (take (i + 1) names) x) old new name on
    (λ x. (
      λ there. ⊎_elim inl (λ (here : name ≡ x). inr (sym here)) (Contains-push_cases (take i names) name x (subst (λ (ns : List ℕ). Contains ns x) grown there)),
      λ there. subst (λ (ns : List ℕ). Contains ns x) (sym grown)
          (⊎_elim (λ was. Contains-append_left (take i names) (name ∷ []) x was)
          (λ (here : x ≡ name). subst (Contains (take i names ++ name ∷ [])) (sym here) (Contains-push (take i names) name)) there),
    ))
    has

-- whom a picture shows, as far as these edges go
abbrev ShownBy : List ℕ → List Edge → ℕ → Type 0
ShownBy names edges x = Contains names x ⊎ IsLedTo edges x

led_more : (edges : List Edge) (edge : Edge) (x : ℕ) → IsLedTo edges x → IsLedTo (edges ++ edge ∷ []) x
led_more edges edge x led = record { edge = led.edge; there = Contains-append_left edges (edge ∷ []) led.edge led.there; leads = led.leads }

led_cases : (edges : List Edge) (edge : Edge) (x : ℕ) → IsLedTo (edges ++ edge ∷ []) x → IsLedTo edges x ⊎ (x ≡ edge.to)
led_cases edges edge x led =
    ⊎_elim (λ was. inl (record { edge = led.edge; there = was; leads = led.leads }))
    (λ (here : edge ≡ led.edge). inr (sym led.leads ∙ ap (λ (e : Edge). e.to) (sym here)))
    (Contains-push_cases edges edge led.edge led.there)

pub edges_more : (names : List ℕ) (edges : List Edge) (i : ℕ) (edge : Edge) (old new : List ℕ) → i < length edges → edge ≡ get_or edges i edge
    → AreOn (ShownBy names (take i edges)) old → HasMore old new edge.to → AreOn (ShownBy names (take (i + 1) edges)) new
edges_more names edges i edge old new low at on has =
    let grown : take (i + 1) edges ≡ take i edges ++ edge ∷ [] = take_more edges i edge low ∙ ap (λ (e : Edge). take i edges ++ e ∷ []) (sym at) in
    one_more (ShownBy names (take i edges)) (ShownBy names (take (i + 1) edges)) old new edge.to on
    (λ x. (
      λ shown. ⊎_elim (λ there. inl (inl there)) (λ led. ⊎_elim (λ was. inl (inr was)) inr (led_cases (take i edges) edge x (subst (λ (es : List Edge). IsLedTo es x) grown led))) shown,
      λ shown. ⊎_elim
          (λ was. ⊎_elim inl (λ led. inr (subst (λ (es : List Edge). IsLedTo es x) (sym grown) (led_more (take i edges) edge x led))) was)
          (λ (here : x ≡ edge.to). inr (subst (λ (es : List Edge). IsLedTo es x) (sym grown) (record { edge = edge; there = Contains-push (take i edges) edge; leads = sym here })))
          shown,
    ))
    has

-- all subjects, and no edge yet
pub edges_none : (names : List ℕ) (i : ℕ) (old : List ℕ) → length names ≤ i → AreOn (λ x. Contains (take i names) x) old → AreOn (ShownBy names []) old
edges_none names i old past on =
    same_on (λ x. Contains (take i names) x) (ShownBy names []) old on
    (λ x. (
      λ has. inl (subst (λ (ns : List ℕ). Contains ns x) (take_all i names past) has),
      λ shown. ⊎_elim (λ has. subst (λ (ns : List ℕ). Contains ns x) (sym (take_all i names past)) has) (λ led. let low = led.there.1 in absurd (omega arith)) shown,
    ))

-- all edges too
pub all_shown : (p : Shown) (i : ℕ) (old : List ℕ) → length p.edges ≤ i → AreOn (ShownBy p.subjects (take i p.edges)) old → AreShown p old
all_shown p i old past on x = subst (λ (es : List Edge). (list_any (nat_eq x) old ≡ true) ↔ ShownBy p.subjects es x) (take_all i p.edges past) (on x)

-- a list of no items
pub none_there : (xs : List ℕ) → (length xs == 0) ≡ true → xs ≡ []
none_there [] t = refl
none_there (x ∷ xs) t = let is = eqb-true (length (x ∷ xs)) 0 t in absurd (omega (arith, is))

-- ---- a view

-- where no subject is active nothing comes about
no_reach : (g : ProtectionGraph) → g.subjects ≡ [] → (x : ℕ) → IsReachable g x → ⊥
no_reach g none =
    Walk-within (λ x. ⊥)
    (λ q is. let low = (subst (λ (names : List ℕ). Contains names q) none is).1 in omega arith)
    (λ a b no edge. no)

-- what holds of both ends of each of these edges
joined : (P : ℕ → ℕ → Type 0) (es : List Edge) → All (λ e. P e.from e.to) es → (a b : ℕ) → HasEdge (label_in es) a b → P a b
joined P [] all a b edge = absurd (cc edge)
joined P (e ∷ es) all a b edge = by_test (joined P es (All-tail (λ e. P e.from e.to) e es all) a b) (cases_Bool ((a == e.from) && (b == e.to)))
  where
    by_test : (HasEdge (label_in es) a b → P a b) → (((a == e.from) && (b == e.to)) ≡ true) ⊎ (((a == e.from) && (b == e.to)) ≡ false) → P a b
    by_test rest (inl t) =
        let ends = and_parts (a == e.from) (b == e.to) t in
        subst (λ y. P a y) (sym (eqb-true b e.to ends.1)) (subst (λ x. P x e.to) (sym (eqb-true a e.from ends.0)) (All-head (λ e. P e.from e.to) e es all))
    by_test rest (inr f) = rest (sym (ap (λ t. is_none_held (cond t (union e.label (label_in es a b)) (label_in es a b))) f) ∙ edge)

-- labels that agree do so with more edges, each between two vertices that are reached
agree_with : (known : ℕ → Type 0) (g : ProtectionGraph) (label : ℕ → ℕ → RightSet) → Agree known g label → ((x : ℕ) → IsReachable g x → known x)
    → (es : List Edge) → JoinReached g es → Agree known (with_edges g es) (λ a b. union (label a b) (label_in es a b))
agree_with known g label agree reached es all = record {
  subjects = agree.subjects;
  later = agree.later;
  closed = λ a b is edge. ⊎_elim (λ old. agree.closed a b is old) (λ new. reached b (joined (λ x y. IsReachable g y) es (λ k d inside. (all k d inside).to) a b new)) (some_union (g.label a b) (label_in es a b) edge);
  labels = λ a b is. ap (λ s. union s (label_in es a b)) (agree.labels a b is);
}

module _ (g : ProtectionGraph) (sound : IsSound g) (es : List Edge) (all : JoinReached g es) (p : Shown) (picture : IsReachedPicture p g) (silent : List ℕ) (sight : Sight) (made : sight.made ≡ p.made) where
  sight_by : IfSome sight.seen (λ seen. IsViewOf silent (more g sound es all p picture) seen.view) → (sight.seen ≡ None → g.subjects ≡ []) → ((x : ℕ) → (is_seen sight.seen x ≡ true) ↔ IsShownIn p x) → IsSightOf silent (with_edges g es) sight
  sight_by view nobody shown = record {
    sound = supposed_sound g sound es all;
    shown = more g sound es all p picture;
    other = relabelled (with_edges g es) (seen g sound es all p picture);
    view = view;
    nobody = nobody;
    picture = seen_by g sound es all p picture;
    back = λ x r y known never.
        never_on silent (with_edges g es) (seen g sound es all p picture) (Known g) (agrees g sound es all p picture) x
        (⊎_elim (λ reached. inl (reached_before g sound es all x reached)) inr known) r y never;
    back_with = λ edges joins x r y known never.
        never_on silent (with_edges (with_edges g es) edges) (λ a b. union (seen g sound es all p picture a b) (label_in edges a b)) (Known g)
        (agree_with (Known g) (with_edges g es) (seen g sound es all p picture) (agrees g sound es all p picture) (λ z reached. inl (reached_before g sound es all z reached)) edges joins)
        x (⊎_elim (λ reached. inl (reached_before g sound es all x reached)) inr known) r y never;
    made = made ∙ sym picture.made;
    reached = λ x. (
      λ t. reached_then g sound es all x (shown_reached p g picture x ((shown x).0 t)),
      λ reached. (shown x).1 (reached_shown p g picture x (reached_before g sound es all x reached)),
    );
  }

  pub sight_on : (s : ReachedView) → sight.seen ≡ Some s → AreShown p s.reached.keys → IsViewOf silent (more g sound es all p picture) s.view → IsSightOf silent (with_edges g es) sight
  sight_on s is shown view =
      sight_by (subst (λ (o : Option ReachedView). IfSome o (λ seen. IsViewOf silent (more g sound es all p picture) seen.view)) (sym is) view) (λ none. absurd (cc (is, none)))
      (λ x. subst (λ (o : Option ReachedView). (is_seen o x ≡ true) ↔ IsShownIn p x) (sym is) (shown x))

  pub sight_of_nobody : sight.seen ≡ None → p.subjects ≡ [] → IsSightOf silent (with_edges g es) sight
  sight_of_nobody is none =
      let nobody : g.subjects ≡ [] = picture.subjects ∙ none in
      sight_by (subst (λ (o : Option ReachedView). IfSome o (λ seen. IsViewOf silent (more g sound es all p picture) seen.view)) (sym is) tt) (λ _. nobody)
      (λ x. (
        λ t. absurd (false≢true (sym (ap (λ (o : Option ReachedView). is_seen o x) is) ∙ t)),
        λ shown. absurd (no_reach g nobody x (shown_reached p g picture x shown)),
      ))

pub never_by_nobody : (silent : List ℕ) (g : ProtectionGraph) → IsSound g → g.subjects ≡ [] → (x : ℕ) → IsReachable g x ⊎ (g.made ≤ x) → (r : Right) (y : ℕ) → NeverHolds silent g x r y
never_by_nobody silent g sound none x known r y [] are held =
    ⊎_elim (λ reached. no_reach g none x reached) (λ (above : g.made ≤ x). let low = (sound.ends_made x y (held_edge (g.label x y) r held)).0 in omega (arith, above, low)) known
never_by_nobody silent g sound none x known r y (turn ∷ turns) are held =
    let low = (subst (λ (names : List ℕ). Contains names turn.0) none are.0.0).1 in absurd (omega arith)

-- who isn't told as unreached is reached, or isn't made yet
pub known_by : (silent : List ℕ) (g : ProtectionGraph) (sight : Sight) → IsSightOf silent g sight → (x : ℕ) → ¬ ((x < sight.made) × (is_seen sight.seen x ≡ false)) → IsReachable g x ⊎ (g.made ≤ x)
known_by silent g sight is x known =
    ⊎_elim
    (λ (low : x < g.made). ⊎_elim (λ t. inl ((is.reached x).0 t)) (λ f. absurd (known (let same = is.made in omega (arith, same, low), f))) (cases_Bool (is_seen sight.seen x)))
    inr
    (cases_lt x g.made)

-- ---- supposed edges

-- edges between vertices that were seen join vertices that are reached, and the other way round
module _ (silent : List ℕ) (g : ProtectionGraph) (sight : Sight) (is : IsSightOf silent g sight) (edges : List Edge) where
  pub joined_seen : All (JoinsSeen sight.seen) edges → JoinReached g edges
  joined_seen all k d inside =
      let one = all k d inside in
      record { from = (is.reached (get_or edges k d).from).0 one.from; to = (is.reached (get_or edges k d).to).0 one.to; differ = one.differ }

  pub seen_joined : JoinReached g edges → All (JoinsSeen sight.seen) edges
  seen_joined all k d inside =
      let one = all k d inside in
      record { from = (is.reached (get_or edges k d).from).1 one.from; to = (is.reached (get_or edges k d).to).1 one.to; differ = one.differ }

-- ---- an edge that a view follows

-- an edge more, and then others, are all of them
two_steps : (h : ProtectionGraph) (e : Edge) (es : List Edge) → with_edges (with_edges h (e ∷ [])) es ≡ with_edges h (e ∷ es)
two_steps h e es = λ i. relabelled h (λ a b. same a b i)
  where
    same : (a b : ℕ) → union (union (h.label a b) (label_in (e ∷ []) a b)) (label_in es a b) ≡ union (h.label a b) (label_in (e ∷ es) a b)
    same a b = union_assoc (h.label a b) (label_in (e ∷ []) a b) (label_in es a b) ∙ ap (union (h.label a b)) (sym (label_in-append (e ∷ []) es a b))

module _ (silent : List ℕ) (g : ProtectionGraph) (old : Sight) (is : IsSightOf silent g old) (new : Sight) (s t : ReachedView) (was : old.seen ≡ Some s) (now : new.seen ≡ Some t)
    (made : new.made ≡ old.made) (keys : t.reached ≡ s.reached) where
  same_seen : (x : ℕ) → is_seen new.seen x ≡ is_seen old.seen x
  same_seen x = ap (λ o. is_seen o x) now ∙ ap (λ names. contains nat_eq names x) keys ∙ sym (ap (λ o. is_seen o x) was)

  viewed : IsViewOf silent is.shown s.view
  viewed = subst (λ (o : Option ReachedView). IfSome o (λ seen. IsViewOf silent is.shown seen.view)) was is.view

  -- the view of the same picture
  pub sight_still : IsViewStill s.view t.view → IsSightOf silent g new
  sight_still still = record {
    sound = is.sound;
    shown = is.shown;
    other = is.other;
    view = subst (λ (o : Option ReachedView). IfSome o (λ seen. IsViewOf silent is.shown seen.view)) (sym now) (still silent is.shown viewed);
    nobody = λ none. absurd (cc (now, none));
    picture = is.picture;
    back = is.back;
    back_with = is.back_with;
    made = made ∙ is.made;
    reached = λ x. (λ shown. (is.reached x).0 (sym (same_seen x) ∙ shown), λ reached. same_seen x ∙ (is.reached x).1 reached);
  }

  module _ (e : Edge) (joins : JoinsReached g e) where
    one : JoinReached g (e ∷ [])
    one = All-cons (JoinsReached g) e [] joins (λ k d inside. absurd (omega (arith, inside)))

    abbrev then : ProtectionGraph
    then = with_edges g (e ∷ [])

    known_before : (x : ℕ) → IsReachable then x ⊎ (g.made ≤ x) → IsReachable g x ⊎ (g.made ≤ x)
    known_before x known = ⊎_elim (λ reached. inl (reached_before g is.sound (e ∷ []) one x reached)) inr known

    joins_before : (es : List Edge) → JoinReached then es → JoinReached g (e ∷ es)
    joins_before es all =
        All-cons (JoinsReached g) e es joins (λ k d inside.
        let own = all k d inside in
        record {
          from = reached_before g is.sound (e ∷ []) one (get_or es k d).from own.from;
          to = reached_before g is.sound (e ∷ []) one (get_or es k d).to own.to;
          differ = own.differ;
        })

    pictured_then : JoinsMade is.shown.made e → IsPictureOf (shown_with is.shown (e ∷ [])) (with_edges is.other (e ∷ []))
    pictured_then ends = record {
      is_made = record {
        subjects = is.picture.is_made.subjects;
        ends = λ a b q h. ⊎_elim
            (λ before. is.picture.is_made.ends a b q before)
            (λ more. subst (λ n. (a < n) × (b < n)) (sym is.picture.made)
            (joined (λ x y. (x < is.shown.made) × (y < is.shown.made)) (e ∷ [])
            (All-cons (λ (l : Edge). (l.from < is.shown.made) × (l.to < is.shown.made)) e [] ends (λ k d inside. absurd (omega (arith, inside)))) a b
            (held_edge (label_in (e ∷ []) a b) q more)))
            (or_true (has (is.other.label a b) q) (has (label_in (e ∷ []) a b) q) (sym (has-union (is.other.label a b) (label_in (e ∷ []) a b) q) ∙ h));
      };
      subjects = is.picture.subjects;
      made = is.picture.made;
      limit = is.picture.limit;
      labels = λ a b. ap (λ l. union l (label_in (e ∷ []) a b)) (is.picture.labels a b) ∙ sym (label_in-append is.shown.edges (e ∷ []) a b);
    }

    -- the view of the picture with the edge
    pub sight_after : IsViewAfter s.view e t.view → IsSightOf silent then new
    sight_after after =
        let gone = after silent is.shown viewed in
        record {
          sound = supposed_sound g is.sound (e ∷ []) one;
          shown = shown_with is.shown (e ∷ []);
          other = with_edges is.other (e ∷ []);
          view = subst (λ (o : Option ReachedView). IfSome o (λ seen. IsViewOf silent (shown_with is.shown (e ∷ [])) seen.view)) (sym now) gone.1;
          nobody = λ none. absurd (cc (now, none));
          picture = pictured_then gone.0;
          back = λ x r y known never. is.back_with (e ∷ []) one x r y (known_before x known) never;
          back_with = λ es all x r y known never.
              subst (λ (h : ProtectionGraph). NeverHolds silent h x r y) (sym (two_steps g e es))
              (is.back_with (e ∷ es) (joins_before es all) x r y (known_before x known)
              (subst (λ (h : ProtectionGraph). NeverHolds silent h x r y) (two_steps is.other e es) never));
          made = made ∙ is.made;
          reached = λ x. (
            λ shown. reached_then g is.sound (e ∷ []) one x ((is.reached x).0 (sym (same_seen x) ∙ shown)),
            λ reached. same_seen x ∙ (is.reached x).1 (reached_before g is.sound (e ∷ []) one x reached),
          );
        }

pub one_joined : (silent : List ℕ) (g : ProtectionGraph) (sight : Sight) → IsSightOf silent g sight → (e : Edge) → JoinsSeen sight.seen e → JoinsReached g e
one_joined silent g sight is e both = record { from = (is.reached e.from).0 both.from; to = (is.reached e.to).0 both.to; differ = both.differ }

-- the view went on with the edge, or not
pub sight_follows : (old new : Sight) (s t : ReachedView) (e : Edge) (followed : Bool) → old.seen ≡ Some s → new.seen ≡ Some t → new.made ≡ old.made → t.reached ≡ s.reached
    → JoinsSeen old.seen e → FollowsEdge s.view e (Ok followed) t.view → SightFollows old e new followed
sight_follows old new s t e true was now made keys both follows = λ silent g is.
    let joins = one_joined silent g old is e both in
    (joins, sight_after silent g old is new s t was now made keys e joins follows.1)
sight_follows old new s t e false was now made keys both follows = λ silent g is.
    (one_joined silent g old is e both, sight_still silent g old is new s t was now made keys follows)

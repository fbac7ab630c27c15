-- A take, a grant and a remove in a row add one edge, and each of them is allowed where it is asked for.
use Rattle.std.proofs.Common.{◌≡◌, ◌≢◌, ◌∙◌, ℕ, ◌==◌, ◌&&◌, ◌||◌, Bool, true, false, not, cond, List, [], ◌∷◌, ◌++◌, refl, sym, ap, subst}
use Rattle.std.specs.Prelude.{Option, Some, None}
use Rattle.std.specs.Option.{option_or}
use Rattle.std.proofs.lemmas.Bool.{and_parts, eqb-true, eq-eqb, ne_eqb}
use Rattle.tg_rights.specs.RightSet.{RightSet, holds_all, is_none_held, label_of, minus, no_rights, only, union}
use Rattle.tg_rights.specs.declared.Right.TheVariants as right
use Rattle.tg_rights.proofs.RightLaws.{holds_all-union, minus-no_rights, none_held-same}
use Rattle.tg_model.specs.declared.command.Command.{Command}
use Rattle.tg_model.specs.declared.command.Command.TheVariants.{Grant, Remove}
use Rattle.tg_model.specs.declared.command.Deed.TheVariants.{Plain}
use Rattle.tg_model.specs.declared.reply.Denial.{Denial}
use Rattle.tg_model.specs.declared.reply.Reply.TheVariants as reply
use Rattle.tg_model.specs.Graph.{ProtectionGraph, IsSubject, with_rights, without_rights}
use Rattle.tg_model.specs.Rules.{Permits, denial_of, denied_or, reply_of, step}
use Rattle.tg_model.specs.Walks.{begins}
use Rattle.tg_model.proofs.AllowedLaws.{answer-denied, no_denial-permits, permits-no_denial, step-allowed, step-denied}
use Rattle.tg_journal.specs.declared.entry.Entry.{Entry}
use Rattle.tg_journal.specs.History.{IsLegal, IsLegalEntry, graph_after}
use Rattle.tg_journal.specs.Journal.{Entries}
use Rattle.tg_rows.specs.Content.{Content}
use Rattle.tg_graph.specs.Heap.{HeapState, content_of, subject_names}
use Rattle.tg_graph.specs.Standing.{IsContentOf}
use Rattle.tg_graph.proofs.StandingLaws.{IsSameContent-self, StandsFor-served, denial_of-stands}
use Rattle.tg_store.specs.declared.handing.Hand.{Hand}
use Rattle.tg_store.specs.declared.handing.Handed.{Handed}
use Rattle.tg_store.specs.declared.handing.Handed.TheVariants.{Done, Denied}
use Rattle.tg_store.specs.Handing.{ComesOfHand, IsHandDenied, IsHandedOn, MayHand, denied_as, denied_in_hand, done_by, entries_of_hand, giving_back, grant_of, handed_on, lent, take_of}
use Rattle.tg_store.specs.Inner.Handing.{HandsOnHeap, IsContentHanded, IsDeniedOn, IsDeniedOnHeap, IsDoneOnHeap}
use Rattle.tg_store.specs.Store.{StoreState, Enters, IsFaithful, IsStore, graph_of_store}
use Rattle.tg_store.proofs.StandLaws.{IsStore-entered, IsStore-grown, graph-entered, graph-grown}

-- ---- sets of rights

back : (a b : Bool) → ((a || b) && not (b && not a)) ≡ a
back true true = refl
back true false = refl
back false true = refl
back false false = refl

within : (a b : Bool) → ((b && not a) && not (a || b)) ≡ false
within true true = refl
within true false = refl
within false true = refl
within false false = refl

-- who gives back what was lent holds what it held
lent_back : (l r : RightSet) → minus (union l r) (minus r l) ≡ l
lent_back l r = λ i. record {
  r = back l.r r.r i;
  w = back l.w r.w i;
  t = back l.t r.t i;
  g = back l.g r.g i;
  a = back l.a r.a i;
  l = back l.l r.l i;
  u = back l.u r.u i;
  v = back l.v r.v i;
}

none_beyond : (l r : RightSet) → minus (minus r l) (union l r) ≡ no_rights
none_beyond l r = λ i. record {
  r = within l.r r.r i;
  w = within l.w r.w i;
  t = within l.t r.t i;
  g = within l.g r.g i;
  a = within l.a r.a i;
  l = within l.l r.l i;
  u = within l.u r.u i;
  v = within l.v r.v i;
}

-- and holds what it gives back
holds_lent : (l r : RightSet) → holds_all (union l r) (minus r l) ≡ true
holds_lent l r = ap is_none_held (none_beyond l r)

-- ---- labels

module _ (label : ℕ → ℕ → RightSet) (x y z : ℕ) (r : RightSet) where
  abbrev taken : ℕ → ℕ → RightSet
  taken = with_rights label x z r

  abbrev granted : ℕ → ℕ → RightSet
  granted = with_rights taken y z r

  abbrev joined : ℕ → ℕ → RightSet
  joined = with_rights label y z r

  -- what is taken over the target is on no edge to another vertex
  pub at_receiver : y ≢ z → taken x y ≡ label x y
  at_receiver other = λ i. cond (eq-eqb x x refl i && ne_eqb y z other i) (union (label x y) r) (label x y)

  -- what the taker holds over the target once it took
  pub taken_at_target : taken x z ≡ union (label x z) r
  taken_at_target = λ i. cond (eq-eqb x x refl i && eq-eqb z z refl i) (union (label x z) r) (label x z)

  module _ (apart : x ≢ y) where
    not_receiver : (a b : ℕ) → a ≡ x → ((a == y) && (b == z)) ≡ false
    not_receiver a b same = ap (λ v. v && (b == z)) (ne_eqb a y (λ is. apart (sym same ∙ is)))

    -- the same once it granted
    pub at_target : granted x z ≡ union (label x z) r
    at_target = ap (λ v. cond v (union (taken x z) r) (taken x z)) (not_receiver x z refl) ∙ taken_at_target

    -- when it gave back what was lent, all but the receiver's edge is as it was
    pub given_back : (l : RightSet) → l ≡ label x z → (a b : ℕ) → without_rights granted x z (minus r l) a b ≡ joined a b
    given_back l held a b =
        let s = minus r l in
        let t = label a b in
        elim ((a == x) && (b == z)) as (λ v. ((a == x) && (b == z)) ≡ v →
        cond v (minus (cond ((a == y) && (b == z)) (union (cond v (union t r) t) r) (cond v (union t r) t)) s)
        (cond ((a == y) && (b == z)) (union (cond v (union t r) t) r) (cond v (union t r) t))
        ≡ cond ((a == y) && (b == z)) (union t r) t) [
          | true ↦ λ e.
              let both = and_parts (a == x) (b == z) e in
              let from : a ≡ x = eqb-true a x both.0 in
              let to : b ≡ z = eqb-true b z both.1 in
              let same : l ≡ t = held ∙ (λ i. label (sym from i) (sym to i)) in
              let other = not_receiver a b from in
              ap (λ v. minus (cond v (union (union t r) r) (union t r)) s) other
              ∙ ap (λ (k : RightSet). minus (union t r) (minus r k)) same
              ∙ lent_back t r
              ∙ sym (ap (λ v. cond v (union t r) t) other)
          | false ↦ λ e. refl
        ] refl

    -- the same where nothing was lent, so that nothing is given back
    pub none_given_back : (l : RightSet) → l ≡ label x z → is_none_held (minus r l) ≡ true → (a b : ℕ) → granted a b ≡ joined a b
    none_given_back l held none a b =
        let unchanged : (v : Bool) (k : RightSet) → k ≡ cond v (minus k (minus r l)) k = λ v k.
        elim v as (λ v. k ≡ cond v (minus k (minus r l)) k) [
          | true ↦ sym (minus-no_rights k) ∙ ap (λ (s : RightSet). minus k s) (sym (none_held-same (minus r l) none))
          | false ↦ refl
        ] in
        unchanged ((a == x) && (b == z)) (granted a b) ∙ given_back l held a b

-- ---- two checks, one after another

some_or : (first : Option (Command × Denial)) (second : Option (Command × Denial)) → option_or first second ≡ None → (first ≡ None) × (second ≡ None)
some_or None second none = (refl, none)
some_or (Some d) second none = let no : ⊥ = cc none in absurd no

not_denied : (command : Command) (denial : Option Denial) → denied_as command denial ≡ None → denial ≡ None
not_denied command None none = refl
not_denied command (Some d) none = let no : ⊥ = cc none in absurd no

-- two checks that come out the same, where the second does if the first passes
both : (one two : Command) (first first_too second second_too : Option Denial) → first ≡ first_too → (first_too ≡ None → second ≡ second_too)
    → option_or (denied_as one first) (denied_as two second) ≡ option_or (denied_as one first_too) (denied_as two second_too)
both one two first None second second_too same then = λ i. option_or (denied_as one (same i)) (denied_as two (then refl i))
both one two first (Some d) second second_too same then = ap (λ (o : Option Denial). option_or (denied_as one o) (denied_as two second)) same

-- ---- a hand on a graph

abbrev with_labels : ProtectionGraph → (ℕ → ℕ → RightSet) → ProtectionGraph
with_labels g label = record g { label = label }

-- a command that is permitted is legal with the reply that it is done
legal_done : (g : ProtectionGraph) (x : ℕ) (command : Command) → IsSubject g x → Permits g.label g.value x command → reply_of g.label g.value g.made x command ≡ reply.Done
    → IsLegalEntry g (done_by x command)
legal_done g x command subject permits done = record {
  subject = subject;
  fits = tt;
  reply = sym done ∙ ap (λ d. denied_or d (reply_of g.label g.value g.made x command)) (sym (no_denial-permits g.label g.value x command permits));
}

-- the graph once `via` holds the rights, and then `to` too
abbrev took : ProtectionGraph → Hand → ProtectionGraph
took g h = with_labels g (taken g.label h.via h.to h.target h.rights)

abbrev gave : ProtectionGraph → Hand → ProtectionGraph
gave g h = with_labels g (granted g.label h.via h.to h.target h.rights)

module _ (g : ProtectionGraph) (h : Hand) (none : denied_in_hand g.label g.value h ≡ None) where
  abbrev g_took : ProtectionGraph
  g_took = took g h

  abbrev g_gave : ProtectionGraph
  g_gave = gave g h

  abbrev back_given : Command
  back_given = Remove (lent g.label h) h.target

  take_none : denial_of g.label g.value h.via (take_of h) ≡ None
  take_none = not_denied (take_of h) _ (some_or _ _ none).0

  grant_none : denial_of g_took.label g.value h.via (grant_of h) ≡ None
  grant_none = not_denied (grant_of h) _ (some_or _ _ none).1

  take_permitted : Permits g.label g.value h.via (take_of h)
  take_permitted = permits-no_denial g.label g.value h.via (take_of h) take_none

  grant_permitted : Permits g_took.label g.value h.via (grant_of h)
  grant_permitted = permits-no_denial g_took.label g.value h.via (grant_of h) grant_none

  apart : h.via ≢ h.to
  apart = grant_permitted.0

  remove_permitted : Permits g_gave.label g.value h.via back_given
  remove_permitted = (
    take_permitted.2,
    ap (λ (s : RightSet). holds_all s (lent g.label h)) (at_target g.label h.via h.to h.target h.rights apart) ∙ holds_lent (g.label h.via h.target) h.rights,
  )

  pub step_take : step g h.via (Plain (take_of h)) ≡ g_took
  step_take = step-allowed g h.via (take_of h) take_permitted

  pub step_grant : step g_took h.via (Plain (grant_of h)) ≡ g_gave
  step_grant = step-allowed g_took h.via (grant_of h) grant_permitted

  pub step_remove : step g_gave h.via (Plain back_given) ≡ handed_on g h
  step_remove =
      step-allowed g_gave h.via back_given remove_permitted
      ∙ (λ i. with_labels g (λ a b. given_back g.label h.via h.to h.target h.rights apart (g.label h.via h.target) refl a b i))

  -- where a hand isn't denied it is allowed, in plain words
  pub may_hand : MayHand g h
  may_hand = record {
    take_apart = (take_permitted.0, take_permitted.1, take_permitted.2);
    take = take_permitted.3;
    held = take_permitted.4;
    grant_apart = (grant_permitted.0, grant_permitted.1);
    grant = ap (λ (s : RightSet). holds_all s (only right.G)) (sym (at_receiver g.label h.via h.to h.target h.rights grant_permitted.1)) ∙ grant_permitted.3;
  }

  module _ (subject : IsSubject g h.via) where
    legal_take : IsLegalEntry g (done_by h.via (take_of h))
    legal_take = legal_done g h.via (take_of h) subject take_permitted refl

    legal_grant : IsLegalEntry g_took (done_by h.via (grant_of h))
    legal_grant = legal_done g_took h.via (grant_of h) subject grant_permitted refl

    legal_remove : IsLegalEntry g_gave (done_by h.via back_given)
    legal_remove = legal_done g_gave h.via back_given subject remove_permitted refl

    -- the entries of a hand, after which `via` gives these rights back, are legal and lead to the graph after it
    record Hands (back : Option RightSet) : Type 0 where
      pub legal : IsLegal g (entries_of_hand h back)
      pub graph : graph_after g (entries_of_hand h back) ≡ handed_on g h

    -- if what comes after the grant does
    hands : (back : Option RightSet) → IsLegal g_gave (giving_back h back) → graph_after g_gave (giving_back h back) ≡ handed_on g h → Hands back
    hands back legal graph = record {
      legal = (
        legal_take,
        subst (λ (k : ProtectionGraph). IsLegal k (done_by h.via (grant_of h) ∷ giving_back h back)) (sym step_take)
            (legal_grant, subst (λ (k : ProtectionGraph). IsLegal k (giving_back h back)) (sym step_grant) legal),
      );
      graph = ap (λ (k : ProtectionGraph). graph_after (step k h.via (Plain (grant_of h))) (giving_back h back)) step_take
          ∙ ap (λ (k : ProtectionGraph). graph_after k (giving_back h back)) step_grant ∙ graph;
    }

    handed : Hands (label_of (lent g.label h))
    handed =
        elim (is_none_held (lent g.label h)) as (λ v. is_none_held (lent g.label h) ≡ v → Hands (cond v None (Some (lent g.label h)))) [
          | true ↦ λ nothing. hands None tt
              (λ i. with_labels g (λ a b. none_given_back g.label h.via h.to h.target h.rights apart (g.label h.via h.target) refl nothing a b i))
          | false ↦ λ some. hands (Some (lent g.label h)) (legal_remove, tt) step_remove
        ] refl

    pub legal_hand : IsLegal g (entries_of_hand h (label_of (lent g.label h)))
    legal_hand = handed.legal

    pub graph_hand : graph_after g (entries_of_hand h (label_of (lent g.label h))) ≡ handed_on g h
    graph_hand = handed.graph

-- and where it is allowed it isn't denied
pub not_denied_where : (g : ProtectionGraph) (h : Hand) → MayHand g h → denied_in_hand g.label g.value h ≡ None
not_denied_where g h may =
    let first : denial_of g.label g.value h.via (take_of h) ≡ None =
    no_denial-permits g.label g.value h.via (take_of h) (may.take_apart.0, may.take_apart.1, may.take_apart.2, may.take, may.held) in
    let second : denial_of (took g h).label g.value h.via (grant_of h) ≡ None =
    no_denial-permits (took g h).label g.value h.via (grant_of h) (
      may.grant_apart.0,
      may.grant_apart.1,
      may.take_apart.2,
      ap (λ (s : RightSet). holds_all s (only right.G)) (at_receiver g.label h.via h.to h.target h.rights may.grant_apart.1) ∙ may.grant,
      ap (λ (s : RightSet). holds_all s h.rights) (taken_at_target g.label h.via h.to h.target h.rights) ∙ holds_all-union (g.label h.via h.target) h.rights,
    ) in
    λ i. option_or (denied_as (take_of h) (first i)) (denied_as (grant_of h) (second i))

-- ---- on a heap

abbrev content_with : Content → (ℕ → ℕ → RightSet) → Content
content_with c label = record c { label = label }

module _ (c : Content) (g : ProtectionGraph) (stands : IsContentOf c g) (h : Hand) (subject : IsSubject g h.via) where
  abbrev c_took : Content
  c_took = content_with c (taken c.label h.via h.to h.target h.rights)

  abbrev c_gave : Content
  c_gave = content_with c (granted c.label h.via h.to h.target h.rights)

  -- the heap's edge from `via` to the target is the graph's
  pub same_held : g.label h.via h.target ≡ c.label h.via h.target
  same_held = sym (stands.labels h.via h.target (stands.reachable h.via (begins subject)))

  stands_took : denial_of g.label g.value h.via (take_of h) ≡ None → IsContentOf c_took (took g h)
  stands_took none =
      subst (λ (k : ProtectionGraph). IsContentOf c_took k) (step-allowed g h.via (take_of h) (permits-no_denial g.label g.value h.via (take_of h) none))
      (StandsFor-served c c_took g stands h.via subject (take_of h) (denial_of-stands c g stands h.via (take_of h) subject ∙ none) (IsSameContent-self c_took))

  -- the same command is denied on the heap as on the graph
  pub same_denied : denied_in_hand c.label c.value h ≡ denied_in_hand g.label g.value h
  same_denied =
      let take = take_of h in
      let grant = grant_of h in
      let first = denial_of-stands c g stands h.via take subject in
      let on_heap = denial_of c_took.label c.value h.via grant in
      let on_graph = denial_of (took g h).label g.value h.via grant in
      let grants : denial_of g.label g.value h.via take ≡ None → on_heap ≡ on_graph = λ none. denial_of-stands c_took (took g h) (stands_took none) h.via grant subject in
      both take grant (denial_of c.label c.value h.via take) (denial_of g.label g.value h.via take) on_heap on_graph first grants

  -- the heap with one edge more represents the graph after the hand
  pub stands_handed : (new : Content) → denied_in_hand g.label g.value h ≡ None → IsContentHanded h c new → IsContentOf new (handed_on g h)
  stands_handed new none is =
      let command = Remove (lent g.label h) h.target in
      let gave_stands : IsContentOf c_gave (gave g h) =
      subst (λ (k : ProtectionGraph). IsContentOf c_gave k) (step_grant g h none)
      (StandsFor-served c_took c_gave (took g h) (stands_took (take_none g h none)) h.via subject (grant_of h)
      (denial_of-stands c_took (took g h) (stands_took (take_none g h none)) h.via (grant_of h) subject ∙ grant_none g h none) (IsSameContent-self c_gave)) in
      subst (λ (k : ProtectionGraph). IsContentOf new k) (step_remove g h none)
      (StandsFor-served c_gave new (gave g h) gave_stands h.via subject command
      (denial_of-stands c_gave (gave g h) gave_stands h.via command subject ∙ no_denial-permits (gave g h).label g.value h.via command (remove_permitted g h none))
      (record {
        names = is.names;
        labels = λ a b. is.labels a b ∙ sym (given_back c.label h.via h.to h.target h.rights (apart g h none) (g.label h.via h.target) same_held a b);
        values = is.values;
      }))

-- ---- from the checks on a heap

module _ (on : Content) (h : Hand) (x : ℕ) (named : x ≡ h.via) (take : Command) (is : take ≡ take_of h) where
  take_checked : (d : Option Denial) → d ≡ denial_of on.label on.value x take → denial_of on.label on.value h.via (take_of h) ≡ d
  take_checked d checked = sym (checked ∙ (λ i. denial_of on.label on.value (named i) (is i)))

  module _ (z : ℕ) (target : z ≡ h.target) (served : None ≡ denial_of on.label on.value x take) where
    grant_checked : (d : Option Denial) → d ≡ denial_of (with_rights on.label x z h.rights) on.value x (Grant h.rights h.to z)
        → denial_of (with_rights on.label h.via h.target h.rights) on.value h.via (grant_of h) ≡ d
    grant_checked d checked = sym (checked ∙ (λ i. denial_of (with_rights on.label (named i) (target i) h.rights) on.value (named i) (Grant h.rights h.to (target i))))

    pub denied_grant : (grant : Command) → grant ≡ grant_of h → (denial : Denial) → Some denial ≡ denial_of (with_rights on.label x z h.rights) on.value x (Grant h.rights h.to z)
        → denial_of on.label on.value x (Grant h.rights h.to z) ≡ Some denial → IsDeniedOn h on grant denial
    denied_grant grant same denial checked before =
        subst (λ (command : Command). IsDeniedOn h on command denial) (sym same) (record {
          first = λ i. option_or (denied_as (take_of h) (take_checked None served i)) (denied_as (grant_of h) (grant_checked (Some denial) checked i));
          before = subst (λ (y : ℕ). denial_of on.label on.value y (grant_of h) ≡ Some denial) named (subst (λ (t : ℕ). denial_of on.label on.value x (Grant h.rights h.to t) ≡ Some denial) target before);
        })

-- ---- a store

module _ (old new : StoreState) (made : ℕ) (is : IsStore old made) (h : Hand) (subject : IsSubject (graph_of_store old) h.via)
    (opening : new.opening ≡ old.opening) (handed_out : new.handed ≡ old.handed) (collections : new.collections ≡ old.collections)
    (before after : Entries) (before_is : before.entries ≡ old.entries) (after_is : new.entries ≡ after.entries) where
  abbrev graph : ProtectionGraph
  graph = graph_of_store old

  abbrev content : Content
  content = content_of old.heap

  -- ---- done

  module _ (removed : Option RightSet) (done : IsDoneOnHeap h old.heap new.heap before after removed) where
    removed_is : removed ≡ label_of (lent graph.label h)
    removed_is = done.removed ∙ ap (λ (s : RightSet). label_of (minus h.rights s)) (sym (same_held content graph is.faithful.stands h subject))

    entries : new.entries ≡ old.entries ++ entries_of_hand h removed
    entries = after_is ∙ done.entries ∙ ap (λ (es : List Entry). es ++ entries_of_hand h removed) before_is

    served : denied_in_hand graph.label graph.value h ≡ None
    served = sym (same_denied content graph is.faithful.stands h subject) ∙ done.served

    legal : IsLegal graph (entries_of_hand h removed)
    legal = subst (λ (r : Option RightSet). IsLegal graph (entries_of_hand h r)) (sym removed_is) (legal_hand graph h served subject)

    after_hand : graph_after graph (entries_of_hand h removed) ≡ handed_on graph h
    after_hand = ap (λ (r : Option RightSet). graph_after graph (entries_of_hand h r)) removed_is ∙ graph_hand graph h served subject

    IsStore-done : IsStore new made
    IsStore-done =
        IsStore-grown old new (entries_of_hand h removed) opening entries made is.faithful legal
        (subst (λ (k : ProtectionGraph). IsContentOf (content_of new.heap) k) (sym after_hand) (stands_handed content graph is.faithful.stands h subject (content_of new.heap) served done.content))
        (done.subjects ∙ is.faithful.subjects ∙ ap (λ (k : ProtectionGraph). k.subjects) (sym after_hand))
        (is.is_made ∙ ap (λ (k : ProtectionGraph). k.made) (sym after_hand))

    comes_done : IsHandedOn h old new removed
    comes_done = record {
      allowed = may_hand graph h served;
      removed = removed_is;
      entries = entries;
      legal = legal;
      graph = graph-grown old new (entries_of_hand h removed) opening entries ∙ after_hand;
      opening = opening;
      handed = handed_out;
      limits = done.limits;
      collections = collections;
    }

  -- ---- denied

  module _ (command : Command) (denial : Denial) (denied : IsDeniedOnHeap h old.heap new.heap before after command denial) where
    on_graph : denial_of graph.label graph.value h.via command ≡ Some denial
    on_graph = sym (denial_of-stands content graph is.faithful.stands h.via command subject) ∙ denied.denied.before

    stays : step graph h.via (Plain command) ≡ graph
    stays = step-denied graph h.via command denial on_graph

    entry : Enters old new h.via (Plain command) (reply.Denied denial)
    entry = after_is ∙ denied.entry ∙ ap (λ (es : List Entry). es ++ (record { worker = h.via; deed = Plain command; reply = reply.Denied denial }) ∷ []) before_is

    IsStore-denied : IsStore new made
    IsStore-denied =
        IsStore-entered old new h.via (Plain command) (reply.Denied denial) opening entry made is.faithful subject tt
        (sym (answer-denied graph h.via command denial on_graph))
        (subst (λ (k : ProtectionGraph). IsContentOf (content_of new.heap) k) (sym stays) (subst (λ (s : HeapState). IsContentOf (content_of s) graph) (sym denied.heap) is.faithful.stands))
        (ap subject_names denied.heap ∙ is.faithful.subjects ∙ ap (λ (k : ProtectionGraph). k.subjects) (sym stays))
        (is.is_made ∙ ap (λ (k : ProtectionGraph). k.made) (sym stays))

    comes_denied : IsHandDenied h old new command denial
    comes_denied = record {
      first = sym (same_denied content graph is.faithful.stands h subject) ∙ denied.denied.first;
      before = on_graph;
      entry = record { entry = entry; opening = opening; handed = handed_out; heap = denied.heap; collections = collections };
      graph = graph-entered old new h.via (Plain command) (reply.Denied denial) opening entry ∙ stays;
    }

  -- ---- either

  pub IsStore-handed_on : (handed : Handed) → HandsOnHeap h old.heap new.heap before after handed → IsStore new made
  IsStore-handed_on (Done removed) done = IsStore-done removed done
  IsStore-handed_on (Denied command denial) denied = IsStore-denied command denial denied

  pub comes : (handed : Handed) → HandsOnHeap h old.heap new.heap before after handed → ComesOfHand h old new handed
  comes (Done removed) done = comes_done removed done
  comes (Denied command denial) denied = comes_denied command denial denied

-- a hand that is allowed on the heap is allowed on the graph
pub allowed_here : (s : StoreState) (h : Hand) → IsFaithful s → IsSubject (graph_of_store s) h.via → denied_in_hand (content_of s.heap).label (content_of s.heap).value h ≡ None → MayHand (graph_of_store s) h
allowed_here s h faithful subject none =
    may_hand (graph_of_store s) h (sym (same_denied (content_of s.heap) (graph_of_store s) faithful.stands h subject) ∙ none)

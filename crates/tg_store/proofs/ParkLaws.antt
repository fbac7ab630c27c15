-- The heap whose account was given the user's edges, and from which the user has left, represents the graph afterwards.
use Rattle.std.proofs.Common.{◌≡◌, ◌∙◌, inl, inr, ⊎_elim, ℕ, zero, suc, ◌+◌, ◌<◌, ◌==◌, ◌&&◌, Bool, true, false, cond, List, [], ◌∷◌, ◌++◌, length, map, take, get_or, append_assoc, refl, sym, ap, subst, arith}
use Rattle.std.specs.Prelude.{Option, Some, None, Result, Ok, Err, IfOk, OnErr}
use Rattle.std.specs.List.{All, Contains, sum_by}
use Rattle.std.proofs.lemmas.Bool.{eqb-true, eqb-false, eq-eqb, false≢true}
use Rattle.std.proofs.lemmas.List.{take_more}
use Rattle.std.proofs.lemmas.List.Sums.{get_or-le-sum_by}
use Rattle.tg_rights.specs.RightSet.{RightSet, is_none_held, minus, no_rights, only, union}
use Rattle.tg_rights.specs.declared.Right.TheVariants as right
use Rattle.tg_rights.proofs.RightLaws.{none_held-same}
use Rattle.tg_model.specs.declared.command.Command.{Command}
use Rattle.tg_model.specs.declared.command.Deed.TheVariants.{Plain}
use Rattle.tg_model.specs.declared.reply.Denial.{Denial}
use Rattle.tg_model.specs.declared.reply.Reply.TheVariants as reply
use Rattle.tg_model.specs.Walks.{begins, Walk-within}
use Rattle.tg_model.specs.Graph.{ProtectionGraph, HasEdge, IsSound, IsSubject, listing_of, with_rights, without_rights, without_subject}
use Rattle.tg_model.specs.Rules.{Permits, denial_of, step}
use Rattle.tg_model.proofs.AllowedLaws.{answer-denied, permits-no_denial, step-denied}
use Rattle.tg_model.proofs.ReachLaws.{HasEdge-holds}
use Rattle.tg_journal.specs.declared.entry.Entry.{Entry}
use Rattle.tg_journal.specs.History.{IsLegal, graph_after}
use Rattle.tg_journal.specs.Journal.{Entries}
use Rattle.tg_journal.proofs.Decided.{contains}
use Rattle.tg_journal.proofs.HistoryLaws.{graph_after-push}
use Rattle.tg_rows.specs.Content.{Content, IsContent, IsNamed, IsSameContent}
use Rattle.tg_subjects.specs.Subjects.{nursery_held}
use Rattle.tg_subjects.specs.declared.subject.Subject.{Subject}
use Rattle.tg_rules.specs.Verdict.{HasSubject}
use Rattle.tg_graph.specs.Heap.{HeapState, KeepsPlaces, content_of, subject_names}
use Rattle.tg_graph.specs.Standing.{IsContentOf}
use Rattle.tg_graph.proofs.StandingLaws.{IsSameContent-self, OnlyNamedHold-content_of, StandsFor-same, denial_of-stands}
use Rattle.tg_store.specs.declared.parking.Parked.{Parked}
use Rattle.tg_store.specs.declared.parking.Parked.TheVariants.{Done, Denied}
use Rattle.tg_store.specs.declared.parking.ParkFault.{ParkFault}
use Rattle.tg_store.specs.declared.parking.Parking.{Parking}
use Rattle.tg_store.specs.declared.parking.Sides.{Sides}
use Rattle.tg_store.specs.Leaving.{graph_after_leave, removal, retiring}
use Rattle.tg_store.specs.Parking.{ComesOfParking, IsInUse, IsKeyDenied, IsParked, IsUnused, KeepsGraph, filling, key_of, parked, parking, with_account, with_all_of}
use Rattle.tg_store.specs.Inner.Parking.{IsGiven, IsGivenUpAgain, IsKeyDeniedOnHeap, IsParkedOnHeap, IsRowOf, IsTakenBack, KeepsContent, ParksOnHeap, ParksSomeRow, given, parking_of, taken_back}
use Rattle.tg_store.specs.Store.{StoreState, Enters, IsFaithful, IsStore, graph_of_store}
use Rattle.tg_store.proofs.FillLaws.{AreEdges, given_others, given_push, has_name, row_edges, row_has, taken_push, undone}
use Rattle.tg_store.proofs.LeaveLaws.{graph_left, legal_removals, listed}
use Rattle.tg_store.proofs.ParkGraph.{given_row, graph_parked, legal_parking, may_park, same_listing, sound_filled}
use Rattle.tg_store.proofs.StandLaws.{IsStore-entered, IsStore-grown, IsStore-kept, graph-entered, graph-grown, sound_of}

-- ---- a row that the heap lists

-- a number above all names, and above y
abbrev above : Content → ℕ → ℕ
above c y = sum_by (λ (n : ℕ). n) c.names + y + 1

above_names : (c : Content) (y : ℕ) → All (λ name. name < above c y) c.names
above_names c y k d low = let at_most = get_or-le-sum_by (λ (n : ℕ). n) c.names k d low in omega (arith, at_most)

module _ (c : Content) (x : ℕ) (row : List (ℕ × RightSet)) (is : IsRowOf c x row) where
  pub listed_edges : AreEdges (c.label x) row
  listed_edges = subst (λ (es : List (ℕ × RightSet)). AreEdges (c.label x) es) (sym (is (above c 0) (above_names c 0))) (row_edges (above c 0) 0 (c.label x))

  pub listed_names : (y : ℕ) → HasEdge c.label x y → has_name y row ≡ true
  listed_names y edge =
      subst (λ (es : List (ℕ × RightSet)). has_name y es ≡ true) (sym (is (above c y) (above_names c y)))
      (row_has (above c y) 0 y (c.label x) (omega arith) (omega arith) edge)

-- who has an empty row holds nothing
pub nothing_listed : (c : Content) (x : ℕ) (row : List (ℕ × RightSet)) → IsRowOf c x row → row ≡ [] → (y : ℕ) → c.label x y ≡ no_rights
nothing_listed c x row is empty y =
    elim (is_none_held (c.label x y)) as (λ v. is_none_held (c.label x y) ≡ v → c.label x y ≡ no_rights) [
      | true ↦ λ none. none_held-same (c.label x y) none
      | false ↦ λ edge. absurd (false≢true (ap (has_name y) (sym empty) ∙ listed_names c x row is y edge))
    ] refl

-- who has a row that isn't empty holds something
pub something_listed : (f : ℕ → RightSet) (row : List (ℕ × RightSet)) → AreEdges f row → (length row ≡ 0 → ⊥) → (y : ℕ) × (is_none_held (f y) ≡ false)
something_listed f [] are some = absurd (some refl)
something_listed f (e ∷ es) are some = (e.0, are.1)

-- what a test of a row's length says of the row
pub row_some : (slice row : List (ℕ × RightSet)) → slice ≡ row → (b : Bool) → b ≡ (length slice == 0) → b ≡ false → length row ≡ 0 → ⊥
row_some slice row same b is isnt none = false≢true (sym isnt ∙ is ∙ eq-eqb (length slice) 0 (ap (λ (es : List (ℕ × RightSet)). length es) same ∙ none))

pub row_empty : (slice row : List (ℕ × RightSet)) → slice ≡ row → (b : Bool) → b ≡ (length slice == 0) → b ≡ true → row ≡ []
row_empty slice row same b is empty = no_elements row (sym (ap (λ (es : List (ℕ × RightSet)). length es) same) ∙ eqb-true (length slice) 0 (sym is ∙ empty))
  where
    no_elements : (es : List (ℕ × RightSet)) → length es ≡ 0 → es ≡ []
    no_elements [] none = refl
    no_elements (e ∷ es) none = absurd (omega (arith, none))

-- each edge of the list is one of the row
pub each_edge : (label : ℕ → ℕ → RightSet) (x : ℕ) (row : List (ℕ × RightSet)) → AreEdges (label x) row → All (λ (e : ℕ × RightSet). HasEdge label x e.0) row
each_edge label x [] are k d low = absurd (omega (arith, low))
each_edge label x (e ∷ es) are zero d low = are.1
each_edge label x (e ∷ es) are (suc k) d low = each_edge label x es are.2 k d (omega (arith, low))

-- what was given and taken back leaves the content
pub same_again : (old new : Content) (x : ℕ) (f : ℕ → RightSet) (row : List (ℕ × RightSet)) → AreEdges f row → ((b : ℕ) → old.label x b ≡ no_rights) → IsGivenUpAgain old new x row → IsSameContent old new
same_again old new x f row are empty again = record {
  names = again.content.names;
  labels = λ a b. again.content.labels a b ∙ undone again.given_edges row old.label x f are empty a b;
  values = again.content.values;
}

-- ---- step by step

module _ (old before after : Content) (x : ℕ) (row : List (ℕ × RightSet)) (i : ℕ) (e : ℕ × RightSet) (low : i < length row) (is : e ≡ get_or row i e) where
  taken_first : take (i + 1) row ≡ take i row ++ e ∷ []
  taken_first = take_more row i e low ∙ ap (λ (d : ℕ × RightSet). take i row ++ d ∷ []) (sym is)

  -- one edge more was given
  pub gives_more : IsGiven old before x (take i row) → IsContent after (IsNamed before) (with_rights before.label x e.0 e.1) before.value → IsGiven old after x (take (i + 1) row)
  gives_more was now =
      subst (λ (es : List (ℕ × RightSet)). IsGiven old after x es) (sym taken_first) (record {
        names = λ y. ((λ has. (was.names y).0 ((now.names y).0 has)), (λ has. (now.names y).1 ((was.names y).1 has)));
        labels = λ a b. now.labels a b ∙ ap (λ s. cond ((a == x) && (b == e.0)) (union s e.1) s) (was.labels a b) ∙ sym (ap (λ (label : ℕ → ℕ → RightSet). label a b) (given_push (take i row) old.label x e));
        values = λ y. now.values y ∙ was.values y;
      })

  -- one edge more was taken back
  pub takes_more : IsTakenBack old before x (take i row) → IsContent after (IsNamed before) (without_rights before.label x e.0 e.1) before.value → IsTakenBack old after x (take (i + 1) row)
  takes_more was now =
      subst (λ (es : List (ℕ × RightSet)). IsTakenBack old after x es) (sym taken_first) (record {
        names = λ y. ((λ has. (was.names y).0 ((now.names y).0 has)), (λ has. (now.names y).1 ((was.names y).1 has)));
        labels = λ a b. now.labels a b ∙ ap (λ s. cond ((a == x) && (b == e.0)) (minus s e.1) s) (was.labels a b) ∙ sym (ap (λ (label : ℕ → ℕ → RightSet). label a b) (taken_push (take i row) old.label x e));
        values = λ y. now.values y ∙ was.values y;
      })

-- some edges were given, and then all were taken back
pub given_again : (old mid new : Content) (x : ℕ) (row : List (ℕ × RightSet)) (i : ℕ) → IsGiven old mid x (take i row) → IsTakenBack mid new x row → IsGivenUpAgain old new x row
given_again old mid new x row i was now = record {
  given_edges = i;
  content = record {
    names = λ y. ((λ has. (was.names y).0 ((now.names y).0 has)), (λ has. (now.names y).1 ((was.names y).1 has)));
    labels = λ a b. now.labels a b ∙ (λ j. taken_back (λ c d. was.labels c d j) x row a b);
    values = λ y. now.values y ∙ was.values y;
  };
}

-- ---- places

pub keeps_both : (a b c : HeapState) → KeepsPlaces a b → KeepsPlaces b c → KeepsPlaces a c
keeps_both a b c first second = record {
  subjects = second.subjects ∙ first.subjects;
  limits = second.limits ∙ first.limits;
  vertices = λ x p at. second.vertices x p (first.vertices x p at);
}

pub keeps_self : (s : HeapState) → KeepsPlaces s s
keeps_self s = record { subjects = refl; limits = refl; vertices = λ x p at. at }

pub subject_kept : (old new : HeapState) (s : Subject) → KeepsPlaces old new → HasSubject old s → HasSubject new s
subject_kept old new s kept has = record {
  there = subst (λ (xs : List Subject). Contains xs s) (sym kept.subjects) has.there;
  nursery = has.nursery ∙ ap (λ (xs : List Subject). nursery_held xs s.name) (sym kept.subjects);
  vertex = kept.vertices s.name s.place has.vertex;
}

-- ---- a vertex is given a row on the heap

module _ (c : Content) (g : ProtectionGraph) (stands : IsContentOf c g) (from to : ℕ) (from_named : IsNamed c from) (to_named : IsNamed c to) (unused : IsUnused c.label from to) where
  pub unused_on_graph : IsUnused g.label from to
  unused_on_graph = record {
    empty = λ y. sym (stands.labels to y to_named) ∙ unused.empty y;
    apart = sym (stands.labels from to from_named) ∙ unused.apart;
  }

  closed : (a b : ℕ) → IsNamed c a → HasEdge (with_all_of g from to).label a b → IsNamed c b
  closed a b named edge =
      elim (a == to) as (λ v. is_none_held (cond v (g.label from b) (g.label a b)) ≡ false → IsNamed c b) [
        | true ↦ λ there. stands.closed from b from_named there
        | false ↦ λ there. stands.closed a b named there
      ] edge

  labels : IsSound g → (a b : ℕ) → IsNamed c a → given c.label to (listing_of g.label g.made from) a b ≡ (with_all_of g from to).label a b
  labels sound a b named =
      let row : List (ℕ × RightSet) = listing_of g.label g.made from in
      elim (a == to) as (λ v. (a == to) ≡ v → given c.label to row a b ≡ cond v (g.label from b) (g.label a b)) [
        | true ↦ λ is. ap (λ (x : ℕ). given c.label to row x b) (eqb-true a to is) ∙ given_row g sound from c.label to b (unused.empty b)
        | false ↦ λ isnt. given_others row c.label to a b (eqb-false a to isnt) ∙ stands.labels a b named
      ] refl

  pub stands_given : IsSound g → (mid : Content) → IsGiven c mid to (listing_of g.label g.made from) → IsContentOf mid (with_all_of g from to)
  stands_given sound mid filled = record {
    made = λ x is. stands.made x ((filled.names x).0 is);
    reachable = λ x reachable. (filled.names x).1 (Walk-within (IsNamed c) (λ y subject. stands.reachable y (begins subject)) closed x reachable);
    closed = λ a b is edge. (filled.names b).1 (closed a b ((filled.names a).0 is) edge);
    labels = λ a b is. filled.labels a b ∙ labels sound a b ((filled.names a).0 is);
    values = λ x is. filled.values x ∙ stands.values x ((filled.names x).0 is);
  }

-- the heap has what a subject holds a right over
pub named_held : (c : Content) (g : ProtectionGraph) → IsContentOf c g → (x y : ℕ) → IsSubject g x → HasEdge g.label x y → IsNamed c y
named_held c g stands x y subject edge = stands.closed x y (stands.reachable x (begins subject)) edge

-- ---- the account is filled on the heap

module _ (c mid : Content) (g : ProtectionGraph) (stands : IsContentOf c g) (p : Parking) (sound : IsSound g) (host : IsSubject g p.host) (user : IsSubject g p.user)
    (none : denial_of g.label g.value p.host (key_of p) ≡ None) (unused : IsUnused c.label p.user p.account) where
  user_named : IsNamed c p.user
  user_named = stands.reachable p.user (begins user)

  account_named : IsNamed c p.account
  account_named =
      let key : Permits g.label g.value p.host (key_of p) = permits-no_denial g.label g.value p.host (key_of p) none in
      named_held c g stands p.host p.account host (HasEdge-holds g.label p.host p.account (only right.G) key.4 refl)

  pub unused_here : IsUnused g.label p.user p.account
  unused_here = unused_on_graph c g stands p.user p.account user_named account_named unused

  abbrev row : List (ℕ × RightSet)
  row = listing_of g.label g.made p.user

  -- and then the user leaves
  pub stands_parked : (new : Content) → ((h : ProtectionGraph) → IsContentOf mid h → IsSubject h p.user → IsLegal h (map (removal p.user) row) → IsContentOf new (graph_after_leave h p.user row))
      → IsGiven c mid p.account row → IsContentOf new (parked g p)
  stands_parked new left filled =
      let k : ProtectionGraph = with_account g p in
      let k_sound : IsSound k = sound_filled g p sound host user none unused_here in
      let listing : listing_of k.label k.made p.user ≡ row = same_listing g p sound host user none unused_here in
      let legal : IsLegal k (map (removal p.user) row) = subst (λ (es : List (ℕ × RightSet)). IsLegal k (map (removal p.user) es)) listing (legal_removals k p.user k_sound user) in
      subst (λ (h : ProtectionGraph). IsContentOf new h)
      (ap (λ (es : List (ℕ × RightSet)). graph_after_leave k p.user es) (sym listing)
      ∙ sym (graph_after-push k (map (removal p.user) (listing_of k.label k.made p.user)) (retiring p.user))
      ∙ graph_left k p.user k_sound user)
      (left k (stands_given c g stands p.user p.account user_named account_named unused sound mid filled) user legal)

-- ---- the journal has room

-- what came of parking, of a journal that got room before
module _ (s : Sides) (row : List (ℕ × RightSet)) (old new : HeapState) (before mid after : Entries) (same : mid.entries ≡ before.entries) where
  pub parks_some : IsRowOf (content_of old) s.user.name row → (r : Result Parked ParkFault) → IfOk r (ParksOnHeap s row old new mid after) → IfOk r (ParksSomeRow s old new before after)
  parks_some is (Ok (Done count)) done = record {
    row = row;
    is_row = is;
    parks = record {
      served = done.served;
      unused = done.unused;
      count = done.count;
      entries = done.entries ∙ ap (λ (es : List Entry). (es ++ filling (parking_of s) row) ++ map (removal s.user.name) row ++ retiring s.user.name ∷ []) same;
      middle = done.middle;
      filled = done.filled;
      left = done.left;
      subjects = done.subjects;
      limits = done.limits;
    };
  }
  parks_some is (Ok (Denied denial)) denied = record {
    row = row;
    is_row = is;
    parks = record {
      denied = denied.denied;
      entry = denied.entry ∙ ap (λ (es : List Entry). es ++ (record { worker = s.host.name; deed = Plain (key_of (parking_of s)); reply = reply.Denied denial }) ∷ []) same;
      heap = denied.heap;
    };
  }
  parks_some is (Err fault) refused = tt

-- the same where nothing was parked
pub keeps_roomy : (old new : HeapState) (before mid after : Entries) → mid.entries ≡ before.entries → (r : Result Parked ParkFault) → OnErr r (KeepsContent old new mid after) → OnErr r (KeepsContent old new before after)
keeps_roomy old new before mid after same (Ok came) kept = tt
keeps_roomy old new before mid after same (Err fault) kept = record { entries = kept.entries ∙ same; content = kept.content; subjects = kept.subjects; limits = kept.limits }

-- what is so whatever was refused
pub when_refused : {T E : Type 0} {P : Type 0} (r : Result T E) → P → OnErr r P
when_refused (Ok t) is = tt
when_refused (Err e) is = is

-- a heap that is as it was, and a journal with the same entries
pub keeps_all : (heap : HeapState) (before after : Entries) → after.entries ≡ before.entries → KeepsContent heap heap before after
keeps_all heap before after same = record { entries = same; content = IsSameContent-self (content_of heap); subjects = refl; limits = refl }

-- ---- a key that is denied

-- what is decided of a command is decided of the key that it is
pub key_denial : (c : Content) (x : ℕ) (command key : Command) (denial : Option Denial) → command ≡ key → denial ≡ denial_of c.label c.value x command → denial_of c.label c.value x key ≡ denial
key_denial c x command key denial same decided = ap (λ (k : Command). denial_of c.label c.value x k) (sym same) ∙ sym decided

module _ (old new : StoreState) (made : ℕ) (is : IsStore old made) (x : ℕ) (subject : IsSubject (graph_of_store old) x) (key : Command)
    (opening : new.opening ≡ old.opening) (before after : List Entry) (before_is : before ≡ old.entries) (after_is : new.entries ≡ after)
    (denial : Denial) (denied : IsKeyDeniedOnHeap key x old.heap new.heap before after denial) where
  abbrev at : ProtectionGraph
  at = graph_of_store old

  on_graph : denial_of at.label at.value x key ≡ Some denial
  on_graph = sym (denial_of-stands (content_of old.heap) at is.faithful.stands x key subject) ∙ denied.denied

  stays : step at x (Plain key) ≡ at
  stays = step-denied at x key denial on_graph

  entry : Enters old new x (Plain key) (reply.Denied denial)
  entry = after_is ∙ denied.entry ∙ ap (λ (es : List Entry). es ++ (record { worker = x; deed = Plain key; reply = reply.Denied denial }) ∷ []) before_is

  pub IsStore-denied : IsStore new made
  IsStore-denied =
      IsStore-entered old new x (Plain key) (reply.Denied denial) opening entry made is.faithful subject tt
      (sym (answer-denied at x key denial on_graph))
      (subst (λ (k : ProtectionGraph). IsContentOf (content_of new.heap) k) (sym stays) (subst (λ (h : HeapState). IsContentOf (content_of h) at) (sym denied.heap) is.faithful.stands))
      (ap subject_names denied.heap ∙ is.faithful.subjects ∙ ap (λ (k : ProtectionGraph). k.subjects) (sym stays))
      (is.is_made ∙ ap (λ (k : ProtectionGraph). k.made) (sym stays))

  pub comes_denied : new.handed ≡ old.handed → new.collections ≡ old.collections → IsKeyDenied key x old new denial
  comes_denied handed_out collections = record {
    denied = on_graph;
    entry = record { entry = entry; opening = opening; handed = handed_out; heap = denied.heap; collections = collections };
    graph = graph-entered old new x (Plain key) (reply.Denied denial) opening entry ∙ stays;
  }

-- ---- a store

module _ (old new : StoreState) (made : ℕ) (is : IsStore old made) (s : Sides) (host : IsSubject (graph_of_store old) s.host.name) (user : IsSubject (graph_of_store old) s.user.name)
    (opening : new.opening ≡ old.opening) (handed_out : new.handed ≡ old.handed) (collections : new.collections ≡ old.collections)
    (before after : Entries) (before_is : before.entries ≡ old.entries) (after_is : new.entries ≡ after.entries) where
  abbrev graph : ProtectionGraph
  graph = graph_of_store old

  abbrev content : Content
  content = content_of old.heap

  abbrev p : Parking
  p = parking_of s

  -- ---- done

  module _ (row : List (ℕ × RightSet)) (row_is : row ≡ listing_of graph.label graph.made p.user) (count : ℕ) (done : IsParkedOnHeap s row old.heap new.heap before after count) where
    sound : IsSound graph
    sound = sound_of old is.faithful

    served : denial_of graph.label graph.value p.host (key_of p) ≡ None
    served = sym (denial_of-stands content graph is.faithful.stands p.host (key_of p) host) ∙ done.served

    unused : IsUnused graph.label p.user p.account
    unused = unused_here content done.middle graph is.faithful.stands p sound host user served done.unused

    entries : new.entries ≡ old.entries ++ parking graph p
    entries =
        after_is ∙ done.entries ∙ append_assoc (before.entries ++ filling p row) (map (removal p.user) row) (retiring p.user ∷ [])
        ∙ append_assoc before.entries (filling p row) (map (removal p.user) row ++ retiring p.user ∷ [])
        ∙ (λ i. before_is i ++ (filling p (row_is i) ++ (map (removal p.user) (row_is i) ++ retiring p.user ∷ [])))

    legal : IsLegal graph (parking graph p)
    legal = legal_parking graph p sound host user served unused

    afterwards : graph_after graph (parking graph p) ≡ parked graph p
    afterwards = graph_parked graph p sound host user served unused

    stands : IsContentOf (content_of new.heap) (parked graph p)
    stands =
        stands_parked content done.middle graph is.faithful.stands p sound host user served done.unused (content_of new.heap)
        (subst (λ (es : List (ℕ × RightSet)). (h : ProtectionGraph) → IsContentOf done.middle h → IsSubject h p.user → IsLegal h (map (removal p.user) es) → IsContentOf (content_of new.heap) (graph_after_leave h p.user es)) row_is done.left)
        (subst (λ (es : List (ℕ × RightSet)). IsGiven content done.middle p.account es) row_is done.filled)

    IsStore-done : IsStore new made
    IsStore-done =
        IsStore-grown old new (parking graph p) opening entries made is.faithful legal
        (subst (λ (k : ProtectionGraph). IsContentOf (content_of new.heap) k) (sym afterwards) stands)
        (done.subjects ∙ ap (λ (subjects : List ℕ). without_subject subjects p.user) is.faithful.subjects ∙ ap (λ (k : ProtectionGraph). k.subjects) (sym afterwards))
        (is.is_made ∙ ap (λ (k : ProtectionGraph). k.made) (sym afterwards))

    comes_done : IsParked p old new count
    comes_done = record {
      allowed = may_park graph p sound host user served unused;
      unused = unused;
      count = done.count ∙ ap (λ (es : List (ℕ × RightSet)). length es) row_is;
      entries = entries;
      legal = legal;
      graph = graph-grown old new (parking graph p) opening entries ∙ afterwards;
      opening = opening;
      handed = handed_out;
      limits = done.limits;
      collections = collections;
    }

  -- ---- either

  module _ (row : List (ℕ × RightSet)) (row_is : row ≡ listing_of graph.label graph.made p.user) where
    pub IsStore-parked : (came : Parked) → ParksOnHeap s row old.heap new.heap before after came → IsStore new made
    IsStore-parked (Done count) done = IsStore-done row row_is count done
    IsStore-parked (Denied denial) denied = IsStore-denied old new made is p.host host (key_of p) opening before.entries after.entries before_is after_is denial denied

    pub comes_of_parking : (came : Parked) → ParksOnHeap s row old.heap new.heap before after came → ComesOfParking p old new came
    comes_of_parking (Done count) done = comes_done row row_is count done
    comes_of_parking (Denied denial) denied =
        comes_denied old new made is p.host host (key_of p) opening before.entries after.entries before_is after_is denial denied handed_out collections

-- an edge of the heap is one of the graph
edge_here : (s : StoreState) → IsFaithful s → (a b : ℕ) → HasEdge (content_of s.heap).label a b → HasEdge (graph_of_store s).label a b
edge_here s faithful a b edge =
    ⊎_elim
    (λ named. ap is_none_held (sym (faithful.stands.labels a b named)) ∙ edge)
    (λ unnamed. absurd (false≢true (sym edge ∙ ap is_none_held (OnlyNamedHold-content_of s.heap a unnamed b))))
    (contains (content_of s.heap).names a)

-- what is in use on the heap is so on the graph
pub in_use_here : (s : StoreState) (from to : ℕ) → IsFaithful s → IsInUse (content_of s.heap).label from to → IsInUse (graph_of_store s).label from to
in_use_here s from to faithful (inl (y, edge)) = inl (y, edge_here s faithful to y edge)
in_use_here s from to faithful (inr edge) = inr (edge_here s faithful from to edge)

-- the row that the heap lists is the graph's
pub row_listed : (s : StoreState) → IsFaithful s → (x : ℕ) → IsSubject (graph_of_store s) x → (row : List (ℕ × RightSet)) → IsRowOf (content_of s.heap) x row → row ≡ listing_of (graph_of_store s).label (graph_of_store s).made x
row_listed s faithful x subject row is = listed (content_of s.heap) (graph_of_store s) x x row faithful.stands subject refl is

-- where nothing was parked, the store represents the same graph
module _ (old new : StoreState) (made : ℕ) (opening : new.opening ≡ old.opening) (before after : Entries) (before_is : before.entries ≡ old.entries) (after_is : new.entries ≡ after.entries)
    (keeps : KeepsContent old.heap new.heap before after) where
  pub IsStore-not_parked : IsStore old made → IsStore new made
  IsStore-not_parked is =
      IsStore-kept old new made is opening (after_is ∙ keeps.entries ∙ before_is)
      (StandsFor-same (content_of old.heap) (content_of new.heap) (graph_of_store old) is.faithful.stands keeps.content) keeps.subjects

  pub keeps_graph : new.handed ≡ old.handed → new.collections ≡ old.collections → KeepsGraph old new
  keeps_graph handed collections = record {
    opening = opening;
    entries = after_is ∙ keeps.entries ∙ before_is;
    handed = handed;
    content = keeps.content;
    subjects = keeps.subjects;
    limits = keeps.limits;
    collections = collections;
  }

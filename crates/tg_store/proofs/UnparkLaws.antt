-- The heap whose user was given the account's edges, and whose host has left the account, represents the graph afterwards.
use Rattle.std.proofs.Common.{◌≡◌, ◌∙◌, ℕ, ◌<◌, List, ◌++◌, length, refl, sym, ap, subst, get_or}
use Rattle.std.specs.Prelude.{None}
use Rattle.std.specs.List.{All}
use Rattle.std.proofs.lemmas.List.Elements.{Contains-get_or}
use Rattle.tg_rights.specs.RightSet.{RightSet, only}
use Rattle.tg_rights.specs.declared.Right.TheVariants as right
use Rattle.tg_model.specs.declared.command.Command.{Command}
use Rattle.tg_model.specs.declared.command.Command.TheVariants.{Remove}
use Rattle.tg_model.specs.Walks.{begins}
use Rattle.tg_model.specs.Graph.{ProtectionGraph, IsSound, IsSubject, listing_of, without_rights}
use Rattle.tg_model.specs.Rules.{Permits, denial_of}
use Rattle.tg_model.proofs.AllowedLaws.{no_denial-permits, permits-no_denial}
use Rattle.tg_model.proofs.ReachLaws.{HasEdge-holds}
use Rattle.tg_journal.specs.declared.entry.Entry.{Entry}
use Rattle.tg_journal.specs.History.{IsLegal, graph_after}
use Rattle.tg_rows.specs.Content.{Content, IsContent, IsNamed}
use Rattle.tg_graph.specs.Heap.{content_of}
use Rattle.tg_graph.specs.Standing.{IsContentOf}
use Rattle.tg_graph.proofs.StandingLaws.{StandsFor-served, denial_of-stands}
use Rattle.tg_store.specs.declared.parking.Parked.{Parked}
use Rattle.tg_store.specs.declared.parking.Parked.TheVariants.{Done, Denied}
use Rattle.tg_store.specs.declared.parking.Parking.{Parking}
use Rattle.tg_store.specs.declared.parking.Sides.{Sides}
use Rattle.tg_store.specs.Parking.{IsUnused, with_all_of}
use Rattle.tg_store.specs.Unparking.{ComesOfUnparking, IsUnparked, take_key_of, taking_all, unparked, unparking}
use Rattle.tg_store.specs.Inner.Parking.{IsGiven, IsRowOf, parking_of}
use Rattle.tg_store.specs.Inner.Unparking.{IsUnparkedOnHeap, UnparksOnHeap}
use Rattle.tg_store.specs.Store.{StoreState, IsStore, graph_of_store}
use Rattle.tg_store.proofs.FillLaws.{row_from}
use Rattle.tg_store.proofs.ParkLaws.{IsStore-denied, comes_denied, named_held, stands_given, unused_on_graph}
use Rattle.tg_store.proofs.StandLaws.{IsStore-grown, graph-grown, sound_of}
use Rattle.tg_store.proofs.UnparkGraph.{graph_unparked, legal_unparking, may_leave, may_unpark, step_left}

-- the row that the heap lists of a vertex that it has is the graph's
row_on_graph : (c : Content) (g : ProtectionGraph) → IsContentOf c g → (x : ℕ) → IsNamed c x → (row : List (ℕ × RightSet)) → IsRowOf c x row → row ≡ listing_of g.label g.made x
row_on_graph c g stands x named row is =
    let below : All (λ name. name < g.made) c.names = λ k d low. stands.made (get_or c.names k d) (Contains-get_or c.names k d low) in
    is g.made below ∙ ap (λ (f : ℕ → RightSet). row_from f 0 g.made) (λ i y. stands.labels x y named i)

-- ---- the user is unparked on the heap

module _ (c : Content) (g : ProtectionGraph) (stands : IsContentOf c g) (p : Parking) (sound : IsSound g) (host : IsSubject g p.host) (user : IsSubject g p.user)
    (none : denial_of g.label g.value p.host (take_key_of p) ≡ None) (unused : IsUnused c.label p.account p.user) where
  permitted : Permits g.label g.value p.host (take_key_of p)
  permitted = permits-no_denial g.label g.value p.host (take_key_of p) none

  user_named : IsNamed c p.user
  user_named = stands.reachable p.user (begins user)

  pub account_named : IsNamed c p.account
  account_named = named_held c g stands p.host p.account host (HasEdge-holds g.label p.host p.account (only right.T) permitted.4 refl)

  pub unused_taken : IsUnused g.label p.account p.user
  unused_taken = unused_on_graph c g stands p.account p.user account_named user_named unused

  pub held_same : c.label p.host p.account ≡ g.label p.host p.account
  held_same = stands.labels p.host p.account (stands.reachable p.host (begins host))

  pub stands_unparked : (mid new : Content) → IsGiven c mid p.user (listing_of g.label g.made p.account)
      → IsContent new (IsNamed mid) (without_rights mid.label p.host p.account (g.label p.host p.account)) mid.value → IsContentOf new (unparked g p)
  stands_unparked mid new filled left =
      let k : ProtectionGraph = with_all_of g p.account p.user in
      let command : Command = Remove (g.label p.host p.account) p.account in
      let here : IsContentOf mid k = stands_given c g stands p.account p.user account_named user_named unused sound mid filled in
      let may : Permits k.label k.value p.host command = may_leave g p permitted.0 permitted.2 in
      let allowed : denial_of mid.label mid.value p.host command ≡ None =
      denial_of-stands mid k here p.host command host ∙ no_denial-permits k.label k.value p.host command may in
      subst (λ (h : ProtectionGraph). IsContentOf new h) (step_left g p permitted.0 permitted.2) (StandsFor-served mid new k here p.host host command allowed left)

-- ---- a store

module _ (old new : StoreState) (made : ℕ) (is : IsStore old made) (s : Sides) (host : IsSubject (graph_of_store old) s.host.name) (user : IsSubject (graph_of_store old) s.user.name)
    (opening : new.opening ≡ old.opening) (before after : List Entry) (before_is : before ≡ old.entries) (after_is : new.entries ≡ after) where
  abbrev graph : ProtectionGraph
  graph = graph_of_store old

  abbrev content : Content
  content = content_of old.heap

  abbrev p : Parking
  p = parking_of s

  -- ---- done

  module _ (count : ℕ) (done : IsUnparkedOnHeap s old.heap new.heap before after count) where
    sound : IsSound graph
    sound = sound_of old is.faithful

    served : denial_of graph.label graph.value p.host (take_key_of p) ≡ None
    served = sym (denial_of-stands content graph is.faithful.stands p.host (take_key_of p) host) ∙ done.served

    unused : IsUnused graph.label p.account p.user
    unused = unused_taken content graph is.faithful.stands p sound host user served done.unused

    row_is : done.row ≡ listing_of graph.label graph.made p.account
    row_is =
        row_on_graph content graph is.faithful.stands p.account (account_named content graph is.faithful.stands p sound host user served done.unused) done.row done.is_row

    held_is : content.label p.host p.account ≡ graph.label p.host p.account
    held_is = held_same content graph is.faithful.stands p sound host user served done.unused

    entries : new.entries ≡ old.entries ++ unparking graph p
    entries = after_is ∙ done.entries ∙ (λ i. before_is i ++ taking_all p (row_is i) (held_is i))

    legal : IsLegal graph (unparking graph p)
    legal = legal_unparking graph p sound host user served unused

    afterwards : graph_after graph (unparking graph p) ≡ unparked graph p
    afterwards = graph_unparked graph p sound host user served unused

    stands : IsContentOf (content_of new.heap) (unparked graph p)
    stands =
        stands_unparked content graph is.faithful.stands p sound host user served done.unused done.middle (content_of new.heap)
        (subst (λ (es : List (ℕ × RightSet)). IsGiven content done.middle p.user es) row_is done.filled)
        (subst (λ (held : RightSet). IsContent (content_of new.heap) (IsNamed done.middle) (without_rights done.middle.label p.host p.account held) done.middle.value) held_is done.left)

    IsStore-done : IsStore new made
    IsStore-done =
        IsStore-grown old new (unparking graph p) opening entries made is.faithful legal
        (subst (λ (k : ProtectionGraph). IsContentOf (content_of new.heap) k) (sym afterwards) stands)
        (done.subjects ∙ is.faithful.subjects ∙ ap (λ (k : ProtectionGraph). k.subjects) (sym afterwards))
        (is.is_made ∙ ap (λ (k : ProtectionGraph). k.made) (sym afterwards))

    comes_done : new.handed ≡ old.handed → new.collections ≡ old.collections → IsUnparked p old new count
    comes_done handed_out collections = record {
      allowed = may_unpark graph p sound host user served unused;
      unused = unused;
      count = done.count ∙ ap (λ (es : List (ℕ × RightSet)). length es) row_is;
      entries = entries;
      legal = legal;
      graph = graph-grown old new (unparking graph p) opening entries ∙ afterwards;
      opening = opening;
      handed = handed_out;
      limits = done.limits;
      collections = collections;
    }

  -- ---- done or denied

  pub IsStore-unparked : (came : Parked) → UnparksOnHeap s old.heap new.heap before after came → IsStore new made
  IsStore-unparked (Done count) done = IsStore-done count done
  IsStore-unparked (Denied denial) denied = IsStore-denied old new made is p.host host (take_key_of p) opening before after before_is after_is denial denied

  pub comes_of_unparking : new.handed ≡ old.handed → new.collections ≡ old.collections → (came : Parked) → UnparksOnHeap s old.heap new.heap before after came → ComesOfUnparking p old new came
  comes_of_unparking handed_out collections (Done count) done = comes_done count done handed_out collections
  comes_of_unparking handed_out collections (Denied denial) denied =
      comes_denied old new made is p.host host (take_key_of p) opening before after before_is after_is denial denied handed_out collections

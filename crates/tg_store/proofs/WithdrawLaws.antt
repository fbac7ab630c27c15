-- What a withdrawal leaves of a graph: its entries are legal and lead to the labels that are left, and rights of which nobody is
-- reported never come back.
use mathlib.Core.Bool.{true≢false}
use Rattle.std.proofs.Common.{◌≡◌, ◌≢◌, ◌⊎◌, inl, inr, ⊎_elim, ℕ, suc, ◌<◌, ◌==◌, ◌&&◌, ◌||◌, Bool, true, false, cond, not, List, [], ◌∷◌, ◌++◌, get_or, map, refl, sym, ap, subst, ◌∙◌, arith}
use Rattle.std.specs.List.{AllPairs, Contains, filter, list_any}
use Rattle.std.proofs.lemmas.Bool.{and_parts, eqb-false, eqb-true, eq-eqb, ne_eqb, or_parts}
use Rattle.std.proofs.lemmas.List.Folds.{list_any_none}
use Rattle.std.proofs.lemmas.List.Kept.{AllPairs-from_increasing, IsStrictlyIncreasing-filter}
use Rattle.tg_rights.specs.RightSet.{RightSet, has, holds_all, is_none_held, minus, no_rights, only, set_where, union}
use Rattle.tg_rights.specs.declared.Right.{Right}
use Rattle.tg_rights.specs.declared.Right.TheVariants as right
use Rattle.tg_rights.proofs.RightLaws.{has-holds_all, has-minus, has-none_held, has-set_where, has-union, minus-no_rights, none_held-same, some_minus}
use Rattle.tg_model.specs.declared.command.Command.{Command}
use Rattle.tg_model.specs.declared.command.Command.TheVariants.{Take, Grant, Remove}
use Rattle.tg_model.specs.declared.command.Deed.{Deed}
use Rattle.tg_model.specs.declared.command.Deed.TheVariants.{Create, Spawn, Plain}
use Rattle.tg_model.specs.declared.reply.Reply.TheVariants.{Done}
use Rattle.tg_model.specs.Graph.{ProtectionGraph, HasEdge, IsReachable, IsSound, IsSubject, with_rights, without_rights}
use Rattle.tg_model.specs.Rules.{Permits, denied_or, labels_after, step}
use Rattle.tg_model.specs.Walks.{begins, goes, Walk-map}
use Rattle.tg_model.proofs.AllowedLaws.{create_cases, no_denial-permits, plain_cases, spawn_cases, step-allowed}
use Rattle.tg_model.proofs.ReachLaws.{HasEdge-holds, IsReachable-plain, IsReachable-step}
use Rattle.tg_model.proofs.SoundLaws.{IsSound-step, le-step-made}
use Rattle.tg_journal.specs.declared.entry.Entry.{Entry}
use Rattle.tg_journal.specs.History.{IsLegal, IsLegalEntry, graph_after}
use Rattle.tg_rows.specs.Content.{Content}
use Rattle.tg_rows.proofs.Members.{Contains-cases, Contains-filter, Contains-from_filter, Contains-here, Contains-more, Contains-none}
use Rattle.tg_graph.specs.Heap.{content_of, subject_names}
use Rattle.tg_graph.specs.Standing.{IsContentOf}
use Rattle.tg_store.specs.Holding.{common}
use Rattle.tg_store.specs.Store.{StoreState, IsFaithful, IsStore, graph_of_store}
use Rattle.tg_store.specs.Withdrawing.{AreHoldersOfSome, given_up, givers_among, labels_left, removal_over, withdrawing, withdrawn}
use Rattle.tg_store.proofs.HoldingLaws.{true_not_false}
use Rattle.tg_store.proofs.StandLaws.{IsStore-grown, graph-grown, sound_of}

-- ---- lists of names

or_right : (a b : Bool) → b ≡ true → (a || b) ≡ true
or_right true b is = refl
or_right false b is = is

any_of : (x : ℕ) (xs : List ℕ) → Contains xs x → list_any (λ z. z == x) xs ≡ true
any_of x [] has = absurd (Contains-none x has)
any_of x (z ∷ zs) has =
    ⊎_elim (λ at. ap (λ b. b || list_any (λ k. k == x) zs) (eq-eqb z x at)) (λ rest. or_right (z == x) (list_any (λ k. k == x) zs) (any_of x zs rest)) (Contains-cases z zs x has)

not_any : (x : ℕ) (xs : List ℕ) → (Contains xs x → ⊥) → list_any (λ z. z == x) xs ≡ false
not_any x [] none = refl
not_any x (z ∷ zs) none = λ i. ne_eqb z x (λ at. none (subst (λ k. Contains (z ∷ zs) k) at (Contains-here z zs))) i || not_any x zs (λ has. none (Contains-more z zs x has)) i

-- ---- sets of rights

given_once : (a b : Bool) → (a && not (b && a)) ≡ (a && not b)
given_once true true = refl
given_once true false = refl
given_once false b = refl

-- who gives up what it shares of a set gives up that set
minus-common : (s rights : RightSet) → minus s (common rights s) ≡ minus s rights
minus-common s rights = λ i. set_where (λ x. given_once (has s x) (has rights x) i)

shared_is_held : (a b : Bool) → ((a && b) && not b) ≡ false
shared_is_held true true = refl
shared_is_held true false = refl
shared_is_held false b = refl

holds_common : (s rights : RightSet) → holds_all s (common rights s) ≡ true
holds_common s rights = ap is_none_held (λ i. set_where (λ x. shared_is_held (has rights x) (has s x) i))

none_and : (a : Bool) → (a && false) ≡ false
none_and true = refl
none_and false = refl

pub nothing_shared : (rights : RightSet) → common rights no_rights ≡ no_rights
nothing_shared rights = λ i. set_where (λ x. none_and (has rights x) i)

none_after : (a b : Bool) → (a && (b && not a)) ≡ false
none_after true true = refl
none_after true false = refl
none_after false b = refl

-- what is left shares none of the rights
pub common-minus : (s rights : RightSet) → is_none_held (common rights (minus s rights)) ≡ true
common-minus s rights = ap is_none_held (λ i. set_where (λ x. none_after (has rights x) (has s x) i))

-- ---- one giver

abbrev pub with_labels_of : ProtectionGraph → (ℕ → ℕ → RightSet) → ProtectionGraph
with_labels_of g label = record g { label = label }

module _ (g : ProtectionGraph) (x y : ℕ) (rights : RightSet) (subject : IsSubject g x) (apart : x ≢ y) where
  permitted : Permits g.label g.value x (Remove (common rights (g.label x y)) y)
  permitted = (apart, holds_common (g.label x y) rights)

  legal_removal : IsLegalEntry g (removal_over y (x, common rights (g.label x y)))
  legal_removal = record {
    subject = subject;
    fits = tt;
    reply = ap (λ d. denied_or d Done) (sym (no_denial-permits g.label g.value x (Remove (common rights (g.label x y)) y) permitted));
  }

  step_removal : step g x (Plain (Remove (common rights (g.label x y)) y)) ≡ with_labels_of g (without_rights g.label x y (common rights (g.label x y)))
  step_removal = step-allowed g x (Remove (common rights (g.label x y)) y) permitted

-- ---- the labels that are left

and_none : (b : Bool) (s r : RightSet) → cond (b && false) s r ≡ r
and_none true s r = refl
and_none false s r = refl

module _ (label : ℕ → ℕ → RightSet) (y : ℕ) (rights : RightSet) where
  abbrev lost : ℕ → ℕ → ℕ → RightSet
  lost x = without_rights label x y (common rights (label x y))

  lost_others : (x a b : ℕ) → a ≢ x → lost x a b ≡ label a b
  lost_others x a b apart = ap (λ v. cond (v && (b == y)) (minus (label a b) (common rights (label x y))) (label a b)) (ne_eqb a x apart)

  -- who shares nothing loses nothing
  lost_nothing : (x : ℕ) → is_none_held (common rights (label x y)) ≡ true → lost x ≡ label
  lost_nothing x none = λ i a b. same a b i
    where
      same : (a b : ℕ) → lost x a b ≡ label a b
      same a b =
          ap (λ r. cond ((a == x) && (b == y)) (minus (label a b) r) (label a b)) (none_held-same (common rights (label x y)) none)
          ∙ elim ((a == x) && (b == y)) as (λ v. cond v (minus (label a b) no_rights) (label a b) ≡ label a b) [
            | true ↦ minus-no_rights (label a b)
            | false ↦ refl
          ]

  none_left : labels_left label y rights [] ≡ label
  none_left = λ i a b. and_none (b == y) (minus (label a b) rights) (label a b) i

  -- one giver, and then the others
  module _ (x : ℕ) (xs : List ℕ) (fresh : list_any (λ z. z == x) xs ≡ false) (a b : ℕ) where
    abbrev others : Bool
    others = list_any (λ z. z == a) xs

    elsewhere : (b == y) ≡ false → labels_left (lost x) y rights xs a b ≡ labels_left label y rights (x ∷ xs) a b
    elsewhere off =
        ap (λ v. cond (v && others) (minus (lost x a b) rights) (lost x a b)) off
        ∙ ap (λ v. cond ((a == x) && v) (minus (label a b) (common rights (label x y))) (label a b)) off
        ∙ and_none (a == x) (minus (label a b) (common rights (label x y))) (label a b)
        ∙ sym (ap (λ v. cond (v && ((x == a) || others)) (minus (label a b) rights) (label a b)) off)

    of_another : (x == a) ≡ false → labels_left (lost x) y rights xs a b ≡ labels_left label y rights (x ∷ xs) a b
    of_another off =
        let same = lost_others x a b (λ at. eqb-false x a off (sym at)) in
        (λ i. cond ((b == y) && others) (minus (same i) rights) (same i))
        ∙ ap (λ v. cond ((b == y) && (v || others)) (minus (label a b) rights) (label a b)) (sym off)

    here : (b == y) ≡ true → (x == a) ≡ true → labels_left (lost x) y rights xs a b ≡ labels_left label y rights (x ∷ xs) a b
    here on own =
        let at : x ≡ a = eqb-true x a own in
        let over : b ≡ y = eqb-true b y on in
        let no_other : others ≡ false = subst (λ k. list_any (λ z. z == k) xs ≡ false) at fresh in
        (λ i. cond (on i && no_other i) (minus (lost x a b) rights) (lost x a b))
        ∙ (λ i. cond (eq-eqb a x (sym at) i && on i) (minus (label a b) (common rights (label x y))) (label a b))
        ∙ (λ i. minus (label a b) (common rights (label (at i) (sym over i))))
        ∙ minus-common (label a b) rights
        ∙ sym (λ i. cond (on i && (own i || others)) (minus (label a b) rights) (label a b))

    left_more : labels_left (lost x) y rights xs a b ≡ labels_left label y rights (x ∷ xs) a b
    left_more =
        elim (b == y) as (λ v. (b == y) ≡ v → labels_left (lost x) y rights xs a b ≡ labels_left label y rights (x ∷ xs) a b) [
          | false ↦ elsewhere
          | true ↦ λ on.
              elim (x == a) as (λ v. (x == a) ≡ v → labels_left (lost x) y rights xs a b ≡ labels_left label y rights (x ∷ xs) a b) [
                | false ↦ of_another
                | true ↦ here on
              ] refl
        ] refl

  -- the givers after one hold over y what they held
  given_same : (x : ℕ) (xs : List ℕ) → list_any (λ z. z == x) xs ≡ false → given_up (lost x) y rights xs ≡ given_up label y rights xs
  given_same x xs fresh = ap (filter (λ (e : ℕ × RightSet). not (is_none_held e.1))) (each xs fresh)
    where
      each : (zs : List ℕ) → list_any (λ z. z == x) zs ≡ false → map {B = ℕ × RightSet} (λ z. (z, common rights (lost x z y))) zs ≡ map {B = ℕ × RightSet} (λ z. (z, common rights (label z y))) zs
      each [] none = refl
      each (z ∷ zs) none =
          let parts = or_parts (z == x) (list_any (λ k. k == x) zs) none in
          (λ i. (z, common rights (lost_others x z y (eqb-false z x parts.0) i)) ∷ each zs parts.1 i)

-- ---- all givers

-- each name comes once
abbrev Apart : List ℕ → Type 0
Apart [] = Unit {0}
Apart (x ∷ xs) = (list_any (λ z. z == x) xs ≡ false) × Apart xs

apart_rising : (xs : List ℕ) → AllPairs (λ a b. a < b) xs → Apart xs
apart_rising [] rise = tt
apart_rising (x ∷ xs) rise = (
  list_any_none (λ z. z == x) xs (λ k d low. ne_eqb (get_or xs k d) x (λ same. let less = rise 0 (suc k) d (omega arith) (omega (arith, low)) in omega (arith, less, same))),
  apart_rising xs (λ i j d lt low. rise (suc i) (suc j) d (omega (arith, lt)) (omega (arith, low))),
)

-- these entries are legal, and lead to the labels that are left
pub record Withdraws (y : ℕ) (rights : RightSet) (givers : List ℕ) (g : ProtectionGraph) (es : List Entry) : Type 0 where
  pub legal : IsLegal g es
  pub graph : graph_after g es ≡ with_labels_of g (labels_left g.label y rights givers)

module _ (y : ℕ) (rights : RightSet) where
  abbrev entries_of : ProtectionGraph → List ℕ → List Entry
  entries_of g givers = map (removal_over y) (given_up g.label y rights givers)

  gives_nothing : (g : ProtectionGraph) (x : ℕ) (xs : List ℕ) → list_any (λ z. z == x) xs ≡ false → is_none_held (common rights (g.label x y)) ≡ true
      → Withdraws y rights xs g (entries_of g xs) → Withdraws y rights (x ∷ xs) g (entries_of g xs)
  gives_nothing g x xs fresh none rest = record {
    legal = rest.legal;
    graph =
        rest.graph
        ∙ (λ i. with_labels_of g (labels_left (sym (lost_nothing g.label y rights x none) i) y rights xs))
        ∙ (λ i. with_labels_of g (λ a b. left_more g.label y rights x xs fresh a b i));
  }

  gives_something : (g : ProtectionGraph) (x : ℕ) (xs : List ℕ) → IsSubject g x → x ≢ y → list_any (λ z. z == x) xs ≡ false
      → Withdraws y rights xs (with_labels_of g (lost g.label y rights x)) (entries_of (with_labels_of g (lost g.label y rights x)) xs)
      → Withdraws y rights (x ∷ xs) g (removal_over y (x, common rights (g.label x y)) ∷ entries_of g xs)
  gives_something g x xs subject apart fresh next =
      let next_graph : ProtectionGraph = with_labels_of g (lost g.label y rights x) in
      let rest : Withdraws y rights xs next_graph (entries_of g xs) = subst (λ es. Withdraws y rights xs next_graph (map (removal_over y) es)) (given_same g.label y rights x xs fresh) next in
      let stepped = step_removal g x y rights subject apart in
      record {
        legal = (legal_removal g x y rights subject apart, subst (λ (h : ProtectionGraph). IsLegal h (entries_of g xs)) (sym stepped) rest.legal);
        graph =
            ap (λ (h : ProtectionGraph). graph_after h (entries_of g xs)) stepped
            ∙ rest.graph
            ∙ (λ i. with_labels_of g (λ a b. left_more g.label y rights x xs fresh a b i));
      }

  withdraws : (givers : List ℕ) (g : ProtectionGraph) → ((x : ℕ) → Contains givers x → IsSubject g x) → Apart givers → g.label y y ≡ no_rights → Withdraws y rights givers g (entries_of g givers)
  withdraws [] g subjects apart loop = record { legal = tt; graph = ap (λ label. with_labels_of g label) (sym (none_left g.label y rights)) }
  withdraws (x ∷ xs) g subjects apart loop =
      let rest = entries_of g xs in
      let others : (z : ℕ) → Contains xs z → IsSubject g z = λ z has. subjects z (Contains-more x xs z has) in
      elim (is_none_held (common rights (g.label x y))) as (λ v. is_none_held (common rights (g.label x y)) ≡ v
      → Withdraws y rights (x ∷ xs) g (map (removal_over y) (cond (not v) ((x, common rights (g.label x y)) ∷ given_up g.label y rights xs) (given_up g.label y rights xs)))) [
        | true ↦ λ none. gives_nothing g x xs apart.0 none (withdraws xs g others apart.1 loop)
        | false ↦ λ some.
            let other : x ≢ y = λ same. true≢false (sym (ap is_none_held (ap (λ z. common rights (g.label z y)) same ∙ ap (common rights) loop ∙ nothing_shared rights)) ∙ some) in
            gives_something g x xs (subjects x (Contains-here x xs)) other apart.0
            (withdraws xs (with_labels_of g (lost g.label y rights x)) others apart.1 (lost_others g.label y rights x y y (λ same. other (sym same)) ∙ loop))
      ] refl

module _ (g : ProtectionGraph) (sound : IsSound g) (y : ℕ) (rights : RightSet) (keep : List ℕ) where
  abbrev givers : List ℕ
  givers = givers_among g.subjects keep

  pub giver_acts : (x : ℕ) → Contains givers x → IsSubject g x
  giver_acts x has = (Contains-from_filter (λ z. not (list_any (λ k. k == z) keep)) g.subjects x has).0

  all_given : Withdraws y rights givers g (withdrawing g y rights keep)
  all_given = withdraws y rights givers g giver_acts
      (apart_rising givers (AllPairs-from_increasing givers (IsStrictlyIncreasing-filter (λ z. not (list_any (λ k. k == z) keep)) g.subjects sound.rising)))
      (sound.no_loop y)

  pub legal_withdrawing : IsLegal g (withdrawing g y rights keep)
  legal_withdrawing = all_given.legal

  pub graph_withdrawn : graph_after g (withdrawing g y rights keep) ≡ withdrawn g y rights keep
  graph_withdrawn = all_given.graph

-- ---- on a content

edge_kept : (t : Bool) (s r : RightSet) → is_none_held (cond t (minus s r) s) ≡ false → is_none_held s ≡ false
edge_kept true s r some = some_minus s r some
edge_kept false s r some = some

-- an edge that is left was there before
pub edge_before : (label : ℕ → ℕ → RightSet) (y : ℕ) (rights : RightSet) (givers : List ℕ) (a b : ℕ) → HasEdge (labels_left label y rights givers) a b → HasEdge label a b
edge_before label y rights givers a b = edge_kept ((b == y) && list_any (λ x. x == a) givers) (label a b) rights

-- what is left of the content represents what is left of the graph
pub stands_left : (c : Content) (g : ProtectionGraph) → IsContentOf c g → (y : ℕ) (rights : RightSet) (givers : List ℕ)
    → IsContentOf (record c { label = labels_left c.label y rights givers }) (with_labels_of g (labels_left g.label y rights givers))
stands_left c g stands y rights givers = record {
  made = stands.made;
  reachable = λ x reached. stands.reachable x (Walk-map (λ z is. is) (λ a b edge. edge_before g.label y rights givers a b edge) x reached);
  closed = λ a b named edge. stands.closed a b named (edge_before g.label y rights givers a b edge);
  labels = λ a b named. ap (λ s. cond ((b == y) && list_any (λ x. x == a) givers) (minus s rights) s) (stands.labels a b named);
  values = stands.values;
}

-- ---- the store

module _ (old new : StoreState) (y : ℕ) (rights : RightSet) (keep : List ℕ) (faithful : IsFaithful old)
    (opening : new.opening ≡ old.opening) (entries : new.entries ≡ old.entries ++ withdrawing (graph_of_store old) y rights keep) where
  abbrev before : ProtectionGraph
  before = graph_of_store old

  pub graph_after_withdrawal : graph_of_store new ≡ withdrawn before y rights keep
  graph_after_withdrawal = graph-grown old new (withdrawing before y rights keep) opening entries ∙ graph_withdrawn before (sound_of old faithful) y rights keep

  pub IsStore-withdrawn : (made : ℕ) → made ≡ before.made → IsContentOf (content_of new.heap) (graph_after before (withdrawing before y rights keep))
      → subject_names new.heap ≡ subject_names old.heap → IsStore new made
  IsStore-withdrawn made is_made stands names =
      let left = graph_withdrawn before (sound_of old faithful) y rights keep in
      IsStore-grown old new (withdrawing before y rights keep) opening entries made faithful (legal_withdrawing before (sound_of old faithful) y rights keep) stands
      (names ∙ faithful.subjects ∙ ap (λ (h : ProtectionGraph). h.subjects) (sym left))
      (is_made ∙ ap (λ (h : ProtectionGraph). h.made) (sym left))

-- ---- a right of which nobody is reported

module _ (rights : RightSet) where
  -- none of the rights is in the set
  abbrev Clear : RightSet → Type 0
  Clear s = (x : Right) → (has rights x && has s x) ≡ false

  clear_of : (s : RightSet) → is_none_held (common rights s) ≡ true → Clear s
  clear_of s none x = sym (has-set_where (λ z. has rights z && has s z) x) ∙ has-none_held (common rights s) none x

  none_of : (s : RightSet) → Clear s → is_none_held (common rights s) ≡ true
  none_of s clear = ap is_none_held (λ i. set_where (λ x. clear x i))

  neither : (a b c : Bool) → (a && b) ≡ false → (a && c) ≡ false → (a && (b || c)) ≡ false
  neither true true c h k = h
  neither true false c h k = k
  neither false b c h k = refl

  clear_union : (s r : RightSet) → Clear s → Clear r → Clear (union s r)
  clear_union s r h k x = ap (λ v. has rights x && v) (has-union s r x) ∙ neither (has rights x) (has s x) (has r x) (h x) (k x)

  fewer : (a b c : Bool) → (a && b) ≡ false → (a && (b && c)) ≡ false
  fewer true true c h = absurd (true≢false h)
  fewer true false c h = refl
  fewer false b c h = refl

  clear_minus : (s r : RightSet) → Clear s → Clear (minus s r)
  clear_minus s r h x = ap (λ v. has rights x && v) (has-minus s r x) ∙ fewer (has rights x) (has s x) (not (has r x)) (h x)

  below : (a b c : Bool) → (c ≡ true → b ≡ true) → (a && b) ≡ false → (a && c) ≡ false
  below a b true h k = ap (λ v. a && v) (sym (h refl)) ∙ k
  below a b false h k = none_and a

  clear_held : (s r : RightSet) → holds_all s r ≡ true → Clear s → Clear r
  clear_held s r all h x = below (has rights x) (has s x) (has r x) (has-holds_all s r all x) (h x)

  clear_empty : (s : RightSet) → (is_none_held s ≡ false → ⊥) → Clear s
  clear_empty s empty x =
      elim (is_none_held s) as (λ v. is_none_held s ≡ v → (has rights x && has s x) ≡ false) [
        | true ↦ λ none. ap (λ v. has rights x && v) (has-none_held s none x) ∙ none_and (has rights x)
        | false ↦ λ some. absurd (empty some)
      ] refl

  clear_if : (t : Bool) (s r : RightSet) → (t ≡ true → Clear r) → Clear s → Clear (cond t r s)
  clear_if true s r h k = h refl
  clear_if false s r h k = k

  module _ (y : ℕ) where
    -- nobody who is reached holds any of the rights over y
    abbrev pub NobodyHolds : ProtectionGraph → Type 0
    NobodyHolds g = (a : ℕ) → IsReachable g a → Clear (g.label a y)

    module _ (g : ProtectionGraph) (x : ℕ) (subject : IsSubject g x) (nobody : NobodyHolds g) where
      over : (a b z : ℕ) → ((a == b) && (y == z)) ≡ true → y ≡ z
      over a b z both = eqb-true y z (and_parts (a == b) (y == z) both).1

      clear_after : (a : ℕ) → Clear (g.label a y) → (command : Command) → Permits g.label g.value x command → Clear (labels_after g.label x command a y)
      clear_after a clear (Take r via z) allowed =
          clear_if ((a == x) && (y == z)) (g.label a y) (union (g.label a y) r)
          (λ both. clear_union (g.label a y) r clear
          (clear_held (g.label via y) r (subst (λ k. holds_all (g.label via k) r ≡ true) (sym (over a x z both)) allowed.4)
          (nobody via (goes (begins subject) (HasEdge-holds g.label x via (only right.T) allowed.3 refl))))) clear
      clear_after a clear (Grant r via z) allowed =
          clear_if ((a == via) && (y == z)) (g.label a y) (union (g.label a y) r)
          (λ both. clear_union (g.label a y) r clear
          (clear_held (g.label x y) r (subst (λ k. holds_all (g.label x k) r ≡ true) (sym (over a via z both)) allowed.4)
          (nobody x (begins subject)))) clear
      clear_after a clear (Remove r z) allowed =
          clear_if ((a == x) && (y == z)) (g.label a y) (minus (g.label a y) r) (λ both. clear_minus (g.label a y) r clear) clear
      clear_after a clear command allowed = clear

      module _ (sound : IsSound g) (made : y < g.made) where
        -- the one that is made next holds nothing, and nobody holds rights over it yet
        known : (a : ℕ) → IsReachable g a ⊎ (a ≡ g.made) → Clear (g.label a y)
        known a = ⊎_elim (nobody a) (λ new. clear_empty (g.label a y) (λ edge. let ends = sound.ends_made a y edge in omega (arith, new, ends.0)))

        clear_made : (a : ℕ) (r : RightSet) → Clear (g.label a y) → Clear (with_rights g.label x g.made r a y)
        clear_made a r clear =
            clear_if ((a == x) && (y == g.made)) (g.label a y) (union (g.label a y) r)
            (λ both. let same = over a x g.made both in absurd (omega (arith, same, made))) clear

        nobody_step : (deed : Deed) → NobodyHolds (step g x deed)
        nobody_step (Create r law state) a reached =
            let was = known a (IsReachable-step g x subject sound (Create r law state) a reached) in
            create_cases g x (λ (k : ProtectionGraph). Clear (k.label a y)) r law state was (λ room. clear_made a r was)
        nobody_step (Spawn r law state) a reached =
            let was = known a (IsReachable-step g x subject sound (Spawn r law state) a reached) in
            spawn_cases g x (λ (k : ProtectionGraph). Clear (k.label a y)) r law state was (λ room few. clear_made a r was)
        nobody_step (Plain command) a reached =
            let was = nobody a (IsReachable-plain g x subject command a reached) in
            plain_cases g x (λ (k : ProtectionGraph). Clear (k.label a y)) command was (λ allowed. clear_after a was command allowed)

    pub nobody_after : (g : ProtectionGraph) (es : List Entry) → IsSound g → y < g.made → IsLegal g es → NobodyHolds g → NobodyHolds (graph_after g es)
    nobody_after g [] sound made legal nobody = nobody
    nobody_after g (e ∷ es) sound made legal nobody =
        let le = le-step-made g e.worker e.deed in
        nobody_after (step g e.worker e.deed) es (IsSound-step g sound e.worker legal.0.subject e.deed) (omega (arith, made, le)) legal.1
        (nobody_step g e.worker legal.0.subject nobody sound made e.deed)

-- who is reported and who holds some are the same, where that is nobody
pub nobody_of : (g : ProtectionGraph) (rights : RightSet) (y : ℕ) → AreHoldersOfSome g rights y [] → NobodyHolds rights y g
nobody_of g rights y are a reached =
    clear_of rights (g.label a y) (elim (is_none_held (common rights (g.label a y))) as (λ v. is_none_held (common rights (g.label a y)) ≡ v → v ≡ true) [
      | true ↦ λ none. refl
      | false ↦ λ some. absurd (Contains-none a ((are.each a).1 (reached, some)))
    ] refl)

pub of_nobody : (g : ProtectionGraph) (rights : RightSet) (y : ℕ) → NobodyHolds rights y g → AreHoldersOfSome g rights y []
of_nobody g rights y nobody = record {
  rising = λ k inside. absurd (omega (arith, inside));
  each = λ x. (λ has. absurd (Contains-none x has), λ is. absurd (true≢false (sym (none_of rights (g.label x y) (nobody x is.0)) ∙ is.1)));
}

pub never_again : (g : ProtectionGraph) (rights : RightSet) (y : ℕ) (es : List Entry) → IsSound g → y < g.made → AreHoldersOfSome g rights y [] → IsLegal g es → AreHoldersOfSome (graph_after g es) rights y []
never_again g rights y es sound made are legal = of_nobody (graph_after g es) rights y (nobody_after rights y g es sound made legal (nobody_of g rights y are))

-- ---- what the labels that are left say

module _ (g : ProtectionGraph) (y : ℕ) (rights : RightSet) (keep : List ℕ) where
  abbrev those : List ℕ
  those = givers_among g.subjects keep

  -- a giver is an active subject outside of the list
  is_giver : (x : ℕ) → IsSubject g x → (Contains keep x → ⊥) → list_any (λ z. z == x) those ≡ true
  is_giver x subject outside =
      any_of x those (Contains-filter (λ z. not (list_any (λ k. k == z) keep)) g.subjects x subject (ap not (not_any x keep outside)))

  -- none of the rights is left with a giver
  pub nothing_left : (x : ℕ) → IsSubject g x → (Contains keep x → ⊥) → is_none_held (common rights ((withdrawn g y rights keep).label x y)) ≡ true
  nothing_left x subject outside =
      ap (λ s. is_none_held (common rights s)) (λ i. cond (eq-eqb y y refl i && is_giver x subject outside i) (minus (g.label x y) rights) (g.label x y))
      ∙ common-minus (g.label x y) rights

  -- nobody else's label changes
  pub label_kept : (a b : ℕ) → (b ≢ y) ⊎ (Contains keep a ⊎ (IsSubject g a → ⊥)) → (withdrawn g y rights keep).label a b ≡ g.label a b
  label_kept a b (inl elsewhere) = ap (λ v. cond (v && list_any (λ x. x == a) those) (minus (g.label a b) rights) (g.label a b)) (ne_eqb b y elsewhere)
  label_kept a b (inr which) =
      ap (λ v. cond ((b == y) && v) (minus (g.label a b) rights) (g.label a b)) (not_any a those (λ has.
      let is = Contains-from_filter (λ z. not (list_any (λ k. k == z) keep)) g.subjects a has in
      ⊎_elim (λ kept. true≢false (sym (any_of a keep kept) ∙ true_not_false (list_any (λ k. k == a) keep) is.1)) (λ none. none is.0) which))
      ∙ and_none (b == y) (minus (g.label a b) rights) (g.label a b)

  and_true : (b : Bool) → (b && true) ≡ b
  and_true true = refl
  and_true false = refl

  -- rights that aren't withdrawn stay
  pub rest_kept : (a b : ℕ) (right : Right) → has rights right ≡ false → has ((withdrawn g y rights keep).label a b) right ≡ has (g.label a b) right
  rest_kept a b right other =
      elim ((b == y) && list_any (λ x. x == a) those) as (λ v. has (cond v (minus (g.label a b) rights) (g.label a b)) right ≡ has (g.label a b) right) [
        | true ↦ has-minus (g.label a b) rights right ∙ ap (λ v. has (g.label a b) right && not v) other ∙ and_true (has (g.label a b) right)
        | false ↦ refl
      ]

-- The entries by which a user is unparked are legal, and the user then holds what the account holds.
use Rattle.std.proofs.Common.{◌≡◌, ◌≢◌, ◌∙◌, ◌⊎◌, ⊎_elim, ℕ, ◌==◌, ◌&&◌, true, false, cond, List, [], ◌∷◌, ◌++◌, map, refl, sym, ap, subst}
use Rattle.std.specs.Prelude.{None}
use Rattle.std.proofs.lemmas.Bool.{and_parts, eqb-true, eqb-false, eq-eqb, ne_eqb}
use Rattle.tg_rights.specs.RightSet.{RightSet, holds_all, minus, no_rights, only, union}
use Rattle.tg_rights.specs.declared.Right.TheVariants as right
use Rattle.tg_model.specs.declared.command.Command.{Command}
use Rattle.tg_model.specs.declared.command.Command.TheVariants.{Take, Remove}
use Rattle.tg_model.specs.declared.command.Deed.TheVariants.{Plain}
use Rattle.tg_model.specs.Graph.{ProtectionGraph, IsSound, IsSubject, listing_of, with_rights, without_rights}
use Rattle.tg_model.specs.Rules.{HoldsOver, Permits, denial_of, step}
use Rattle.tg_model.proofs.AllowedLaws.{permits-no_denial, step-allowed}
use Rattle.tg_journal.specs.declared.entry.Entry.{Entry}
use Rattle.tg_journal.specs.History.{IsLegal, graph_after}
use Rattle.tg_journal.proofs.HistoryLaws.{IsLegal-append, graph_after-append}
use Rattle.tg_store.specs.declared.parking.Parking.{Parking}
use Rattle.tg_store.specs.Leaving.{removal}
use Rattle.tg_store.specs.Parking.{IsUnused, with_all_of}
use Rattle.tg_store.specs.Unparking.{MayUnpark, take_key_of, taking, unparked, unparking}
use Rattle.tg_store.specs.Inner.Parking.{given}
use Rattle.tg_store.proofs.FillLaws.{AreEdges, given_elsewhere, given_others, minus_self, not_named, row_edges, with_others, with_own, without_others, without_own}
use Rattle.tg_store.proofs.ParkGraph.{given_row, holds_own, legal_done, not_none, with_labels}

-- ---- edges are taken out of the account

module _ (p : Parking) (f : ℕ → RightSet) (apart : p.user ≢ p.account) (none_account : f p.account ≡ no_rights) (none_user : f p.user ≡ no_rights) where
  -- these edges of the account are taken, one after the other
  record TakesOut (g : ProtectionGraph) (es : List (ℕ × RightSet)) : Type 0 where
    pub legal : IsLegal g (map (taking p) es)
    pub graph : graph_after g (map (taking p) es) ≡ with_labels g (given g.label p.user es)

  takes_out : (es : List (ℕ × RightSet)) (g : ProtectionGraph) → IsSubject g p.user → HoldsOver g.label p.user p.account (only right.T)
      → ((y : ℕ) → g.label p.account y ≡ f y) → AreEdges f es → TakesOut g es
  takes_out [] g subject key same are = record { legal = tt; graph = refl }
  takes_out (e ∷ es) g subject key same are =
      let from_account : e.0 ≢ p.account = not_none f e.0 p.account are.1 none_account in
      let from_user : e.0 ≢ p.user = not_none f e.0 p.user are.1 none_user in
      let command : Command = Take e.1 p.account e.0 in
      let held : HoldsOver g.label p.account e.0 e.1 = (λ i. holds_all (same e.0 i) (are.0 i)) ∙ holds_own (f e.0) in
      let permits : Permits g.label g.value p.user command = (apart, (λ is. from_account (sym is)), (λ is. from_user (sym is)), key, held) in
      let next : ProtectionGraph = with_labels g (with_rights g.label p.user e.0 e.1) in
      let stepped : step g p.user (Plain command) ≡ next = step-allowed g p.user command permits in
      let key_kept : next.label p.user p.account ≡ g.label p.user p.account =
      with_own g.label p.user e.0 e.1 p.account
      ∙ ap (λ v. cond v (union (g.label p.user p.account) e.1) (g.label p.user p.account)) (ne_eqb p.account e.0 (λ is. from_account (sym is))) in
      let row_kept : (y : ℕ) → next.label p.account y ≡ g.label p.account y = λ y. with_others g.label p.user e.0 e.1 p.account y (λ is. apart (sym is)) in
      let rest : TakesOut next es = takes_out es next subject (ap (λ s. holds_all s (only right.T)) key_kept ∙ key) (λ y. row_kept y ∙ same y) are.2 in
      record {
        legal = (legal_done g p.user command subject permits refl, subst (λ (k : ProtectionGraph). IsLegal k (map (taking p) es)) (sym stepped) rest.legal);
        graph = ap (λ (k : ProtectionGraph). graph_after k (map (taking p) es)) stepped ∙ rest.graph;
      }

-- ---- the host leaves the account

module _ (g : ProtectionGraph) (p : Parking) (host_user : p.host ≢ p.user) (host_account : p.host ≢ p.account) where
  abbrev held : RightSet
  held = g.label p.host p.account

  -- the graph once the user has the edges
  abbrev drawn : ProtectionGraph
  drawn = with_all_of g p.account p.user

  pub may_leave : Permits drawn.label drawn.value p.host (Remove held p.account)
  may_leave = (
    host_account,
    ap (λ v. holds_all (cond v (g.label p.account p.account) held) held) (ne_eqb p.host p.user host_user) ∙ holds_own held,
  )

  host_left : (a b : ℕ) → without_rights drawn.label p.host p.account held a b ≡ (unparked g p).label a b
  host_left a b =
      elim (a == p.user) as (λ v. (a == p.user) ≡ v →
      cond ((a == p.host) && (b == p.account)) (minus (cond v (g.label p.account b) (g.label a b)) held) (cond v (g.label p.account b) (g.label a b))
      ≡ cond v (g.label p.account b) (cond ((a == p.host) && (b == p.account)) no_rights (g.label a b))) [
        | true ↦ λ is.
            ap (λ v. cond (v && (b == p.account)) (minus (g.label p.account b) held) (g.label p.account b))
            (ne_eqb a p.host (λ same. host_user (sym same ∙ eqb-true a p.user is)))
        | false ↦ λ _.
            elim ((a == p.host) && (b == p.account)) as (λ v. ((a == p.host) && (b == p.account)) ≡ v → cond v (minus (g.label a b) held) (g.label a b) ≡ cond v no_rights (g.label a b)) [
              | true ↦ λ both.
                  let parts = and_parts (a == p.host) (b == p.account) both in
                  let same : g.label a b ≡ held = λ i. g.label (eqb-true a p.host parts.0 i) (eqb-true b p.account parts.1 i) in
                  ap (λ s. minus s held) same ∙ minus_self held
              | false ↦ λ _. refl
            ] refl
      ] refl

  pub step_left : step drawn p.host (Plain (Remove held p.account)) ≡ unparked g p
  step_left = step-allowed drawn p.host (Remove held p.account) may_leave ∙ (λ i. with_labels g (λ a b. host_left a b i))

-- ---- the user is unparked

module _ (g : ProtectionGraph) (p : Parking) (sound : IsSound g) (host : IsSubject g p.host) (user : IsSubject g p.user)
    (none : denial_of g.label g.value p.host (take_key_of p) ≡ None) (unused : IsUnused g.label p.account p.user) where
  abbrev row : List (ℕ × RightSet)
  row = listing_of g.label g.made p.account

  permitted : Permits g.label g.value p.host (take_key_of p)
  permitted = permits-no_denial g.label g.value p.host (take_key_of p) none

  host_user : p.host ≢ p.user
  host_user = permitted.0

  apart : p.user ≢ p.account
  apart = permitted.1

  pub may_unpark : MayUnpark g p
  may_unpark = record { apart = (permitted.0, permitted.1, permitted.2); user = permitted.3; account = permitted.4 }

  -- the graph once the user has the key, and once it took the edges
  abbrev opened : ProtectionGraph
  opened = with_labels g (with_rights g.label p.user p.account (only right.T))

  abbrev took : ProtectionGraph
  took = with_labels opened (given opened.label p.user row)

  step_key : step g p.host (Plain (take_key_of p)) ≡ opened
  step_key = step-allowed g p.host (take_key_of p) permitted

  edges : AreEdges (g.label p.account) row
  edges = row_edges g.made 0 (g.label p.account)

  opened_at : opened.label p.user p.account ≡ only right.T
  opened_at =
      with_own g.label p.user p.account (only right.T) p.account
      ∙ ap (λ v. cond v (union (g.label p.user p.account) (only right.T)) (g.label p.user p.account)) (eq-eqb p.account p.account refl)
      ∙ ap (λ s. union s (only right.T)) (unused.empty p.account)

  key_held : HoldsOver opened.label p.user p.account (only right.T)
  key_held = ap (λ s. holds_all s (only right.T)) opened_at

  account_row : (y : ℕ) → opened.label p.account y ≡ g.label p.account y
  account_row y = with_others g.label p.user p.account (only right.T) p.account y (λ is. apart (sym is))

  takes : TakesOut p (g.label p.account) apart (sound.no_loop p.account) unused.apart opened row
  takes = takes_out p (g.label p.account) apart (sound.no_loop p.account) unused.apart row opened user key_held account_row edges

  -- the key stays while the user takes
  took_key : took.label p.user p.account ≡ only right.T
  took_key = given_elsewhere row opened.label p.user p.account (not_named row (g.label p.account) p.account edges (sound.no_loop p.account)) ∙ opened_at

  give_up : Permits took.label took.value p.user (Remove (only right.T) p.account)
  give_up = (apart, ap (λ s. holds_all s (only right.T)) took_key)

  -- once the key is given up, the user holds what the account holds
  own : (b : ℕ) → without_rights took.label p.user p.account (only right.T) p.user b ≡ g.label p.account b
  own b =
      without_own took.label p.user p.account (only right.T) b
      ∙ elim (b == p.account) as (λ v. (b == p.account) ≡ v → cond v (minus (took.label p.user b) (only right.T)) (took.label p.user b) ≡ g.label p.account b) [
        | true ↦ λ is.
            let here : b ≡ p.account = eqb-true b p.account is in
            ap (λ (y : ℕ). minus (took.label p.user y) (only right.T)) here ∙ ap (λ s. minus s (only right.T)) took_key ∙ minus_self (only right.T)
            ∙ sym (ap (λ (y : ℕ). g.label p.account y) here ∙ sound.no_loop p.account)
        | false ↦ λ isnt.
            given_row g sound p.account opened.label p.user b
            (with_own g.label p.user p.account (only right.T) b
            ∙ ap (λ v. cond v (union (g.label p.user b) (only right.T)) (g.label p.user b)) isnt ∙ unused.empty b)
      ] refl

  labels : (a b : ℕ) → without_rights took.label p.user p.account (only right.T) a b ≡ (with_all_of g p.account p.user).label a b
  labels a b =
      elim (a == p.user) as (λ v. (a == p.user) ≡ v → without_rights took.label p.user p.account (only right.T) a b ≡ cond v (g.label p.account b) (g.label a b)) [
        | true ↦ λ is. ap (λ (x : ℕ). without_rights took.label p.user p.account (only right.T) x b) (eqb-true a p.user is) ∙ own b
        | false ↦ λ isnt.
            let other : a ≢ p.user = eqb-false a p.user isnt in
            without_others took.label p.user p.account (only right.T) a b other ∙ given_others row opened.label p.user a b other
            ∙ with_others g.label p.user p.account (only right.T) a b other
      ] refl

  step_give_up : step took p.user (Plain (Remove (only right.T) p.account)) ≡ with_all_of g p.account p.user
  step_give_up = step-allowed took p.user (Remove (only right.T) p.account) give_up ∙ (λ i. with_labels g (λ a b. labels a b i))

  -- ---- the entries

  abbrev given_up : Entry
  given_up = removal p.user (p.account, only right.T)

  abbrev left : Entry
  left = removal p.host (p.account, g.label p.host p.account)

  abbrev at_last : List Entry
  at_last = given_up ∷ left ∷ []

  legal_last : IsLegal took at_last
  legal_last = (
    legal_done took p.user (Remove (only right.T) p.account) user give_up refl,
    subst (λ (k : ProtectionGraph). IsLegal k (left ∷ [])) (sym step_give_up)
        (legal_done (with_all_of g p.account p.user) p.host (Remove (g.label p.host p.account) p.account) host (may_leave g p host_user permitted.2) refl, tt),
  )

  pub legal_unparking : IsLegal g (unparking g p)
  legal_unparking = (
    legal_done g p.host (take_key_of p) host permitted refl,
    subst (λ (k : ProtectionGraph). IsLegal k (map (taking p) row ++ at_last)) (sym step_key)
        (IsLegal-append opened (map (taking p) row) at_last takes.legal (subst (λ (k : ProtectionGraph). IsLegal k at_last) (sym takes.graph) legal_last)),
  )

  pub graph_unparked : graph_after g (unparking g p) ≡ unparked g p
  graph_unparked =
      ap (λ (k : ProtectionGraph). graph_after k (map (taking p) row ++ at_last)) step_key
      ∙ graph_after-append opened (map (taking p) row) at_last
      ∙ ap (λ (k : ProtectionGraph). graph_after k at_last) takes.graph
      ∙ ap (λ (k : ProtectionGraph). step k p.host (Plain (Remove (g.label p.host p.account) p.account))) step_give_up
      ∙ step_left g p host_user permitted.2

-- ---- the labels afterwards

module _ (g : ProtectionGraph) (p : Parking) where
  pub unparked_user : (y : ℕ) → (unparked g p).label p.user y ≡ g.label p.account y
  unparked_user y =
      ap (λ v. cond v (g.label p.account y) (cond ((p.user == p.host) && (y == p.account)) no_rights (g.label p.user y))) (eq-eqb p.user p.user refl)

  pub unparked_host : p.host ≢ p.user → (unparked g p).label p.host p.account ≡ no_rights
  unparked_host other =
      ap (λ v. cond v (g.label p.account p.account) (cond ((p.host == p.host) && (p.account == p.account)) no_rights (g.label p.host p.account))) (ne_eqb p.host p.user other)
      ∙ (λ i. cond (eq-eqb p.host p.host refl i && eq-eqb p.account p.account refl i) no_rights (g.label p.host p.account))

  pub unparked_others : (x y : ℕ) → x ≢ p.user → (x ≢ p.host) ⊎ (y ≢ p.account) → (unparked g p).label x y ≡ g.label x y
  unparked_others x y other elsewhere =
      ap (λ v. cond v (g.label p.account y) (cond ((x == p.host) && (y == p.account)) no_rights (g.label x y))) (ne_eqb x p.user other)
      ∙ ⊎_elim
      (λ from_host. ap (λ v. cond (v && (y == p.account)) no_rights (g.label x y)) (ne_eqb x p.host from_host))
      (λ from_account.
      elim (x == p.host) as (λ v. cond (v && (y == p.account)) no_rights (g.label x y) ≡ g.label x y) [
        | true ↦ ap (λ v. cond v no_rights (g.label x y)) (ne_eqb y p.account from_account)
        | false ↦ refl
      ])
      elsewhere

  pub unparked_left : MayUnpark g p → ((x : ℕ) → x ≢ p.host → g.label x p.account ≡ no_rights) → (x : ℕ) → (unparked g p).label x p.account ≡ no_rights
  unparked_left may none x =
      elim (x == p.user) as (λ v. cond v (g.label p.account p.account) (cond ((x == p.host) && (p.account == p.account)) no_rights (g.label x p.account)) ≡ no_rights) [
        | true ↦ none p.account (λ is. may.apart.2 (sym is))
        | false ↦
            elim (x == p.host) as (λ v. (x == p.host) ≡ v → cond (v && (p.account == p.account)) no_rights (g.label x p.account) ≡ no_rights) [
              | true ↦ λ _. ap (λ v. cond v no_rights (g.label x p.account)) (eq-eqb p.account p.account refl)
              | false ↦ λ isnt. none x (eqb-false x p.host isnt)
            ] refl
      ]

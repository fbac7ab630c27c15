-- The entries by which a user is parked are legal, and the account then holds what the user held.
use mathlib.Core.Bool.{true≢false}
use Rattle.std.proofs.Common.{◌≡◌, ◌≢◌, ◌∙◌, inl, ℕ, ◌<◌, ◌==◌, ◌&&◌, true, false, cond, List, [], ◌∷◌, ◌++◌, map, refl, sym, ap, subst, arith}
use Rattle.std.specs.Prelude.{None}
use Rattle.std.proofs.lemmas.Bool.{and_parts, eqb-true, eqb-false, eq-eqb, ne_eqb}
use Rattle.tg_rights.specs.RightSet.{RightSet, holds_all, is_none_held, minus, no_rights, only, union}
use Rattle.tg_rights.specs.declared.Right.TheVariants as right
use Rattle.tg_rights.proofs.RightLaws.{holds_all-union, none_held-same}
use Rattle.tg_model.specs.declared.command.Command.{Command}
use Rattle.tg_model.specs.declared.command.Command.TheVariants.{Grant, Remove}
use Rattle.tg_model.specs.declared.command.Deed.TheVariants.{Plain}
use Rattle.tg_model.specs.declared.reply.Reply.TheVariants as reply
use Rattle.tg_model.specs.Graph.{ProtectionGraph, IsSound, IsSubject, listing_of, with_rights, without_rights}
use Rattle.tg_model.specs.Rules.{HoldsOver, Permits, denial_of, denied_or, reply_of, step}
use Rattle.tg_model.proofs.AllowedLaws.{no_denial-permits, permits-no_denial, step-allowed}
use Rattle.tg_journal.specs.declared.entry.Entry.{Entry}
use Rattle.tg_journal.specs.History.{IsLegal, IsLegalEntry, graph_after}
use Rattle.tg_journal.proofs.HistoryLaws.{IsLegal-append, IsLegal-push, IsSound-after, graph_after-append, graph_after-push}
use Rattle.tg_store.specs.declared.parking.Parking.{Parking}
use Rattle.tg_store.specs.Handing.{done_by}
use Rattle.tg_store.specs.Leaving.{leaving, removal, retiring}
use Rattle.tg_store.specs.Parking.{IsUnused, MayPark, filling, key_of, parked, parking, putting, with_account}
use Rattle.tg_store.specs.Inner.Parking.{given}
use Rattle.tg_store.proofs.FillLaws.{AreEdges, given_others, given_own, has_name, minus_self, row_edges, row_from, row_has, with_others, with_own}
use Rattle.tg_store.proofs.LeaveLaws.{graph_left, legal_leaving}

abbrev pub with_labels : ProtectionGraph → (ℕ → ℕ → RightSet) → ProtectionGraph
with_labels g label = record g { label = label }

-- a command that is permitted is legal with the reply that it is done
pub legal_done : (g : ProtectionGraph) (x : ℕ) (command : Command) → IsSubject g x → Permits g.label g.value x command → reply_of g.label g.value g.made x command ≡ reply.Done
    → IsLegalEntry g (done_by x command)
legal_done g x command subject permits done = record {
  subject = subject;
  fits = tt;
  reply = sym done ∙ ap (λ d. denied_or d (reply_of g.label g.value g.made x command)) (sym (no_denial-permits g.label g.value x command permits));
}

pub holds_own : (s : RightSet) → holds_all s s ≡ true
holds_own s = ap is_none_held (minus_self s)

-- a name over which there are rights is not one over which there are none
pub not_none : (f : ℕ → RightSet) (x y : ℕ) → is_none_held (f x) ≡ false → f y ≡ no_rights → x ≢ y
not_none f x y some none is = true≢false (sym (ap is_none_held (ap f is ∙ none)) ∙ some)

-- ---- a row is given

module _ (g : ProtectionGraph) (sound : IsSound g) (from : ℕ) where
  -- what a vertex holds over a name that isn't in its row
  not_in_row : (y : ℕ) → has_name y (listing_of g.label g.made from) ≡ false → g.label from y ≡ no_rights
  not_in_row y isnt =
      elim (is_none_held (g.label from y)) as (λ v. is_none_held (g.label from y) ≡ v → g.label from y ≡ no_rights) [
        | true ↦ λ nothing. none_held-same (g.label from y) nothing
        | false ↦ λ some.
            let below : y < g.made = (sound.ends_made from y some).1 in
            absurd (true≢false (sym (row_has g.made 0 y (g.label from) (omega arith) (omega (arith, below)) some) ∙ isnt))
      ] refl

  -- who holds nothing over a name and is given the row holds over it what the vertex holds
  pub given_row : (label : ℕ → ℕ → RightSet) (to y : ℕ) → label to y ≡ no_rights → given label to (listing_of g.label g.made from) to y ≡ g.label from y
  given_row label to y none =
      let row : List (ℕ × RightSet) = listing_of g.label g.made from in
      given_own row label to (g.label from) y (row_edges g.made 0 (g.label from)) (inl none)
      ∙ elim (has_name y row) as (λ v. has_name y row ≡ v → cond v (g.label from y) (label to y) ≡ g.label from y) [
        | true ↦ λ _. refl
        | false ↦ λ isnt. none ∙ sym (not_in_row y isnt)
      ] refl

-- ---- edges are put into the account

module _ (p : Parking) (f : ℕ → RightSet) (apart : p.user ≢ p.account) (none_account : f p.account ≡ no_rights) (none_user : f p.user ≡ no_rights) where
  -- these edges of the user are put in, one after the other
  record PutsIn (g : ProtectionGraph) (es : List (ℕ × RightSet)) : Type 0 where
    pub legal : IsLegal g (map (putting p) es)
    pub graph : graph_after g (map (putting p) es) ≡ with_labels g (given g.label p.account es)

  puts_in : (es : List (ℕ × RightSet)) (g : ProtectionGraph) → IsSubject g p.user → HoldsOver g.label p.user p.account (only right.G)
      → ((y : ℕ) → y ≢ p.account → g.label p.user y ≡ f y) → AreEdges f es → PutsIn g es
  puts_in [] g subject key same are = record { legal = tt; graph = refl }
  puts_in (e ∷ es) g subject key same are =
      let from_account : e.0 ≢ p.account = not_none f e.0 p.account are.1 none_account in
      let from_user : e.0 ≢ p.user = not_none f e.0 p.user are.1 none_user in
      let command : Command = Grant e.1 p.account e.0 in
      let held : HoldsOver g.label p.user e.0 e.1 = (λ i. holds_all (same e.0 from_account i) (are.0 i)) ∙ holds_own (f e.0) in
      let permits : Permits g.label g.value p.user command = (apart, (λ is. from_account (sym is)), (λ is. from_user (sym is)), key, held) in
      let next : ProtectionGraph = with_labels g (with_rights g.label p.account e.0 e.1) in
      let stepped : step g p.user (Plain command) ≡ next = step-allowed g p.user command permits in
      let kept : (y : ℕ) → next.label p.user y ≡ g.label p.user y = λ y. with_others g.label p.account e.0 e.1 p.user y apart in
      let rest : PutsIn next es = puts_in es next subject (ap (λ s. holds_all s (only right.G)) (kept p.account) ∙ key) (λ y other. kept y ∙ same y other) are.2 in
      record {
        legal = (legal_done g p.user command subject permits refl, subst (λ (k : ProtectionGraph). IsLegal k (map (putting p) es)) (sym stepped) rest.legal);
        graph = ap (λ (k : ProtectionGraph). graph_after k (map (putting p) es)) stepped ∙ rest.graph;
      }

-- ---- the account is filled

module _ (g : ProtectionGraph) (p : Parking) (sound : IsSound g) (host : IsSubject g p.host) (user : IsSubject g p.user)
    (none : denial_of g.label g.value p.host (key_of p) ≡ None) (unused : IsUnused g.label p.user p.account) where
  abbrev row : List (ℕ × RightSet)
  row = listing_of g.label g.made p.user

  pub permitted : Permits g.label g.value p.host (key_of p)
  permitted = permits-no_denial g.label g.value p.host (key_of p) none

  apart : p.user ≢ p.account
  apart = permitted.1

  pub may_park : MayPark g p
  may_park = record { apart = (permitted.0, permitted.1, permitted.2); user = permitted.3; account = permitted.4 }

  -- the graph once the user has the key, and once the edges are in the account
  abbrev opened : ProtectionGraph
  opened = with_labels g (with_rights g.label p.user p.account (only right.G))

  abbrev put : ProtectionGraph
  put = with_labels opened (given opened.label p.account row)

  step_key : step g p.host (Plain (key_of p)) ≡ opened
  step_key = step-allowed g p.host (key_of p) permitted

  pub edges : AreEdges (g.label p.user) row
  edges = row_edges g.made 0 (g.label p.user)

  opened_at : opened.label p.user p.account ≡ union (g.label p.user p.account) (only right.G)
  opened_at = with_own g.label p.user p.account (only right.G) p.account ∙ ap (λ v. cond v (union (g.label p.user p.account) (only right.G)) (g.label p.user p.account)) (eq-eqb p.account p.account refl)

  key_held : HoldsOver opened.label p.user p.account (only right.G)
  key_held = ap (λ s. holds_all s (only right.G)) opened_at ∙ holds_all-union (g.label p.user p.account) (only right.G)

  same_row : (y : ℕ) → y ≢ p.account → opened.label p.user y ≡ g.label p.user y
  same_row y other = with_own g.label p.user p.account (only right.G) y ∙ ap (λ v. cond v (union (g.label p.user y) (only right.G)) (g.label p.user y)) (ne_eqb y p.account other)

  puts : PutsIn p (g.label p.user) apart unused.apart (sound.no_loop p.user) opened row
  puts = puts_in p (g.label p.user) apart unused.apart (sound.no_loop p.user) row opened user key_held same_row edges

  give_up : Permits put.label put.value p.user (Remove (only right.G) p.account)
  give_up = (apart, ap (λ s. holds_all s (only right.G)) (given_others row opened.label p.account p.user p.account apart) ∙ key_held)

  -- the account holds what the user holds
  account_own : (y : ℕ) → put.label p.account y ≡ g.label p.user y
  account_own y =
      given_row g sound p.user opened.label p.account y (with_others g.label p.user p.account (only right.G) p.account y (λ is. apart (sym is)) ∙ unused.empty y)

  -- once the key is given up
  labels : (a b : ℕ) → without_rights put.label p.user p.account (only right.G) a b ≡ (with_account g p).label a b
  labels a b =
      elim (a == p.account) as (λ v. (a == p.account) ≡ v → without_rights put.label p.user p.account (only right.G) a b ≡ cond v (g.label p.user b) (g.label a b)) [
        | true ↦ λ is.
            let here : a ≡ p.account = eqb-true a p.account is in
            let other : (a == p.user) ≡ false = ne_eqb a p.user (λ same. apart (sym same ∙ here)) in
            ap (λ v. cond (v && (b == p.account)) (minus (put.label a b) (only right.G)) (put.label a b)) other
            ∙ ap (λ (x : ℕ). put.label x b) here ∙ account_own b
        | false ↦ λ isnt.
            let kept : put.label a b ≡ opened.label a b = given_others row opened.label p.account a b (eqb-false a p.account isnt) in
            elim ((a == p.user) && (b == p.account)) as (λ v. ((a == p.user) && (b == p.account)) ≡ v → cond v (minus (put.label a b) (only right.G)) (put.label a b) ≡ g.label a b) [
              | true ↦ λ both.
                  let parts = and_parts (a == p.user) (b == p.account) both in
                  let nothing : g.label a b ≡ no_rights = (λ i. g.label (eqb-true a p.user parts.0 i) (eqb-true b p.account parts.1 i)) ∙ unused.apart in
                  let with_key : put.label a b ≡ only right.G =
                  kept ∙ ap (λ v. cond v (union (g.label a b) (only right.G)) (g.label a b)) both ∙ ap (λ s. union s (only right.G)) nothing in
                  ap (λ s. minus s (only right.G)) with_key ∙ minus_self (only right.G) ∙ sym nothing
              | false ↦ λ elsewhere. kept ∙ ap (λ v. cond v (union (g.label a b) (only right.G)) (g.label a b)) elsewhere
            ] refl
      ] refl

  step_give_up : step put p.user (Plain (Remove (only right.G) p.account)) ≡ with_account g p
  step_give_up = step-allowed put p.user (Remove (only right.G) p.account) give_up ∙ (λ i. with_labels g (λ a b. labels a b i))

  -- ---- the entries

  abbrev given_up : Entry
  given_up = removal p.user (p.account, only right.G)

  legal_given_up : IsLegalEntry put given_up
  legal_given_up = legal_done put p.user (Remove (only right.G) p.account) user give_up refl

  pub legal_filling : IsLegal g (filling p row)
  legal_filling = (
    legal_done g p.host (key_of p) host permitted refl,
    subst (λ (k : ProtectionGraph). IsLegal k (map (putting p) row ++ given_up ∷ [])) (sym step_key)
        (IsLegal-push opened (map (putting p) row) given_up puts.legal (subst (λ (k : ProtectionGraph). IsLegalEntry k given_up) (sym puts.graph) legal_given_up)),
  )

  pub graph_filled : graph_after g (filling p row) ≡ with_account g p
  graph_filled =
      ap (λ (k : ProtectionGraph). graph_after k (map (putting p) row ++ given_up ∷ [])) step_key
      ∙ graph_after-push opened (map (putting p) row) given_up
      ∙ ap (λ (k : ProtectionGraph). step k p.user (Plain (Remove (only right.G) p.account))) puts.graph
      ∙ step_give_up

  pub sound_filled : IsSound (with_account g p)
  sound_filled = subst (λ (k : ProtectionGraph). IsSound k) graph_filled (IsSound-after g (filling p row) sound legal_filling)

  -- the user holds what it held, until it leaves
  pub same_listing : listing_of (with_account g p).label g.made p.user ≡ row
  same_listing =
      let same : (y : ℕ) → (with_account g p).label p.user y ≡ g.label p.user y = λ y. ap (λ v. cond v (g.label p.user y) (g.label p.user y)) (ne_eqb p.user p.account apart) in
      ap (λ (f : ℕ → RightSet). row_from f 0 g.made) (λ i y. same y i)

  same_leaving : leaving (with_account g p) p.user ≡ leaving g p.user
  same_leaving = ap (λ (es : List (ℕ × RightSet)). map (removal p.user) es ++ retiring p.user ∷ []) same_listing

  pub legal_parking : IsLegal g (parking g p)
  legal_parking = IsLegal-append g (filling p row) (leaving g p.user) legal_filling
      (subst (λ (k : ProtectionGraph). IsLegal k (leaving g p.user)) (sym graph_filled)
      (subst (λ (es : List Entry). IsLegal (with_account g p) es) same_leaving (legal_leaving (with_account g p) p.user sound_filled user)))

  pub graph_parked : graph_after g (parking g p) ≡ parked g p
  graph_parked =
      graph_after-append g (filling p row) (leaving g p.user)
      ∙ ap (λ (k : ProtectionGraph). graph_after k (leaving g p.user)) graph_filled
      ∙ ap (λ (es : List Entry). graph_after (with_account g p) es) (sym same_leaving)
      ∙ graph_left (with_account g p) p.user sound_filled user

-- ---- the labels afterwards

module _ (g : ProtectionGraph) (p : Parking) where
  pub parked_account : (y : ℕ) → p.user ≢ p.account → (parked g p).label p.account y ≡ g.label p.user y
  parked_account y other =
      ap (λ v. cond v no_rights ((with_account g p).label p.account y)) (ne_eqb p.account p.user (λ is. other (sym is)))
      ∙ ap (λ v. cond v (g.label p.user y) (g.label p.account y)) (eq-eqb p.account p.account refl)

  pub parked_others : (x y : ℕ) → x ≢ p.account → x ≢ p.user → (parked g p).label x y ≡ g.label x y
  parked_others x y from_account from_user =
      ap (λ v. cond v no_rights ((with_account g p).label x y)) (ne_eqb x p.user from_user)
      ∙ ap (λ v. cond v (g.label p.user y) (g.label x y)) (ne_eqb x p.account from_account)

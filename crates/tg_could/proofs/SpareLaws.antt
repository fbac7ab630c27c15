-- Turns that leave one name to its owner, who makes it when it is the next one.
use Rattle.std.proofs.Common.{◌≡◌, ◌≢◌, ⊎_elim, ℕ, ◌+◌, ◌-◌, ◌<◌, ◌≤◌, subst, arith}
use Rattle.std.proofs.lemmas.Bool.{cases_eq}
use Rattle.tg_rights.specs.RightSet.{only}
use Rattle.tg_rights.specs.declared.Right.TheVariants.{G}
use Rattle.tg_model.specs.Graph.{ProtectionGraph}
use Rattle.tg_model.specs.Picture.{Holds}
use Rattle.tg_could.specs.Turns.{Acts}
use Rattle.tg_could.proofs.MoveLaws.{Grows, Grows-on, Grows-self, Grows-acts, Leads, stays, leads_on, leads_within, has_itself, makes_one}

-- how many names below a number are others than this one
unfoldable pub others : ℕ → ℕ → ℕ
others name n = (n - (n - name)) + (n - (name + 1))

pub others_below : (name n : ℕ) → n ≤ name → others name n ≡ n
unfolding others
others_below name n low = omega (arith, low)

pub others_above : (name n : ℕ) → name < n → others name n + 1 ≡ n
unfolding others
others_above name n high = omega (arith, high)

others_bound : (name n : ℕ) → (n ≤ others name n + 1) × (others name n ≤ n)
unfolding others
others_bound name n = (omega arith, omega arith)

pub others_most : (name n m k : ℕ) → n ≤ m + k → others name n ≤ others name m + k
unfolding others
others_most name n m k more = omega (arith, more)

others_less : (name n m : ℕ) → others name n < others name m → n < m
unfolding others
others_less name n m less = omega (arith, less)

module _ (silent : ℕ → Type 0) (g : ProtectionGraph) (name owner : ℕ) where
  -- where the name was made since, its owner holds grant over it
  abbrev pub Kept : ProtectionGraph → Type 0
  Kept h = g.made ≤ name → name < h.made → Holds h.label owner G name

  -- so many other names are left
  abbrev pub HasNames : ProtectionGraph → ℕ → Type 0
  HasNames h n = others name h.made + n ≤ others name h.limit

  -- a graph up to which so many other names were made
  pub record IsWithin (h : ProtectionGraph) (n : ℕ) (P : ProtectionGraph → Type 0) (k : ProtectionGraph) : Type 0 where
    pub kept : Kept k
    pub used : others name k.made ≤ others name h.made + n
    pub there : P k

  -- some turns lead to one of which this holds, with so many other names
  abbrev pub Spares : ProtectionGraph → ℕ → (ProtectionGraph → Type 0) → Type 0
  Spares h n P = Leads silent h (n + 1) (IsWithin h n P)

  -- what is within so many names takes one more at most
  most_made : {P : ProtectionGraph → Type 0} (h : ProtectionGraph) (n : ℕ) (k : ProtectionGraph) → IsWithin h n P k → k.made ≤ h.made + (n + 1)
  most_made h n k within = omega (arith, within.used, others_bound name k.made, others_bound name h.made)

  pub spares_on : {P Q : ProtectionGraph → Type 0} (h : ProtectionGraph) (n m both : ℕ) → n + m ≤ both → Spares h n P → ((k : ProtectionGraph) → Grows h k → Kept k → others name k.made ≤ others name h.made + n → P k → Spares k m Q) → Spares h both Q
  spares_on {Q = Q} h n m both sum first go =
      let all : Leads silent h (n + 1 + (m + 1)) (IsWithin h both Q) =
      leads_on silent h (n + 1) (m + 1) (n + 1 + (m + 1)) (omega arith) first
      (λ k more used one.
      leads_on silent k (m + 1) 0 (m + 1) (omega arith) (go k more one.kept one.used one.there)
      (λ l more_l used_l two.
      stays silent l more_l.fit (record { kept = two.kept; used = omega (arith, sum, one.used, two.used); there = two.there }))) in
      leads_within silent h (n + 1 + (m + 1)) (both + 1) all (λ k within. most_made h both k within)

  pub spares_by : {P Q : ProtectionGraph → Type 0} (h : ProtectionGraph) (n m : ℕ) → n ≤ m → Spares h n P → ((k : ProtectionGraph) → Grows h k → P k → Q k) → Spares h m Q
  spares_by h n m less first by =
      leads_on silent h (n + 1) 0 (m + 1) (omega (arith, less)) first
      (λ k more used one.
      stays silent k more.fit (record { kept = one.kept; used = omega (arith, less, one.used); there = by k more one.there }))

  -- with the count of all names, and no more than this
  pub comes_to_be : {P : ProtectionGraph → Type 0} (h : ProtectionGraph) (n : ℕ) → Spares h n P → Leads silent h (n + 1) P
  comes_to_be h n first =
      leads_on silent h (n + 1) 0 (n + 1) (omega arith) first (λ k more used one. stays silent k more.fit one.there)

  -- turns that make nothing
  pub spares_none : {P : ProtectionGraph → Type 0} (h : ProtectionGraph) → Kept h → Leads silent h 0 P → Spares h 0 P
  spares_none h kept first =
      leads_on silent h 0 0 1 (omega arith) first
      (λ k more used there.
      let same : k.made ≡ h.made = omega (arith, used, more.made) in
      stays silent k more.fit (record {
        kept = λ low made. more.labels owner G name (kept low (omega (arith, made, same)));
        used = others_most name k.made h.made 0 used;
        there = there;
      }))

  -- this came about on a graph between these, whose next name is another one
  pub record IsBetween (P : ProtectionGraph → ProtectionGraph → Type 0) (h k : ProtectionGraph) : Type 0 where
    pub start : ProtectionGraph
    pub more : Grows h start
    pub grown : Grows start k
    pub apart : start.made ≢ name
    pub there : P start k

  -- turns that make one name, of a graph that has grown
  module _ (may : g.made ≤ name → Acts silent g owner) {P : ProtectionGraph → ProtectionGraph → Type 0} (makes : (h : ProtectionGraph) → Grows g h → h.made < h.limit → Leads silent h 1 (P h)) where
    -- the name is the next one, so its owner makes it first
    makes_it_first : (h : ProtectionGraph) → Grows g h → HasNames h 1 → h.made ≡ name → Spares h 1 (IsBetween P h)
    makes_it_first h grows room next =
        let acts = Grows-acts silent g h grows owner (may (omega (arith, next, grows.made))) in
        let low = others_below name h.made (omega (arith, next)) in
        let past : name + 1 < h.limit = omega (arith, next, room, low, others_bound name h.limit, others_above name h.limit (omega (arith, next, others_less name h.made h.limit (omega (arith, room))))) in
        let two : Leads silent h 2 (IsWithin h 1 (IsBetween P h)) =
        leads_on silent h 1 1 2 (omega arith) (makes_one silent h grows.fit owner acts (only G) (omega (arith, next, past)))
        (λ k more used has.
        let from = Grows-on g h k grows more in
        let made : k.made ≡ name + 1 = omega (arith, has.made, next) in
        leads_on silent k 1 0 1 (omega arith) (makes k from (omega (arith, made, has.limit, past)))
        (λ l more_l used_l there.
        stays silent l more_l.fit (record {
          kept = λ low is. more_l.labels owner G name (subst (λ (v : ℕ). Holds k.label owner G v) next (has.held G (has_itself G)));
          used = omega (arith, low, next, others_most name l.made (name + 2) 0 (omega (arith, used_l, made)), others_above name (name + 2) (omega arith));
          there = record { start = k; more = more; grown = more_l; apart = λ same. omega (arith, same, made); there = there };
        }))) in
        leads_within silent h 2 2 two (λ k within. most_made h 1 k within)

    makes_another : (h : ProtectionGraph) → Grows g h → Kept h → HasNames h 1 → h.made ≢ name → Spares h 1 (IsBetween P h)
    makes_another h grows kept room other =
        leads_on silent h 1 0 2 (omega arith) (makes h grows (others_less name h.made h.limit (omega (arith, room))))
        (λ k more used there.
        stays silent k more.fit (record {
          kept = λ low made. more.labels owner G name (kept low (omega (arith, made, used, other)));
          used = others_most name k.made h.made 1 used;
          there = record { start = h; more = Grows-self h grows.fit; grown = more; apart = other; there = there };
        }))

    pub spares_one : (h : ProtectionGraph) → Grows g h → Kept h → HasNames h 1 → Spares h 1 (IsBetween P h)
    spares_one h grows kept room =
        ⊎_elim (makes_it_first h grows room) (makes_another h grows kept room) (cases_eq h.made name)

-- What is given up counts as handed out, and what is in the lock is as it was.
use Rattle.std.proofs.Common.{◌≡◌, ◌≤◌, ◌+◌, ◌-◌, ◌<◌, ◌^◌, ◌∙◌, ℕ, List, ap, arith, length, max, min, refl, subst, sym}
use Rattle.tg_graph.specs.Heap.{HeapState}
use Rattle.tg_journal.specs.declared.entry.Entry.{Entry}
use Rattle.tg_store.specs.Store.{StoreState}
use Rattle.tg_shared.specs.Sessions.{KeeperState, LockedState, held_after}
use Rattle.tg_passes.specs.declared.signed.Signed.{Signed}
use Rattle.tg_shared.proofs.Balances.{locked_as, locked_taken, not_both}
use Rattle.tg_shared.proofs.Knowing.{rolled_same}
use Rattle.tg_shared.proofs.locked.Locked.forget.Goals as goal

-- the place is between those of the first and of the next entry
in_between : (upto start long place : ℕ) → place ≡ max start (min upto long) → start ≤ long → (start ≤ place) × (place ≤ long)
in_between upto start long place is within = (omega (arith, is), omega (arith, is, within))

fits : (handed start place : ℕ) → handed ≡ start → start ≤ place → place < 2 ^ 64 → handed + (place - start) < 2 ^ 64
fits handed start place same low few = omega (arith, same, low, few)

all_out : (handed start place : ℕ) → handed ≡ start → start ≤ place → handed + (place - start) ≡ place
all_out handed start place same low = omega (arith, same, low)

abbrev keeper_as : ℕ → List Entry → List Signed → KeeperState
keeper_as next made seen = record { next = next; made = made; seen = seen }

place_of : (upto : ℕ) (s : StoreState) (start place : ℕ) (entries : List Entry) → start ≡ s.handed → entries ≡ s.entries → place ≡ max start (min upto (length entries)) → place ≡ held_after upto s
place_of upto s start place entries same all is = is ∙ (λ i. max (same i) (min upto (length (all i))))

pub forget-requires : goal.forget-requires
forget-requires g c =
    let s : StoreState = c.self.inside.store in
    in_between c.args.upto s.handed (length s.entries) c.place_held-upto.result (place_of c.args.upto s _ _ _ c.journal-2.ensures.start c.journal-2.ensures.entries c.place_held-upto.ensures) c.journal.ensures.within

pub raise-requires : goal.raise-requires
raise-requires g c =
    let s : StoreState = c.self.inside.store in
    let start : c.start-start.result ≡ s.handed = c.start-start.ensures.start ∙ c.journal.ensures.start in
    let place = in_between c.args.upto s.handed (length s.entries) c.place_held-upto.result (place_of c.args.upto s _ _ _ c.journal-2.ensures.start c.journal-2.ensures.entries c.place_held-upto.ensures) c.journal.ensures.within in
    fits c.self.inside.handed c.start-start.result c.place_held-upto.result (c.self.invariant.0.2.1 ∙ sym start) (subst (λ (n : ℕ). n ≤ c.place_held-upto.result) (sym start) place.0) c.place_held-upto.type_inv

pub invariant_of-self : goal.invariant_of-self
invariant_of-self g c =
    let s : StoreState = c.self.inside.store in
    let out = c.forget.ensures in
    let start : c.start-start.result ≡ s.handed = c.start-start.ensures.start ∙ c.journal.ensures.start in
    let place = in_between c.args.upto s.handed (length s.entries) c.place_held-upto.result (place_of c.args.upto s _ _ _ c.journal-2.ensures.start c.journal-2.ensures.entries c.place_held-upto.ensures) c.journal.ensures.within in
    let low : c.start-start.result ≤ c.place_held-upto.result = subst (λ (n : ℕ). n ≤ c.place_held-upto.result) (sym start) place.0 in (
      locked_taken g.L.Round.start s c.forget.new.self _ _ _ _ _ c.self.invariant.0 out.entries out.opening (ap (λ (h : HeapState). h.table.limits) out.heap)
          (λ is_whole. absurd (not_both g.L.Round.start.in_parts c.requires.in_parts is_whole))
          (c.self.invariant.0.2.0, c.raise.ensures.number ∙ all_out c.self.inside.handed c.start-start.result c.place_held-upto.result (c.self.invariant.0.2.1 ∙ sym start) low ∙ sym out.handed),
      rolled_same g.L.Round.start s c.forget.new.self c.self.inside.register.roll c.self.inside.entered c.self.invariant.1 out.entries out.opening,
    )

pub returns-clause-joined : goal.returns-clause-joined
returns-clause-joined g c =
    sym (ap (λ (k : KeeperState). k.next) c.keeper.view_is) ∙ c.raise.ensures.equal ∙ c.self.invariant.0.2.1 ∙ ap (λ (b : LockedState). b.store.handed) c.self.view_is

pub returns-clause-keeper : goal.returns-clause-keeper
returns-clause-keeper g c =
    let s : StoreState = c.self.inside.store in
    let start : c.start-start.result ≡ s.handed = c.start-start.ensures.start ∙ c.journal.ensures.start in
    let held = place_of c.args.upto s _ _ _ c.journal-2.ensures.start c.journal-2.ensures.entries c.place_held-upto.ensures in
    let place = in_between c.args.upto s.handed (length s.entries) c.place_held-upto.result held c.journal.ensures.within in
    let low : c.start-start.result ≤ c.place_held-upto.result = subst (λ (n : ℕ). n ≤ c.place_held-upto.result) (sym start) place.0 in
    let at : c.keeper.inside.next ≡ c.start-start.result = c.raise.ensures.equal ∙ c.self.invariant.0.2.1 ∙ sym start in
    let end : c.raise.new.mirror ≡ held_after c.args.upto s = c.raise.ensures.mirror ∙ all_out c.keeper.inside.next c.start-start.result c.place_held-upto.result at low ∙ held in
    subst (λ (k : KeeperState). keeper_as c.raise.new.mirror c.keeper.inside.pass.made c.keeper.inside.pass.seen ≡ record k { next = held_after c.args.upto c.args.self.now.store }) c.keeper.view_is
    (λ i. keeper_as ((end ∙ ap (λ (b : LockedState). held_after c.args.upto b.store) c.self.view_is) i) c.keeper.inside.pass.made c.keeper.inside.pass.seen)

pub returns-clause-forgotten : goal.returns-clause-forgotten
returns-clause-forgotten g c =
    let s : StoreState = c.self.inside.store in
    let out = c.forget.ensures in
    let held = place_of c.args.upto s _ _ _ c.journal-2.ensures.start c.journal-2.ensures.entries c.place_held-upto.ensures in
    subst (λ (b : LockedState). locked_as c.forget.new.self c.self.inside.sessions c.self.inside.entered c.self.inside.register.roll.signed ≡ record b { store = record b.store { handed = held_after c.args.upto b.store } }) c.self.view_is
    (λ i. locked_as (record { opening = out.opening i; entries = out.entries i; handed = (out.handed ∙ held) i; heap = out.heap i; collections = out.collections i }) c.self.inside.sessions c.self.inside.entered c.self.inside.register.roll.signed)

-- What was handed out is what the store held, and what is in the lock is as it was.
use Rattle.std.proofs.Common.{◌≡◌, ◌≤◌, ◌+◌, ◌-◌, ◌<◌, ◌^◌, ◌∙◌, ℕ, List, ap, arith, length, refl, subst, sym}
use Rattle.tg_graph.specs.Heap.{HeapState}
use Rattle.tg_journal.specs.declared.entry.Entry.{Entry}
use Rattle.tg_shared.specs.Sessions.{KeeperState, LockedState}
use Rattle.tg_passes.specs.declared.signed.Signed.{Signed}
use Rattle.tg_shared.proofs.Balances.{locked_as, locked_taken, not_both}
use Rattle.tg_shared.proofs.Knowing.{rolled_same}
use Rattle.tg_shared.proofs.locked.Locked.take_journal.Goals as goal

-- what was handed out before and what is handed out now are all entries
all_out : (before more at end : ℕ) → before ≡ at → more ≡ end - at → at ≤ end → before + more ≡ end
all_out before more at end same is within = omega arith

abbrev keeper_as : ℕ → List Entry → List Signed → KeeperState
keeper_as next made seen = record { next = next; made = made; seen = seen }

fits : (before more end : ℕ) → before + more ≡ end → end < 2 ^ 64 → before + more < 2 ^ 64
fits before more end all few = omega arith

pub raise-requires : goal.raise-requires
raise-requires g c =
    let entries : c.len.result ≡ length c.take_journal-journal.result.entries = c.len.ensures in
    let at : c.self.inside.handed ≡ c.start.result = c.self.invariant.0.2.1 ∙ sym (c.start.ensures.start ∙ c.take_journal-journal.ensures.start) in
    let within : c.start.result ≤ c.len.result = subst (λ (n : ℕ). n ≤ c.len.result) (sym c.start.ensures.start) (subst (λ (n : ℕ). c.take_journal-journal.result.start ≤ n) (sym entries) c.start.ensures.within) in
    fits c.self.inside.handed (c.len.result - c.start.result) c.len.result (all_out c.self.inside.handed (c.len.result - c.start.result) c.start.result c.len.result at refl within) c.len.type_inv

pub invariant_of-self : goal.invariant_of-self
invariant_of-self g c =
    let out = c.take_journal-journal.ensures.handed_out in
    let entries : c.len.result ≡ length c.take_journal-journal.result.entries = c.len.ensures in
    let at : c.self.inside.handed ≡ c.start.result = c.self.invariant.0.2.1 ∙ sym (c.start.ensures.start ∙ c.take_journal-journal.ensures.start) in
    let within : c.start.result ≤ c.len.result = subst (λ (n : ℕ). n ≤ c.len.result) (sym c.start.ensures.start) (subst (λ (n : ℕ). c.take_journal-journal.result.start ≤ n) (sym entries) c.start.ensures.within) in
    let end : c.len.result ≡ length c.self.inside.store.entries = entries ∙ ap (λ (es : List Entry). length es) c.take_journal-journal.ensures.entries in (
      locked_taken g.L.Round.start c.self.inside.store c.take_journal-journal.new.self _ _ _ _ _ c.self.invariant.0 out.entries out.opening (ap (λ (h : HeapState). h.table.limits) out.heap)
          (λ is_whole. absurd (not_both g.L.Round.start.in_parts c.requires.in_parts is_whole))
          (c.self.invariant.0.2.0, c.raise.ensures.number ∙ all_out c.self.inside.handed (c.len.result - c.start.result) c.start.result c.len.result at refl within ∙ end ∙ sym out.handed),
      rolled_same g.L.Round.start c.self.inside.store c.take_journal-journal.new.self c.self.inside.register.roll c.self.inside.entered c.self.invariant.1 out.entries out.opening,
    )

pub returns-clause-joined : goal.returns-clause-joined
returns-clause-joined g c = c.take_journal-journal.ensures.start ∙ sym c.self.invariant.0.2.1 ∙ sym c.raise.ensures.equal ∙ ap (λ (k : KeeperState). k.next) c.keeper.view_is

pub returns-clause-next : goal.returns-clause-next
returns-clause-next g c =
    let entries : c.len.result ≡ length c.take_journal-journal.result.entries = c.len.ensures in
    let at : c.keeper.inside.next ≡ c.start.result = c.raise.ensures.equal ∙ c.self.invariant.0.2.1 ∙ sym (c.start.ensures.start ∙ c.take_journal-journal.ensures.start) in
    let within : c.start.result ≤ c.len.result = subst (λ (n : ℕ). n ≤ c.len.result) (sym c.start.ensures.start) (subst (λ (n : ℕ). c.take_journal-journal.result.start ≤ n) (sym entries) c.start.ensures.within) in
    let end : c.raise.new.mirror ≡ length c.take_journal-journal.result.entries = c.raise.ensures.mirror ∙ all_out c.keeper.inside.next (c.len.result - c.start.result) c.start.result c.len.result at refl within ∙ entries in
    subst (λ (k : KeeperState). keeper_as c.raise.new.mirror c.keeper.inside.pass.made c.keeper.inside.pass.seen ≡ record k { next = length c.take_journal-journal.result.entries }) c.keeper.view_is
    (λ i. keeper_as (end i) c.keeper.inside.pass.made c.keeper.inside.pass.seen)

pub returns-clause-entries : goal.returns-clause-entries
returns-clause-entries g c = c.take_journal-journal.ensures.entries ∙ ap (λ (b : LockedState). b.store.entries) c.self.view_is

pub returns-clause-start : goal.returns-clause-start
returns-clause-start g c = c.take_journal-journal.ensures.start ∙ ap (λ (b : LockedState). b.store.handed) c.self.view_is

pub returns-clause-handed_out : goal.returns-clause-handed_out
returns-clause-handed_out g c =
    let out = c.take_journal-journal.ensures.handed_out in
    subst (λ (b : LockedState). locked_as c.take_journal-journal.new.self c.self.inside.sessions c.self.inside.entered c.self.inside.register.roll.signed ≡ record b { store = record b.store { handed = length b.store.entries } }) c.self.view_is
    (λ i. locked_as (record { opening = out.opening i; entries = out.entries i; handed = out.handed i; heap = out.heap i; collections = out.collections i }) c.self.inside.sessions c.self.inside.entered c.self.inside.register.roll.signed)

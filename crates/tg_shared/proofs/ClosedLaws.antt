-- What an answer without an entry says of the closed journal.
use Rattle.std.proofs.Common.{◌≡◌, ◌∙◌, ◌+◌, ℕ, List, ◌++◌, Option, length, length-append, take, append_assoc, ap, arith, subst, sym}
use Rattle.std.proofs.lemmas.List.{length-map, take-append-le}
use Rattle.std.proofs.Math.Seq.{take-length}
use Rattle.tg_rights.specs.RightSet.{RightSet}
use Rattle.tg_model.specs.Graph.{ProtectionGraph}
use Rattle.tg_journal.specs.declared.entry.Entry.{Entry}
use Rattle.tg_journal.specs.History.{graph_after}
use Rattle.tg_passes.specs.declared.signed.Signed.{Signed}
use Rattle.tg_passes.specs.Passes.{entries_of}
use Rattle.tg_passes.proofs.Signing.{entries_append}
use Rattle.tg_store.specs.Held.{IsHeldOver}
use Rattle.tg_store.specs.Origin.{start_at}
use Rattle.tg_store.specs.Store.{StoreState, graph_of_store}
use Rattle.tg_shared.specs.Laws.{ClosesOver, HasExactly, graph_up_to}
use Rattle.tg_shared.specs.Sessions.{IsHeldAtSeen, SharedStart, graph_seen}
use Rattle.tg_shared.proofs.Knowing.{graph_is}

-- a list up to the end of its front
taken : (front rest : List Entry) (n : ℕ) → n ≡ length front → take n (front ++ rest) ≡ front
taken front rest n is = ap (λ (m : ℕ). take m (front ++ rest)) is ∙ take-append-le (length front) front rest (omega arith) ∙ take-length front

-- the closed journal up to what was seen
front_of : (start : SharedStart) (seen : List Signed) (closed : StoreState) → ClosesOver start seen closed → take (length start.entries + length seen) closed.entries ≡ start.entries ++ entries_of seen
front_of start seen closed over =
    let rest : List Signed = over.begins.0 in
    let front : List Entry = start.entries ++ entries_of seen in
    let all : closed.entries ≡ front ++ entries_of rest =
    over.has.grown.all ∙ ap (λ l. start.entries ++ l) (ap entries_of over.begins.1 ∙ entries_append seen rest) ∙ sym (append_assoc start.entries (entries_of seen) (entries_of rest)) in
    let places : length start.entries + length seen ≡ length front = omega (arith, length-append start.entries (entries_of seen), length-map seen (λ (x : Signed). x.entry)) in
    ap (take (length start.entries + length seen)) all ∙ taken front (entries_of rest) (length start.entries + length seen) places

pub graph_has : (start : SharedStart) (seen : List Signed) (s : StoreState) → HasExactly start seen s → graph_of_store s ≡ graph_seen start seen
graph_has start seen s has = graph_is start s seen has.grown has.gone_on

pub of_the_closed : (start : SharedStart) (seen : List Signed) (s closed : StoreState) → HasExactly start seen s → ClosesOver start seen closed → graph_of_store s ≡ graph_up_to start seen closed
of_the_closed start seen s closed has over = graph_has start seen s has ∙ (λ i. graph_after (start_at (sym over.has.gone_on.opening i)) (sym (front_of start seen closed over) i))

pub label_closed : (start : SharedStart) (seen : List Signed) (closed : StoreState) → ClosesOver start seen closed → (worker target : ℕ) (label : Option RightSet) → IsHeldAtSeen start seen worker target label → IsHeldOver (graph_up_to start seen closed) worker target label
label_closed start seen closed over worker target label answer =
    subst (λ (g : ProtectionGraph). IsHeldOver g worker target label) (of_the_closed start seen answer.0 closed (record { gone_on = answer.1; grown = answer.3.0 }) over) answer.3.1

-- In a legal history no name is answered twice.
use Rattle.std.proofs.Common.{◌≡◌, ℕ, zero, suc, ◌≤◌, List, [], ◌∷◌, take, Some, refl, sym, ap, ◌∙◌, arith}
use Rattle.std.specs.Prelude.{slice_get}
use Rattle.tg_model.specs.Graph.{ProtectionGraph}
use Rattle.tg_model.specs.Rules.{step}
use Rattle.tg_model.specs.declared.reply.Reply.TheVariants.{Name}
use Rattle.tg_model.proofs.NameLaws.{name_is_next}
use Rattle.tg_journal.specs.declared.entry.Entry.{Entry}
use Rattle.tg_journal.specs.History.{IsLegalEntry, IsLegal, graph_after}
use Rattle.tg_journal.proofs.HistoryLaws.{IsLegalEntry-at, le-graph_after-made}

-- a name that is answered is none that was given before
given_later : (g : ProtectionGraph) (es : List Entry) (at : ℕ) (e : Entry) (name : ℕ) → IsLegal g es → slice_get es at ≡ Some e → e.reply ≡ Name name → g.made ≤ name
given_later g es at e name legal there named =
    let before : ProtectionGraph = graph_after g (take at es) in
    let entry : IsLegalEntry before e = IsLegalEntry-at g es at e legal there in
    let next = name_is_next before e.worker e.deed name (sym entry.reply ∙ named) in
    omega (arith, next.0, le-graph_after-made g (take at es))

-- the first entry's name is used up
used_up : (g : ProtectionGraph) (first : Entry) (es : List Entry) (at : ℕ) (e f : Entry) (name : ℕ) → IsLegal g (first ∷ es) → first ≡ e → e.reply ≡ Name name → slice_get es at ≡ Some f → f.reply ≡ Name name → ⊥
used_up g first es at e f name legal same named there again =
    let next = name_is_next g first.worker first.deed name (sym legal.0.reply ∙ ap (λ (it : Entry). it.reply) same ∙ named) in
    let later = given_later (step g first.worker first.deed) es at f name legal.1 there again in
    omega (arith, next.1, later)

pub one_place : (g : ProtectionGraph) (es : List Entry) (at other : ℕ) (e f : Entry) (name : ℕ) → IsLegal g es → slice_get es at ≡ Some e → slice_get es other ≡ Some f → e.reply ≡ Name name → f.reply ≡ Name name → at ≡ other
one_place g [] at other e f name legal here there named again = absurd cc
one_place g (first ∷ es) zero zero e f name legal here there named again = refl
one_place g (first ∷ es) zero (suc other) e f name legal here there named again =
    let same : first ≡ e = cc in absurd (used_up g first es other e f name legal same named there again)
one_place g (first ∷ es) (suc at) zero e f name legal here there named again =
    let same : first ≡ f = cc in absurd (used_up g first es at f e name legal same again here named)
one_place g (first ∷ es) (suc at) (suc other) e f name legal here there named again =
    ap suc (one_place (step g first.worker first.deed) es at other e f name legal.1 here there named again)

-- A journal of the first edition is legal today exactly where it was legal then, and first bad at the same place.
use Rattle.std.proofs.Common.{◌≡◌, ◌↔◌, ℕ, suc, zero, List, [], ◌∷◌, map, take, Some, refl, sym, ap, subst, ◌∙◌}
use Rattle.std.specs.Prelude.{slice_get}
use Rattle.std.proofs.lemmas.List.{take-map}
use Rattle.tg_model.specs.Graph.{ProtectionGraph}
use Rattle.tg_model.specs.Rules.{step}
use Rattle.tg_model.specs.Edition1.{Graph1, Entry1, IsLegal1, IsLegalEntry1, IsLegalNow, step1, entry_now, deed_now, graph_now}
use Rattle.tg_model.proofs.Edition1Laws.{legal-now, step-now}
use Rattle.tg_journal.specs.declared.entry.Entry.{Entry}
use Rattle.tg_journal.specs.History.{IsLegalEntry, IsLegal, graph_after, IsFirstBad}
use Rattle.tg_journal.specs.Edition1.{entry_today, graph_after1, IsFirstBad1}

-- ---- legal histories

same_entries : (g : ProtectionGraph) (es : List Entry1) → IsLegal g (map entry_today es) ↔ IsLegalNow g (map entry_now es)
same_entries g [] = (λ l. l, λ l. l)
same_entries g (e ∷ es) =
    let rest = same_entries (step g e.worker (deed_now e.deed)) es in (
      λ l. ((l.0.subject, l.0.fits, l.0.reply), rest.0 l.1),
      λ l. (record { subject = l.0.0; fits = l.0.1; reply = l.0.2 }, rest.1 l.1),
    )

module _ (g : Graph1) where
  pub legal-today : (es : List Entry1) → IsLegal (graph_now g) (map entry_today es) ↔ IsLegal1 g es
  legal-today es =
      let now = same_entries (graph_now g) es in
      let then = legal-now g es in
      (λ l. then.1 (now.0 l), λ l. now.1 (then.0 l))

  pub legal_front-today : (es : List Entry1) (at : ℕ) → IsLegal (graph_now g) (take at (map entry_today es)) ↔ IsLegal1 g (take at es)
  legal_front-today es at =
      subst (λ (front : List Entry). IsLegal (graph_now g) front ↔ IsLegal1 g (take at es)) (sym (take-map entry_today at es)) (legal-today (take at es))

  legal_entry-today : (e : Entry1) → IsLegalEntry (graph_now g) (entry_today e) ↔ IsLegalEntry1 g e
  legal_entry-today e =
      let alone = legal-today (e ∷ []) in
      (λ l. (alone.0 (l, tt)).0, λ l. (alone.1 (l, tt)).0)

-- ---- the first bad place

graph_after-today : (g : Graph1) (es : List Entry1) → graph_after (graph_now g) (map entry_today es) ≡ graph_now (graph_after1 g es)
graph_after-today g [] = refl
graph_after-today g (e ∷ es) =
    ap (λ (next : ProtectionGraph). graph_after next (map entry_today es)) (step-now g e.worker e.deed)
    ∙ graph_after-today (step1 g e.worker e.deed) es

-- an entry of today at a place is that of the entry then
entry_then : (es : List Entry1) (at : ℕ) (e : Entry) → slice_get (map entry_today es) at ≡ Some e → (then : Entry1) × (slice_get es at ≡ Some then) × (e ≡ entry_today then)
entry_then [] at e there = absurd cc
entry_then (first ∷ es) zero e there = let same : entry_today first ≡ e = cc in (first, refl, sym same)
entry_then (first ∷ es) (suc at) e there = entry_then es at e there

entry_now_there : (es : List Entry1) (at : ℕ) (then : Entry1) → slice_get es at ≡ Some then → slice_get (map entry_today es) at ≡ Some (entry_today then)
entry_now_there [] at then there = absurd cc
entry_now_there (first ∷ es) zero then there = let same : first ≡ then = cc in ap (λ e. Some (entry_today e)) same
entry_now_there (first ∷ es) (suc at) then there = entry_now_there es at then there

module _ (g : Graph1) (es : List Entry1) (at : ℕ) where
  -- the graph before the place
  reached : graph_after (graph_now g) (take at (map entry_today es)) ≡ graph_now (graph_after1 g (take at es))
  reached = ap (λ (front : List Entry). graph_after (graph_now g) front) (take-map entry_today at es) ∙ graph_after-today g (take at es)

  bad-today : (then : Entry1) (e : Entry) → e ≡ entry_today then → IsLegalEntry (graph_after (graph_now g) (take at (map entry_today es))) e ↔ IsLegalEntry1 (graph_after1 g (take at es)) then
  bad-today then e is =
      rw (is, reached) (legal_entry-today (graph_after1 g (take at es)) then)

  pub first_bad-today : IsFirstBad (graph_now g) (map entry_today es) at ↔ IsFirstBad1 g es at
  first_bad-today = (
    λ bad.
        let then = entry_then es at bad.entry bad.there in
        record {
          before = (legal_front-today g es at).0 bad.before;
          entry = then.0;
          there = then.1;
          bad = λ legal. bad.bad ((bad-today then.0 bad.entry then.2).1 legal);
        },
    λ bad. record {
      before = (legal_front-today g es at).1 bad.before;
      entry = entry_today bad.entry;
      there = entry_now_there es at bad.entry bad.there;
      bad = λ legal. bad.bad ((bad-today bad.entry (entry_today bad.entry) refl).0 legal);
    },
  )

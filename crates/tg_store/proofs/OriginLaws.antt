-- What holds of the graph that a store begins with, and after the placeholders of the entries that were made before.
use Rattle.std.proofs.Common.{◌≡◌, ◌≤◌, ℕ, zero, suc, List, Option, Some, None, IfSome, refl, subst, ◌∙◌, replicate}
use Rattle.tg_model.specs.Graph.{IsSound, IsSubject}
use Rattle.tg_model.specs.Opened.{Plan, IsPlan}
use Rattle.tg_model.proofs.SoundLaws.{IsSound-start_of}
use Rattle.tg_journal.specs.declared.entry.Entry.{Entry}
use Rattle.tg_journal.specs.History.{IsLegal, graph_after}
use Rattle.tg_journal.specs.Journal.{lister, placeholder, placeholders}
use Rattle.tg_journal.proofs.HistoryLaws.{IsSound-after, graph_after-limit, graph_after-within_limit}
use Rattle.tg_snapshot.specs.Snapshot.{Saved, IsSnapshot, graph_shown}
use Rattle.tg_snapshot.proofs.GraphLaws.{IsSound-shown}
use Rattle.tg_store.specs.Origin.{Origin, IsOrigin, start_at, start_shown}

-- ---- the graph at the beginning

sound_at : (plan : Plan) (shown : Option Saved) → IsPlan plan → IfSome shown IsSnapshot → IsSound (start_shown plan shown)
sound_at plan None is none = IsSound-start_of plan is
sound_at plan (Some snapshot) is saved = IsSound-shown snapshot saved

limit_at : (plan : Plan) (shown : Option Saved) → IfSome shown (λ snapshot. snapshot.picture.limit ≡ plan.limit) → (start_shown plan shown).limit ≡ plan.limit
limit_at plan None none = refl
limit_at plan (Some snapshot) same = same

within_at : (plan : Plan) (shown : Option Saved) → IsPlan plan → IfSome shown IsSnapshot → (start_shown plan shown).made ≤ (start_shown plan shown).limit
within_at plan None is none = is.limits.2
within_at plan (Some snapshot) is saved = saved.limit.0

-- ---- what histories keep

module _ (o : Origin) (es : List Entry) (is : IsOrigin o) where
  pub sound_from : IsLegal (start_at o) es → IsSound (graph_after (start_at o) es)
  sound_from legal = IsSound-after (start_at o) es (sound_at o.plan o.shown is.plan is.snapshot) legal

  pub limit_from : (graph_after (start_at o) es).limit ≡ o.plan.limit
  limit_from = graph_after-limit (start_at o) es ∙ limit_at o.plan o.shown is.limit

  pub made_from : (graph_after (start_at o) es).made ≤ o.plan.limit
  made_from = subst (λ (n : ℕ). (graph_after (start_at o) es).made ≤ n) limit_from (graph_after-within_limit (start_at o) es (within_at o.plan o.shown is.plan is.snapshot))

-- ---- placeholders

module _ (p : Saved) where
  -- they change nothing
  graph_held : (n : ℕ) → graph_after (graph_shown p) (replicate n (placeholder p)) ≡ graph_shown p
  graph_held zero = refl
  graph_held (suc n) = graph_held n

  pub graph_still_shown : graph_after (graph_shown p) (placeholders p) ≡ graph_shown p
  graph_still_shown = graph_held p.entries

  -- and are legal, if there is a subject
  legal_held : IsSubject (graph_shown p) (lister p) → (n : ℕ) → IsLegal (graph_shown p) (replicate n (placeholder p))
  legal_held subject zero = tt
  legal_held subject (suc n) = (record { subject = subject; fits = tt; reply = refl }, legal_held subject n)

  pub placeholders_legal : IsSubject (graph_shown p) (lister p) → IsLegal (graph_shown p) (placeholders p)
  placeholders_legal subject = legal_held subject p.entries

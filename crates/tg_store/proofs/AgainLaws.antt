-- A store that begins from a snapshot is one, and stays as the snapshot has it when it is collected.
use Rattle.std.proofs.Common.{◌≡◌, ◌⊎◌, inl, inr, ℕ, zero, suc, List, [], ◌∷◌, Result, Ok, Err, length, replicate, refl, sym, ap, subst, ◌∙◌, arith}
use Rattle.std.specs.Prelude.{IfOk}
use Rattle.std.specs.List.{Contains}
use Rattle.std.proofs.lemmas.List.{length-replicate}
use Rattle.tg_model.specs.Opened.{Plan, IsPlan}
use Rattle.tg_journal.specs.declared.entry.Entry.{Entry}
use Rattle.tg_journal.specs.Auditing.{HasComeTo}
use Rattle.tg_journal.specs.History.{IsLegal, graph_after}
use Rattle.tg_journal.specs.Journal.{first_subject, placeholder, placeholders}
use Rattle.tg_journal.proofs.SnapshotLaws.{snapshot_alike}
use Rattle.tg_snapshot.specs.Snapshot.{Saved, IsSnapshot, graph_shown}
use Rattle.tg_space.specs.SpaceTable.{BlockLimits}
use Rattle.tg_space.specs.declared.kind.Kind.TheVariants.{Full}
use Rattle.tg_graph.specs.Heap.{HeapState, content_of, subject_names}
use Rattle.tg_graph.specs.Standing.{IsContentOf}
use Rattle.tg_store.specs.declared.census.Collections.{Collections}
use Rattle.tg_store.specs.declared.census.Refusal.{Refusal}
use Rattle.tg_store.specs.declared.census.Refusals.{Refusals}
use Rattle.tg_store.specs.declared.census.Refusal.TheVariants.{Denied, VerticesFull, WorkersFull}
use Rattle.tg_store.specs.Again.{IsCleared, Reopens}
use Rattle.tg_store.specs.Collecting.{IsSwept, KeepsHistory}
use Rattle.tg_store.specs.Counts.{count_told, no_collections, refusals_in, with_one_collection}
use Rattle.tg_store.specs.Origin.{opened_again, start_at}
use Rattle.tg_store.specs.Store.{StoreState, IsStore, StandsFor}
use Rattle.tg_store.proofs.OriginLaws.{graph_still_shown, placeholders_legal}
use Rattle.tg_store.proofs.StandLaws.{IsStore-begun}

-- the placeholders tell of no refusal
none_told : (p : Saved) (refusal : Refusal) (n : ℕ) → count_told refusal (replicate n (placeholder p)) ≡ 0
none_told p refusal zero = refl
none_told p Denied (suc n) = none_told p Denied n
none_told p VerticesFull (suc n) = none_told p VerticesFull n
none_told p WorkersFull (suc n) = none_told p WorkersFull n

pub no_refusals : (p : Saved) → ◌≡◌ {A = Refusals} (record { denied = 0; vertices_full = 0; workers_full = 0 }) (refusals_in (placeholders p))
no_refusals p = λ i. record { denied = sym (none_told p Denied p.entries) i; vertices_full = sym (none_told p VerticesFull p.entries) i; workers_full = sym (none_told p WorkersFull p.entries) i }

first_there : (xs : List ℕ) → (xs ≡ [] → ⊥) → Contains xs (first_subject xs)
first_there [] some = absurd (some refl)
first_there (x ∷ xs) some = (0, omega arith, refl)

module _ (plan : Plan) (p : Saved) where
  abbrev at_snapshot : HeapState → List Entry → ℕ → Collections → StoreState
  at_snapshot heap entries handed collections = record { opening = opened_again plan p; entries = entries; handed = handed; heap = heap; collections = collections }

  module _ (acts : p.picture.subjects ≡ [] → ⊥) where
    pub IsStore-again : (heap : HeapState) (entries : List Entry) (handed : ℕ) (collections : Collections) → IsPlan plan → IsSnapshot p → plan.limit ≡ p.picture.limit
        → entries ≡ placeholders p → IsContentOf (content_of heap) (graph_shown p) → subject_names heap ≡ p.picture.subjects
        → IsStore (at_snapshot heap entries handed collections) p.picture.made
    IsStore-again heap entries handed collections is snapshot limit before stands names =
        IsStore-begun (at_snapshot heap entries handed collections) p.picture.made (record { plan = is; snapshot = snapshot; limit = sym limit })
        (subst (IsLegal (graph_shown p)) (sym before) (placeholders_legal p (first_there p.picture.subjects acts)))
        (ap (graph_after (graph_shown p)) before ∙ graph_still_shown p) stands names refl

  -- a store with the placeholders alone represents the graph that the snapshot shows
  stands_shown : (s : StoreState) → s.opening ≡ opened_again plan p → s.entries ≡ placeholders p → StandsFor s (graph_shown p)
  stands_shown s opening entries = (λ i. graph_after (start_at (opening i)) (entries i)) ∙ graph_still_shown p

  cleared : {E : Type 0} (old new : StoreState) (r : Result ℕ E) → StandsFor old (graph_shown p) → old.collections ≡ no_collections
      → KeepsHistory old new r → IfOk r (IsSwept Full old new) → IsCleared p new ⊎ (new.collections ≡ no_collections)
  cleared old new (Ok count) stands none kept swept = inl (record {
    once = swept.counted ∙ ap (with_one_collection Full) none;
    names = swept.names (graph_shown p) stands refl;
    only_old = swept.only_old refl;
  })
  cleared old new (Err why) stands none kept swept = inr (ap (λ (s : StoreState). s.collections) kept.refused ∙ none)

  pub reopens : {E : Type 0} (old new : StoreState) (r : Result ℕ E) (limits : BlockLimits) → old.opening ≡ opened_again plan p → old.entries ≡ placeholders p
      → old.handed ≡ p.entries → old.heap.table.limits ≡ limits → old.collections ≡ no_collections → KeepsHistory old new r → IfOk r (IsSwept Full old new) → Reopens plan p limits new
  reopens old new r limits opening entries handed same none kept swept =
      let start : StandsFor new (graph_shown p) = stands_shown new (kept.opening ∙ opening) (kept.entries ∙ entries) in
      record {
        start = start;
        of = λ g sound is k stands. subst (HasComeTo g) (sym start ∙ stands) (snapshot_alike p g sound is);
        opening = kept.opening ∙ opening;
        place = ap length (kept.entries ∙ entries) ∙ length-replicate p.entries (placeholder p);
        none_held = kept.handed ∙ handed;
        limits = kept.limits ∙ same;
        cleared = cleared old new r (stands_shown old opening entries) none kept swept;
      }

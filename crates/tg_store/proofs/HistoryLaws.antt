-- What a collection keeps of the store without its spare blocks, it keeps of the store.
use Rattle.std.proofs.Common.{◌≡◌, ◌∙◌, ap, Result, Ok, Err}
use Rattle.tg_store.specs.Store.{StoreState}
use Rattle.tg_store.specs.Collecting.{KeepsHistory}

-- it was done
pub history_done : {T E U F : Type 0} (old spared new : StoreState) (r : Result T E) (u : U) → spared ≡ old → KeepsHistory spared new r → KeepsHistory {T = U} {E = F} old new (Ok u)
history_done old spared new r u same told = record {
  entries = told.entries ∙ ap (λ (s : StoreState). s.entries) same;
  handed = told.handed ∙ ap (λ (s : StoreState). s.handed) same;
  refused = tt;
  opening = told.opening ∙ ap (λ (s : StoreState). s.opening) same;
  limits = told.limits ∙ ap (λ (s : StoreState). s.heap.table.limits) same;
}

-- it was refused before it changed anything
pub history_same : {T E : Type 0} (old spared : StoreState) (r : Result T E) (why : E) → spared ≡ old → r ≡ Err why → KeepsHistory old spared r
history_same old spared r why same is =
    rw is (record { entries = ap (λ (s : StoreState). s.entries) same; handed = ap (λ (s : StoreState). s.handed) same; refused = same; opening = ap (λ (s : StoreState). s.opening) same; limits = ap (λ (s : StoreState). s.heap.table.limits) same })

-- it was refused, and told so
pub history_refused : {T E U F : Type 0} (old spared new : StoreState) (r : Result T E) (fault : F) (why : E) → spared ≡ old → r ≡ Err why → KeepsHistory {T = U} spared new (Err fault) → KeepsHistory old new r
history_refused old spared new r fault why same is told = rw is (record {
  entries = told.entries ∙ ap (λ (s : StoreState). s.entries) same;
  handed = told.handed ∙ ap (λ (s : StoreState). s.handed) same;
  refused = told.refused ∙ same;
  opening = told.opening ∙ ap (λ (s : StoreState). s.opening) same;
  limits = told.limits ∙ ap (λ (s : StoreState). s.heap.table.limits) same;
})

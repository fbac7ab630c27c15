-- What the threads of the workers bring back.
use Rattle.std.proofs.Common.{◌≡◌, ℕ, List, [], ◌∷◌, ◌++◌, Result, refl, sym, ap, subst, map}
use Rattle.std.specs.Result.{IfOk}
use Rattle.tg_shared.specs.Sessions.{SessionState, SharedStart}
use Rattle.tg_threads.specs.declared.task.Task.{Task}
use Rattle.tg_threads.specs.declared.work.Finished.{Finished}
use Rattle.tg_threads.specs.Boxes.{Boxed, boxed_of}
use Rattle.tg_threads.specs.Tasks.{Brings, AllBring, arena_seen}

-- one worker more
pub brings_more : (shared : SharedStart) (helpers : ℕ) (given : List (ℕ × List Boxed)) (all : List (Finished SessionState)) (a : ℕ × List Boxed) (f : Finished SessionState) → AllBring shared helpers given all → Brings (arena_seen shared helpers f) a.0 a.1 f → AllBring shared helpers (given ++ a ∷ []) (all ++ f ∷ [])
brings_more shared helpers [] all a f h one = (f, [], ap (λ l. l ++ f ∷ []) h, one, refl)
brings_more shared helpers (b ∷ given) all a f h one = (h.0, h.1 ++ f ∷ [], ap (λ l. l ++ f ∷ []) h.2, h.3, brings_more shared helpers given h.1 a f h.4 one)

-- the same worker and the same lines by other names
pub brings_as : {P E : Type 0} (shared : SharedStart) (helpers x y : ℕ) (ts us : List (Task P)) (r : Result (Finished SessionState) E) → x ≡ y → ts ≡ us → IfOk r (λ f. Brings (arena_seen shared helpers f) y (map boxed_of us) f) → IfOk r (λ f. Brings (arena_seen shared helpers f) x (map boxed_of ts) f)
brings_as shared helpers x y ts us r same equal h =
    subst (λ n. IfOk r (λ f. Brings (arena_seen shared helpers f) n (map boxed_of ts) f)) (sym same)
    (subst (λ l. IfOk r (λ f. Brings (arena_seen shared helpers f) y (map boxed_of l) f)) (sym equal) h)

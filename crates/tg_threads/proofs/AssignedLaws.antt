-- The lines that each worker's thread is given.
use Rattle.std.proofs.Common.{◌≡◌, ◌<◌, ℕ, suc, true, List, [], ◌∷◌, Some, length, map, get_or, slice_index, refl, sym, ap, ◌∙◌, subst, arith}
use Rattle.std.specs.List.{All}
use Rattle.std.proofs.lemmas.Simd.{map-map}
use Rattle.std.proofs.lemmas.List.{length-map}
use Rattle.std.proofs.lemmas.List.FromFn.{fill_by_all, get_or-map-range_with_len}
use Rattle.std.proofs.lemmas.List.Elements.{All-nil, All-cons, All-head, All-tail, All-weaker, filter_passes}
use Rattle.tg_shared.specs.Sessions.{SessionState, AreFresh, IsFresh}
use Rattle.tg_threads.specs.declared.work.Work.{Work}
use Rattle.tg_threads.specs.Boxes.{Boxed}
use Rattle.tg_text.specs.declared.line.Line.{Line}
use Rattle.tg_text.specs.declared.line.Line.TheVariants as line
use Rattle.tg_threads.specs.Shares.{is_run_by, runner_of, share_of, all_shares, lines_in}
use Rattle.tg_threads.proofs.ShareLaws.{placed, run_by}
use Rattle.tg_threads.specs.Tasks.{HadNone, IsRunFor, all_assigned, assigned_of}

-- a line that a thread runs is its worker's, or a collection
own_line : (names : List ℕ) (k : ℕ) (l : Line) → runner_of names l ≡ Some k → IsRunFor (slice_index names k) l
own_line names k (line.Edge edge) by = absurd cc
own_line names k (line.Create x label) by = sym (placed names x k by).1
own_line names k (line.Spawn x label) by = sym (placed names x k by).1
own_line names k (line.Plain x command) by = sym (placed names x k by).1
own_line names k l by = tt

-- each is run by the worker that is given it
pub own_lines : (names : List ℕ) (k : ℕ) (bs : List Boxed) → All (λ b. IsRunFor (slice_index names k) b.line) (share_of names k bs)
own_lines names k bs =
    All-weaker (λ b. is_run_by names k b.line ≡ true) (λ b. IsRunFor (slice_index names k) b.line) (λ b by. own_line names k b.line (run_by names k b.line by)) (share_of names k bs)
    (filter_passes (λ b. is_run_by names k b.line) bs)

-- a pair of each work
pair_at : {W : Type 0} (f : W → ℕ) (g : W → List Boxed) (works : List W) (k : ℕ) → get_or (map {B = ℕ × List Boxed} (λ w. (f w, g w)) works) k (0, []) ≡ (get_or (map f works) k 0, get_or (map g works) k [])
pair_at f g (w ∷ works) (suc k) = pair_at f g works k
pair_at f g works k = refl

-- the sessions of all workers, by thread, with their lines
pub each_assigned : {P : Type 0} (names : List ℕ) (bs : List Boxed) (works : List (Work SessionState P)) (sessions : List SessionState) → AreFresh names sessions → map (λ w. w.session) works ≡ sessions →
    map lines_in works ≡ all_shares names bs → map assigned_of works ≡ all_assigned names bs
each_assigned {P = P} names bs works sessions fresh is lines =
    let session : Work SessionState P → SessionState = λ w. w.session in
    let worker : SessionState → ℕ = λ s. s.worker in
    let name_of : Work SessionState P → ℕ = λ w. w.session.worker in
    let named : map name_of works ≡ names = sym (map-map worker session works) ∙ ap (map worker) is ∙ fresh.0 in
    let long : length works ≡ length names = sym (length-map works name_of) ∙ ap (λ (l : List ℕ). length l) named in
    fill_by_all {X = ℕ × List Boxed} (λ k. (slice_index names k, share_of names k bs)) (map assigned_of works) (length names) (0, []) (length-map works assigned_of ∙ long)
    (λ k low. pair_at name_of lines_in works k ∙ (λ i. (get_or (named i) k 0, get_or (lines i) k []))
    ∙ ap {B = ℕ × List Boxed} (λ b. (slice_index names k, b)) (get_or-map-range_with_len (λ y. share_of names y bs) 0 (length names) k k [] low (omega arith)))

pub mapped_each : {X Y : Type 0} (f : X → Y) (P : Y → Type 0) (xs : List X) → All P (map f xs) → All (λ x. P (f x)) xs
mapped_each f P [] h = All-nil (λ x. P (f x))
mapped_each f P (x ∷ xs) h = All-cons (λ x. P (f x)) x xs (All-head P (f x) (map f xs) h) (mapped_each f P xs (All-tail P (f x) (map f xs) h))

-- their sessions never had a receipt
pub works_fresh : {P : Type 0} (xs : List ℕ) (works : List (Work SessionState P)) (sessions : List SessionState) → AreFresh xs sessions → map (λ w. w.session) works ≡ sessions → All (λ w. HadNone w.session) works
works_fresh {P = P} xs works sessions fresh is =
    let session : Work SessionState P → SessionState = λ w. w.session in
    let none : All HadNone sessions = All-weaker IsFresh HadNone (λ s h. (h.0, h.1)) sessions fresh.1 in
    mapped_each session HadNone works (subst (All HadNone) (sym is) none)

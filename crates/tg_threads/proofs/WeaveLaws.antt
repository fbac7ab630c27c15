-- What the threads brought back, with the journal that the closed store has, is what a race may tell.
use Rattle.std.proofs.Common.{◌≡◌, ◌≢◌, ◌⊎◌, ◌<◌, ◌≤◌, ◌+◌, ◌==◌, inl, inr, ◌++◌, ℕ, zero, suc, Bool, true, false, cond, slice_index, List, [], ◌∷◌, length, map, filter, get_or, Some, None, slice_get, option_map, refl, sym, ap, ◌∙◌, subst, arith, ne_eqb, ⊎_elim}
use Rattle.std.specs.List.{All, AllZip, count_by, range_with_len}
use Rattle.std.proofs.lemmas.Bool.{cases_eq, false≢true}
use Rattle.std.proofs.lemmas.Option.{slice_get-get_or, slice_get-map, get_or_from_slice_get, same_Some}
use Rattle.std.proofs.lemmas.List.{length-map}
use Rattle.std.proofs.lemmas.List.Elements.{All-nil, All-cons, All-head, All-tail, All-append, All-weaker}
use Rattle.std.proofs.lemmas.List.Sums.{sum_by-cons}
use Rattle.std.proofs.lemmas.List.FromFn.{get_or-map-range_with_len, length-map-range_with_len, fill_by_all}
use Rattle.tg_model.specs.declared.value.Value.{Value}
use Rattle.tg_journal.specs.declared.entry.Entry.{Entry}
use Rattle.tg_text.specs.declared.line.Line.{Line}
use Rattle.tg_text.specs.declared.answer.Refusal.TheVariants as refusal
use Rattle.tg_script.specs.Opening.{IsCommand}
use Rattle.tg_shared.specs.declared.receipt.Receipt.{Receipt}
use Rattle.tg_shared.specs.Receipts.{Stands}
use Rattle.tg_shared.specs.Sessions.{SessionState, SharedStart, IsFresh, MatchesSince, MayClose, AreSharedOut, handed_of}
use Rattle.tg_threads.specs.declared.task.Told.{Told}
use Rattle.tg_threads.specs.declared.task.Told.TheVariants as came
use Rattle.tg_threads.specs.declared.work.Finished.{Finished}
use Rattle.tg_threads.specs.Boxes.{Boxed, boxed, stock_behind}
use Rattle.tg_threads.specs.Shares.{all_sessions, is_among, is_run_by, runner_of, share_of, told_of, IsInScriptOrder}
use Rattle.tg_threads.proofs.ShareLaws.{among_each, placed, threaded}
use Rattle.tg_threads.proofs.OrderLaws.{count_of}
use Rattle.tg_passes.specs.Passes.{BeginsWith, entries_of}
use Rattle.tg_threads.specs.Output.{Arena, HasEach, arena_of}
use Rattle.tg_threads.specs.Tasks.{Runs, Brings, AllBring, all_assigned, arena_seen, AreRaced, served_past}
use Rattle.tg_threads.proofs.FrontLaws.{runs_wider}
use Rattle.tg_threads.proofs.AssignedLaws.{own_lines}
use Rattle.tg_threads.proofs.TellLaws.{thread_within}
use Rattle.tg_threads.proofs.FitLaws.{FitAll, IsHeldAt, made_of, all_fit, woven, fit_told, fit_there, none_made, own_made}

-- ---- what each thread brought

pub bring_as_many : (shared : SharedStart) (helpers : ℕ) (given : List (ℕ × List Boxed)) (all : List (Finished SessionState)) → AllBring shared helpers given all → length all ≡ length given
bring_as_many shared helpers [] all h = ap (λ (fs : List (Finished SessionState)). length fs) h
bring_as_many shared helpers (a ∷ given) all h = ap (λ (fs : List (Finished SessionState)). length fs) h.2 ∙ ap suc (bring_as_many shared helpers given h.1 h.4)

-- one for each name
pub bring_each : (shared : SharedStart) (helpers : ℕ) (names : List ℕ) (bs : List Boxed) (all : List (Finished SessionState)) → AllBring shared helpers (all_assigned names bs) all → length all ≡ length names
bring_each shared helpers names bs all h = bring_as_many shared helpers (all_assigned names bs) all h ∙ length-map-range_with_len {X = ℕ × List Boxed} (λ k. (slice_index names k, share_of names k bs)) 0 (length names)

brings_at : (shared : SharedStart) (helpers : ℕ) (given : List (ℕ × List Boxed)) (all : List (Finished SessionState)) (k : ℕ) (a : ℕ × List Boxed) → AllBring shared helpers given all → slice_get given k ≡ Some a →
    (f : Finished SessionState) × (slice_get all k ≡ Some f) × Brings (arena_seen shared helpers f) a.0 a.1 f
brings_at shared helpers [] all k a h at = absurd cc
brings_at shared helpers (b ∷ given) all zero a h at =
    let same : b ≡ a = cc in
    (h.0, ap (λ (fs : List (Finished SessionState)). slice_get fs 0) h.2, subst (λ (c : ℕ × List Boxed). Brings (arena_seen shared helpers h.0) c.0 c.1 h.0) same h.3)
brings_at shared helpers (b ∷ given) all (suc k) a h at =
    let more = brings_at shared helpers given h.1 k a h.4 at in
    (more.0, ap (λ (fs : List (Finished SessionState)). slice_get fs (suc k)) h.2 ∙ more.1, more.2)

-- thread k ran its lines
record IsBrought (shared : SharedStart) (helpers : ℕ) (names : List ℕ) (bs : List Boxed) (all : List (Finished SessionState)) (k : ℕ) (f : Finished SessionState) : Type 0 where
  at : slice_get all k ≡ Some f
  worker : f.session.worker ≡ slice_index names k
  runs : Runs (arena_seen shared helpers f) (is_among names) (share_of names k bs) f.told.items f.session.receipts
  none : All IsFresh f.spawned.items
  handed : f.session.handed ≡ 0

brought : (shared : SharedStart) (helpers : ℕ) (names : List ℕ) (bs : List Boxed) (all : List (Finished SessionState)) → AllBring shared helpers (all_assigned names bs) all → (k : ℕ) → k < length names → (f : Finished SessionState) × IsBrought shared helpers names bs all k f
brought shared helpers names bs all h k low =
    let as_given : ℕ → ℕ × List Boxed = λ j. (slice_index names j, share_of names j bs) in
    let long : length (all_assigned names bs) ≡ length names = length-map-range_with_len as_given 0 (length names) in
    let at : slice_get (all_assigned names bs) k ≡ Some (as_given k) =
    slice_get-get_or (all_assigned names bs) k (0, []) (omega (arith, low, long)) ∙ ap (λ a. Some a) (get_or-map-range_with_len as_given 0 (length names) k k (0, []) low (omega arith)) in
    let b = brings_at shared helpers (all_assigned names bs) all k (as_given k) h at in
    let ran = b.2 (is_among names) (among_each names k low) (own_lines names k bs) in
    (b.0, record { at = b.1; worker = ran.0; runs = ran.1; none = ran.2.1; handed = ran.3 })

-- ---- as many as there were lines

runs_long : (arena : Arena) (served : ℕ → Bool) (bs : List Boxed) (ts : List Told) (rs : List Receipt) → Runs arena served bs ts rs → length ts ≡ length bs
runs_long arena served [] ts rs h = ap (λ (us : List Told). length us) h.0
runs_long arena served (b ∷ bs) ts rs h = ap (λ (us : List Told). length us) h.4 ∙ ap suc (runs_long arena (served_past served b.line h.0) bs h.1 h.3 h.7)

pub lines_boxed : (stock : List Value) (lines : List Line) → map (λ b. b.line) (boxed stock lines) ≡ lines
lines_boxed stock [] = refl
lines_boxed stock (l ∷ lines) = ap (λ ls. l ∷ ls) (lines_boxed (stock_behind stock l) lines)

one_long : {X Y : Type 0} (c : Bool) (x : X) (y : Y) (xs : List X) (ys : List Y) → length xs ≡ length ys → length (cond c (x ∷ xs) xs) ≡ length (cond c (y ∷ ys) ys)
one_long true x y xs ys h = ap suc h
one_long false x y xs ys h = h

lines_long : (names : List ℕ) (x : ℕ) (bs : List Boxed) → length (share_of names x bs) ≡ count_of names x (map (λ b. b.line) bs)
lines_long names x [] = refl
lines_long names x (b ∷ bs) = one_long (is_run_by names x b.line) b b.line (share_of names x bs) (filter (is_run_by names x) (map (λ (c : Boxed). c.line) bs)) (lines_long names x bs)

map_at : {X Y : Type 0} (f : X → Y) (xs : List X) (k : ℕ) (x : X) (d : Y) → slice_get xs k ≡ Some x → get_or (map f xs) k d ≡ f x
map_at f xs k x d at = get_or_from_slice_get (map f xs) k (f x) d (slice_get-map f xs k ∙ ap (option_map f) at)

-- each thread brought as many as it was given lines
pub each_told : (shared : SharedStart) (helpers : ℕ) (names : List ℕ) (stock : List Value) (lines : List Line) (all : List (Finished SessionState)) → AllBring shared helpers (all_assigned names (boxed stock lines)) all →
    map (λ f. length f.told.items) all ≡ map (λ k. length (filter (is_run_by names k) lines)) (range_with_len 0 (length names))
each_told shared helpers names stock lines all h =
    let long_of : Finished SessionState → ℕ = λ f. length f.told.items in
    let bs = boxed stock lines in
    fill_by_all (λ k. count_of names k lines) (map long_of all) (length names) 0
    (length-map all long_of ∙ bring_each shared helpers names bs all h)
    (λ k low.
    let b = brought shared helpers names bs all h k low in
    map_at long_of all k b.0 0 b.1.at ∙ runs_long (arena_seen shared helpers b.0) (is_among names) (share_of names k bs) b.0.told.items b.0.session.receipts b.1.runs
    ∙ lines_long names k bs ∙ ap (count_of names k) (lines_boxed stock lines))

-- ---- with the journal

-- a session's receipts are all the entries of its worker
abbrev HasOwn : List Entry → SessionState → Type 0
HasOwn entries s = map (λ r. r.entry) s.receipts ≡ filter (λ e. e.worker == s.worker) entries

-- the entries begin with those that the session has seen
abbrev pub HasSeenFront : List Entry → SessionState → Type 0
HasSeenFront entries s = BeginsWith entries (entries_of s.seen)

held_each : (first start : ℕ) (entries : List Entry) (x : ℕ) (rs : List Receipt) → first ≤ start → All (Stands entries x) rs → All (λ r. start ≤ r.at) rs → All (IsHeldAt first entries x) rs
held_each first start entries x [] low stands from = All-nil (IsHeldAt first entries x)
held_each first start entries x (r ∷ rs) low stands from =
    let here : start ≤ r.at = All-head (λ (q : Receipt). start ≤ q.at) r rs from in
    All-cons (IsHeldAt first entries x) r rs (All-head (Stands entries x) r rs stands, omega (arith, low, here))
    (held_each first start entries x rs low (All-tail (Stands entries x) r rs stands) (All-tail (λ (q : Receipt). start ≤ q.at) r rs from))

held : (first : ℕ) (entries : List Entry) (start : ℕ) (s : SessionState) → first ≤ start → MatchesSince entries start s → All (IsHeldAt first entries s.worker) s.receipts
unfolding MatchesSince
held first entries start s low matches = held_each first start entries s.worker s.receipts low matches.0.standing matches.1

All_behind : (P : SessionState → Type 0) (xs ys : List SessionState) → All P (xs ++ ys) → All P ys
All_behind P [] ys held = held
All_behind P (x ∷ xs) ys held = All_behind P xs ys (All-tail P x (xs ++ ys) held)

-- what holds of all sessions that came back holds of each worker's, and of those that its lines made
All_own : (P : SessionState → Type 0) (all : List (Finished SessionState)) (k : ℕ) (f : Finished SessionState) → All P (all_sessions all) → slice_get all k ≡ Some f → P f.session
All_own P [] k f held at = absurd cc
All_own P (g ∷ all) zero f held at =
    let same : g ≡ f = cc in
    subst (λ h. P h.session) same (All-head P g.session (g.spawned.items ++ all_sessions all) held)
All_own P (g ∷ all) (suc k) f held at = All_own P all k f (All_behind P g.spawned.items (all_sessions all) (All-tail P g.session (g.spawned.items ++ all_sessions all) held)) at

-- what was told of the lines of thread k fits them, and tells of the entries of its worker
record IsOwn (arena : Arena) (names : List ℕ) (entries : List Entry) (bs : List Boxed) (k : ℕ) (ts : List Told) : Type 0 where
  fits : FitAll arena (is_among names) entries (share_of names k bs) ts
  made : made_of entries ts ≡ filter (λ e. e.worker == slice_index names k) arena.entries

own_of : (shared : SharedStart) (helpers : ℕ) (names : List ℕ) (start k : ℕ) (entries grown : List Entry) (bs : List Boxed) (all : List (Finished SessionState)) (f : Finished SessionState) → shared.handed ≤ start → IsBrought shared helpers names bs all k f →
    All (HasSeenFront grown) (all_sessions all) → All (MatchesSince entries start) (all_sessions all) → All (HasOwn grown) (all_sessions all) → IsOwn (arena_of shared helpers grown) names entries bs k f.told.items
own_of shared helpers names start k entries grown bs all f low b seen matching own =
    let stands = held shared.handed entries start f.session low (All_own (MatchesSince entries start) all k f matching b.at) in
    let runs = runs_wider shared helpers (entries_of f.session.seen) grown (All_own (HasSeenFront grown) all k f seen b.at) (is_among names) (share_of names k bs) f.told.items f.session.receipts b.runs in
    let fit = all_fit (arena_of shared helpers grown) f.session.worker (is_among names) entries (share_of names k bs) f.told.items f.session.receipts runs stands in
    record {
      fits = fit.0;
      made = fit.1 ∙ All_own (HasOwn grown) all k f own b.at ∙ ap (λ w. filter (λ e. e.worker == w) grown) b.worker;
    }

-- ---- the journal has no entry of a worker that there isn't

count_none : (w : ℕ) (sessions : List SessionState) → All (λ s. s.worker ≢ w) sessions → count_by (λ s. s.worker == w) sessions ≡ 0
count_none w [] others = refl
count_none w (s ∷ sessions) others =
    sum_by-cons (λ s. cond (s.worker == w) 1 0) s sessions
    ∙ (λ i. cond (ne_eqb s.worker w (All-head (λ s. s.worker ≢ w) s sessions others) i) 1 0 + count_none w sessions (All-tail (λ s. s.worker ≢ w) s sessions others) i)

none_of : (x : ℕ) (entries : List Entry) (sessions : List SessionState) → All (λ e. count_by (λ s. s.worker == e.worker) sessions ≡ 1) entries → All (λ s. s.worker ≢ x) sessions → filter (λ e. e.worker == x) entries ≡ []
none_of x [] sessions each others = refl
none_of x (e ∷ entries) sessions each others = ⊎_elim
    (λ (same : e.worker ≡ x).
    let one : count_by (λ s. s.worker == e.worker) sessions ≡ 1 = All-head (λ e. count_by (λ s. s.worker == e.worker) sessions ≡ 1) e entries each in
    let none : count_by (λ s. s.worker == e.worker) sessions ≡ 0 = ap (λ w. count_by (λ s. s.worker == w) sessions) same ∙ count_none x sessions others in
    absurd (omega (arith, one, none)))
    (λ (other : e.worker ≢ x).
    ap (λ c. cond c (e ∷ filter (λ e. e.worker == x) entries) (filter (λ e. e.worker == x) entries)) (ne_eqb e.worker x other)
    ∙ none_of x entries sessions (All-tail (λ e. count_by (λ s. s.worker == e.worker) sessions ≡ 1) e entries each) others)
    (cases_eq e.worker x)

-- a session of x that has all its entries, and where it is x's no receipts; or there is none of x
abbrev IsIdle : ℕ → List Entry → SessionState → Type 0
IsIdle x entries s = (s.worker ≡ x) × HasOwn entries s × (s.receipts ≡ [])

idle_or_none : (x : ℕ) (entries : List Entry) (sessions : List SessionState) → All (HasOwn entries) sessions → All (λ s. s.worker ≡ x → s.receipts ≡ []) sessions → ((s : SessionState) × IsIdle x entries s) ⊎ All (λ s. s.worker ≢ x) sessions
idle_or_none x entries [] own none = inr (All-nil (λ s. s.worker ≢ x))
idle_or_none x entries (s ∷ sessions) own none =
    let None : SessionState → Type 0 = λ t. t.worker ≡ x → t.receipts ≡ [] in
    ⊎_elim
    (λ (same : s.worker ≡ x). inl (s, (same, All-head (HasOwn entries) s sessions own, All-head None s sessions none same)))
    (λ (other : s.worker ≢ x). ⊎_elim
    (λ (found : (t : SessionState) × IsIdle x entries t). inl found)
    (λ (others : All (λ t. t.worker ≢ x) sessions). inr (All-cons (λ t. t.worker ≢ x) s sessions other others))
    (idle_or_none x entries sessions (All-tail (HasOwn entries) s sessions own) (All-tail None s sessions none)))
    (cases_eq s.worker x)

-- where no session of x has a receipt, there is no entry of x
none_by : (x : ℕ) (entries : List Entry) (sessions : List SessionState) → All (λ e. count_by (λ s. s.worker == e.worker) sessions ≡ 1) entries → All (HasOwn entries) sessions →
    All (λ s. s.worker ≡ x → s.receipts ≡ []) sessions → filter (λ e. e.worker == x) entries ≡ []
none_by x entries sessions each own none = ⊎_elim
    (λ (found : (s : SessionState) × IsIdle x entries s).
    ap (λ w. filter (λ e. e.worker == w) entries) (sym found.1.0) ∙ sym found.1.1 ∙ ap (map (λ (r : Receipt). r.entry)) found.1.2)
    (λ (others : All (λ s. s.worker ≢ x) sessions). none_of x entries sessions each others)
    (idle_or_none x entries sessions own none)

-- what holds of each worker's session, and of each that never had a receipt, holds of all
each_session : (P : SessionState → Type 0) → ((s : SessionState) → IsFresh s → P s) → (all : List (Finished SessionState)) →
    ((i : ℕ) → i < length all → (f : Finished SessionState) × (slice_get all i ≡ Some f) × P f.session × All IsFresh f.spawned.items) → All P (all_sessions all)
each_session P fresh [] each = All-nil P
each_session P fresh (f ∷ all) each =
    let here = each 0 (omega arith) in
    let same : f ≡ here.0 = same_Some f here.0 here.1 in
    let none : All IsFresh f.spawned.items = subst (λ (g : Finished SessionState). All IsFresh g.spawned.items) (sym same) here.3 in
    let later : All P (all_sessions all) = each_session P fresh all (λ i low. each (suc i) (omega (arith, low))) in
    All-cons P f.session (f.spawned.items ++ all_sessions all) (subst (λ (g : Finished SessionState). P g.session) (sym same) here.2) (All-append P f.spawned.items (all_sessions all) (All-weaker IsFresh P fresh f.spawned.items none) later)

-- no session of one who has no thread has a receipt
others_none : (shared : SharedStart) (helpers : ℕ) (names : List ℕ) (x : ℕ) (bs : List Boxed) (all : List (Finished SessionState)) → AllBring shared helpers (all_assigned names bs) all → is_among names x ≡ false → All (λ s. s.worker ≡ x → s.receipts ≡ []) (all_sessions all)
others_none shared helpers names x bs all h out =
    let long : length all ≡ length names = bring_each shared helpers names bs all h in
    each_session (λ s. s.worker ≡ x → s.receipts ≡ []) (λ s h is. h.0) all
    (λ i low.
    let below : i < length names = omega (arith, low, long) in
    let b = brought shared helpers names bs all h i below in
    (b.0, b.1.at, (λ is. let same : slice_index names i ≡ x = sym b.1.worker ∙ is in absurd (false≢true (sym out ∙ ap (is_among names) (sym same) ∙ among_each names i below))), b.1.none))

-- ---- nobody handed out a receipt

sum_none : (sessions : List SessionState) → All (λ s. s.handed ≡ 0) sessions → handed_of sessions ≡ 0
sum_none [] none = refl
sum_none (s ∷ sessions) none =
    sum_by-cons (λ s. s.handed) s sessions ∙ (λ i. All-head (λ s. s.handed ≡ 0) s sessions none i + sum_none sessions (All-tail (λ s. s.handed ≡ 0) s sessions none) i)

-- the sessions that the threads brought back have handed out no receipt
pub brought_none_handed : (shared : SharedStart) (helpers : ℕ) (names : List ℕ) (bs : List Boxed) (all : List (Finished SessionState)) → AllBring shared helpers (all_assigned names bs) all → handed_of (all_sessions all) ≡ 0
brought_none_handed shared helpers names bs all h =
    let long : length all ≡ length names = bring_each shared helpers names bs all h in
    sum_none (all_sessions all)
    (each_session (λ s. s.handed ≡ 0) (λ s h. h.1) all (λ i low. let b = brought shared helpers names bs all h i (omega (arith, low, long)) in (b.0, b.1.at, b.1.handed, b.1.none)))

-- ---- the race

-- What the threads brought back of a race over these lines, where a store was closed that holds these entries since the start.
pub record IsOver (shared : SharedStart) (helpers : ℕ) (names : List ℕ) (stock : List Value) (lines : List Line) (all : List (Finished SessionState)) (ts : List Told) (entries grown : List Entry) : Type 0 where
  pub some : 0 < length names
  pub commands : All IsCommand lines
  pub within : shared.handed ≤ length shared.entries
  pub bring : AllBring shared helpers (all_assigned names (boxed stock lines)) all
  pub order : IsInScriptOrder names lines (map (λ f. f.told.items) all) ts
  pub seen : All (HasSeenFront grown) (all_sessions all)
  pub closes : MayClose entries (length shared.entries) (all_sessions all)
  pub shared_out : AreSharedOut grown (all_sessions all)

module _ (shared : SharedStart) (helpers : ℕ) (names : List ℕ) (stock : List Value) (lines : List Line) (all : List (Finished SessionState)) (ts : List Told) (entries grown : List Entry)
    (over : IsOver shared helpers names stock lines all ts entries grown) where
  own_race : (k : ℕ) → k < length names → IsOwn (arena_of shared helpers grown) names entries (boxed stock lines) k (told_of names k lines ts)
  own_race k below =
      let told : Finished SessionState → List Told = λ f. f.told.items in
      let b = brought shared helpers names (boxed stock lines) all over.bring k below in
      let is : b.0.told.items ≡ told_of names k lines ts =
      sym (map_at told all k b.0 [] b.1.at) ∙ ap (λ l. get_or l k []) over.order.own ∙ get_or-map-range_with_len (λ y. told_of names y lines ts) 0 (length names) k k [] below (omega arith) in
      subst (IsOwn (arena_of shared helpers grown) names entries (boxed stock lines) k) is
      (own_of shared helpers names (length shared.entries) k entries grown (boxed stock lines) all b.0 over.within b.1 over.seen over.closes.matching over.shared_out.own)

  told_same : (k : ℕ) → told_of names k lines ts ≡ told_of names k (map (λ (b : Boxed). b.line) (boxed stock lines)) ts
  told_same k = ap (λ ls. told_of names k ls ts) (sym (lines_boxed stock lines))

  each_race : FitAll (arena_of shared helpers grown) (is_among names) entries (boxed stock lines) ts → HasEach grown (made_of entries ts)
  each_race fits = λ x. by_among x (is_among names x) refl where
    by_among : (x : ℕ) (c : Bool) → is_among names x ≡ c → filter (λ e. e.worker == x) grown ≡ filter (λ e. e.worker == x) (made_of entries ts)
    by_among x true is =
        let at = threaded names x is in
        let there = placed names x at.0 at.1 in
        ap (λ w. filter (λ e. e.worker == w) grown) (sym there.1) ∙ sym (own_race at.0 there.0).made ∙ ap (made_of entries) (told_same at.0)
        ∙ sym (own_made (arena_of shared helpers grown) names (is_among names) entries x at.0 (boxed stock lines) ts at.1 (thread_within names) fits)
    by_among x false out =
        none_by x grown (all_sessions all) over.shared_out.each_of_one over.shared_out.own (others_none shared helpers names x (boxed stock lines) all over.bring out)
        ∙ sym (none_made (arena_of shared helpers grown) names (is_among names) entries x (boxed stock lines) ts out (thread_within names) fits)

  -- What the lines came to in script order is what may be told of a race.
  pub raced : AreRaced (arena_of shared helpers grown) names (boxed stock lines) entries ts
  raced =
      let same : lines ≡ map (λ (b : Boxed). b.line) (boxed stock lines) = sym (lines_boxed stock lines) in
      let fits = woven (arena_of shared helpers grown) names (is_among names) (λ x. is_among names) entries (boxed stock lines) ts over.some (thread_within names) (λ x k at. refl) (subst (All IsCommand) same over.commands)
      (subst (λ ls. AllZip (λ l t. runner_of names l ≡ None → t ≡ came.Refused refusal.Worker) ls ts) same over.order.nobodys)
      (λ k below. subst (λ ls. FitAll (arena_of shared helpers grown) (is_among names) entries (share_of names k (boxed stock lines)) (told_of names k ls ts)) same (own_race k below).fits) in
      record {
        made = made_of entries ts;
        told = fit_told (arena_of shared helpers grown) (is_among names) entries (boxed stock lines) ts fits;
        each = each_race fits;
        there = fit_there (arena_of shared helpers grown) (is_among names) entries (boxed stock lines) ts fits;
      }

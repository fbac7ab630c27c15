-- What the lines of a script came to, read with the journal at hand, is what a race may tell.
use Rattle.std.proofs.Common.{◌≡◌, ◌≢◌, ◌<◌, ◌≤◌, ◌==◌, eq-eqb, ne_eqb, slice_index, ℕ, Bool, true, false, cond, List, [], ◌∷◌, ◌++◌, length, map, filter, Option, Some, None, slice_get, option_to_list, refl, sym, ap, ◌∙◌, subst, arith, ⊎_elim}
use Rattle.std.specs.List.{All, AllZip, flat_map, zip}
use Rattle.std.specs.Option.{option_map_or}
use Rattle.std.proofs.lemmas.Bool.{cases_eq, false≢true}
use Rattle.std.proofs.lemmas.Option.{same_Some, slice_get_cases, slice_get_within}
use Rattle.std.proofs.lemmas.List.{map-append}
use Rattle.std.proofs.lemmas.List.Elements.{All-nil, All-cons, All-head, All-tail}
use Rattle.tg_journal.specs.declared.entry.Entry.{Entry}
use Rattle.tg_text.specs.declared.line.Line.{Line}
use Rattle.tg_text.specs.declared.answer.Refusal.TheVariants as refusal
use Rattle.tg_script.specs.Opening.{IsCommand}
use Rattle.tg_shared.specs.declared.receipt.Receipt.{Receipt}
use Rattle.tg_shared.specs.Receipts.{Stands}
use Rattle.tg_threads.specs.declared.task.Told.{Told}
use Rattle.tg_threads.specs.declared.task.Told.TheVariants as came
use Rattle.tg_threads.specs.Boxes.{Boxed}
use Rattle.tg_threads.specs.Shares.{is_among, is_run_by, runner_of, share_of, thread_of, told_of}
use Rattle.tg_threads.specs.Telling.{entry_answer, told_answer, IsThere, text_of_told}
use Rattle.tg_threads.proofs.ShareLaws.{among, placed, run_same, runner_below}
use Rattle.tg_threads.specs.Output.{Arena, Tells, AreTold, is_retire_of, served_behind}
use Rattle.tg_threads.specs.Tasks.{RunsOne, Runs, served_past}
use Rattle.tg_threads.proofs.TellLaws.{Within, made_by, nobodys_told, others_retire, told_same}

-- the entry at a place that is reported
abbrev pub entry_at : List Entry → Told → Option Entry
entry_at entries (came.Entered at) = slice_get entries at
entry_at entries t = None

-- the reported entries, in this order
abbrev pub made_of : List Entry → List Told → List Entry
made_of entries ts = flat_map (λ t. option_to_list (entry_at entries t)) ts

-- with this journal, what the line came to is what may be told of it
abbrev pub Fits : Arena → (ℕ → Bool) → List Entry → Boxed → Told → Type 0
Fits arena served entries b t = Tells arena served b.line b.value (entry_at entries t) (told_answer entries t) × IsThere arena.shared.handed entries t

-- the same of all lines, where the lines of these workers are run
abbrev pub FitAll : Arena → (ℕ → Bool) → List Entry → List Boxed → List Told → Type 0
FitAll arena served entries [] [] = Unit {0}
FitAll arena served entries (b ∷ bs) (t ∷ ts) = Fits arena served entries b t × FitAll arena (served_past served b.line t) entries bs ts
FitAll arena served entries bs ts = ⊥

-- ---- one worker's lines

-- the receipt's entry is the journal's at its place, from a first place on, and the worker's
abbrev pub IsHeldAt : ℕ → List Entry → ℕ → Receipt → Type 0
IsHeldAt first entries x r = Stands entries x r × (first ≤ r.at)

-- what the line came to, its entry, and the receipts after its own
one_fits : (arena : Arena) (x : ℕ) (served : ℕ → Bool) (entries : List Entry) (b : Boxed) (t : Told) (more rs : List Receipt) → RunsOne arena served b t more → All (IsHeldAt arena.shared.handed entries x) (more ++ rs) →
    Fits arena served entries b t × (option_to_list (entry_at entries t) ≡ map (λ r. r.entry) more) × All (IsHeldAt arena.shared.handed entries x) rs
one_fits arena x served entries b (came.Entered at) more rs h stands =
    let both : All (IsHeldAt arena.shared.handed entries x) (record { at = at; entry = h.0 } ∷ rs) = subst (λ m. All (IsHeldAt arena.shared.handed entries x) (m ++ rs)) h.1 stands in
    let here : slice_get entries at ≡ Some h.0 = (All-head (IsHeldAt arena.shared.handed entries x) (record { at = at; entry = h.0 }) rs both).0.0 in (
      (subst (λ o. Tells arena served b.line b.value o (entry_answer o)) (sym here) h.2, ((All-head (IsHeldAt arena.shared.handed entries x) (record { at = at; entry = h.0 }) rs both).1, slice_get_within entries at h.0 here)),
      ap option_to_list here ∙ ap (map (λ (r : Receipt). r.entry)) (sym h.1),
      All-tail (IsHeldAt arena.shared.handed entries x) (record { at = at; entry = h.0 }) rs both,
    )
one_fits arena x served entries b (came.Collected kept) more rs h stands =
    ((h.1, tt), ap (map (λ (r : Receipt). r.entry)) (sym h.0), subst (λ m. All (IsHeldAt arena.shared.handed entries x) (m ++ rs)) h.0 stands)
one_fits arena x served entries b (came.Refused r) more rs h stands =
    ((h.1, tt), ap (map (λ (r : Receipt). r.entry)) (sym h.0), subst (λ m. All (IsHeldAt arena.shared.handed entries x) (m ++ rs)) h.0 stands)

pub all_fit : (arena : Arena) (x : ℕ) (served : ℕ → Bool) (entries : List Entry) (bs : List Boxed) (ts : List Told) (rs : List Receipt) → Runs arena served bs ts rs → All (IsHeldAt arena.shared.handed entries x) rs →
    FitAll arena served entries bs ts × (made_of entries ts ≡ map (λ r. r.entry) rs)
all_fit arena x served entries [] ts rs h stands =
    (subst (FitAll arena served entries []) (sym h.0) tt, ap (made_of entries) h.0 ∙ ap (map (λ (r : Receipt). r.entry)) (sym h.1))
all_fit arena x served entries (b ∷ bs) ts rs h stands =
    let one = one_fits arena x served entries b h.0 h.2 h.3 h.6 (subst (All (IsHeldAt arena.shared.handed entries x)) h.5 stands) in
    let rest = all_fit arena x (served_past served b.line h.0) entries bs h.1 h.3 h.7 one.2 in (
      subst (FitAll arena served entries (b ∷ bs)) (sym h.4) (one.0, rest.0),
      ap (made_of entries) h.4 ∙ (λ i. one.1 i ++ rest.1 i) ∙ sym (map-append (λ (r : Receipt). r.entry) h.2 h.3) ∙ ap (map (λ (r : Receipt). r.entry)) (sym h.5),
    )

-- ---- whose lines are run behind a line

past_within : (names : List ℕ) (served : ℕ → Bool) (l : Line) (t : Told) → Within names served → Within names (served_past served l t)
past_within names served l (came.Entered at) within = λ x is. within x (kept (is_retire_of x l) (served x) is) where
  kept : (b c : Bool) → cond b false c ≡ true → c ≡ true
  kept true c is = absurd (false≢true is)
  kept false c is = is
past_within names served l t within = within

past_same : (x : ℕ) (served other : ℕ → Bool) (l : Line) (t : Told) → served x ≡ other x → served_past served l t x ≡ served_past other l t x
past_same x served other l (came.Entered at) same = ap (cond (is_retire_of x l) false) same
past_same x served other l t same = same

past_others : (x : ℕ) (served : ℕ → Bool) (l : Line) (t : Told) → is_retire_of x l ≡ false → served x ≡ served_past served l t x
past_others x served l (came.Entered at) none = ap (λ b. cond b false (served x)) (sym none)
past_others x served l t none = refl

-- a line is told with its entry, where that is there
behind_past : (first : ℕ) (entries : List Entry) (served : ℕ → Bool) (l : Line) (t : Told) → IsThere first entries t → served_past served l t ≡ served_behind served l (entry_at entries t)
behind_past first entries served l (came.Entered at) there = ⊎_elim
    (λ here. ap (λ o. served_behind served l o) (sym here.2))
    (λ (past : (length entries ≤ at) × (slice_get entries at ≡ None)). absurd (omega (arith, there.1, past.0)))
    (slice_get_cases entries at).1
behind_past first entries served l t there = refl

-- ---- all lines

-- whose lines are run, as each thread has it
abbrev Seen : Type 0
Seen = ℕ → ℕ → Bool

-- and after a line, which one of them ran
abbrev seen_past : List ℕ → Seen → Line → Told → Seen
seen_past names seen l t k = cond (is_run_by names k l) (served_past (seen k) l t) (seen k)

seen_same : (names : List ℕ) (x k : ℕ) (seen : Seen) (served : ℕ → Bool) (l : Line) (t : Told) → thread_of names x ≡ Some k → seen k x ≡ served x → seen_past names seen l t k x ≡ served_past served l t x
seen_same names x k seen served l t at same = by_run (is_run_by names k l) refl where
  by_run : (c : Bool) → is_run_by names k l ≡ c → cond c (served_past (seen k) l t) (seen k) x ≡ served_past served l t x
  by_run true is = past_same x (seen k) served l t same
  by_run false is = same ∙ past_others x served l t (others_retire names x k l at is)

-- the lines of all threads, one by one
abbrev Own : Arena → List ℕ → Seen → List Entry → List Boxed → List Told → Type 0
Own arena names seen entries bs ts = (k : ℕ) → k < length names → FitAll arena (seen k) entries (share_of names k bs) (told_of names k (map (λ b. b.line) bs) ts)

tail_fits : (arena : Arena) (served : ℕ → Bool) (entries : List Entry) (c : Bool) (b : Boxed) (t : Told) (bs : List Boxed) (ps : List (Line × Told)) →
    FitAll arena served entries (cond c (b ∷ bs) bs) (map (λ (q : Line × Told). q.1) (cond c ((b.line, t) ∷ ps) ps)) → FitAll arena (cond c (served_past served b.line t) served) entries bs (map (λ (q : Line × Told). q.1) ps)
tail_fits arena served entries true b t bs ps h = h.1
tail_fits arena served entries false b t bs ps h = h

head_fits : (arena : Arena) (served : ℕ → Bool) (entries : List Entry) (c : Bool) (b : Boxed) (t : Told) (bs : List Boxed) (ps : List (Line × Told)) → c ≡ true →
    FitAll arena served entries (cond c (b ∷ bs) bs) (map (λ (q : Line × Told). q.1) (cond c ((b.line, t) ∷ ps) ps)) → Fits arena served entries b t
head_fits arena served entries true b t bs ps is h = h.0
head_fits arena served entries false b t bs ps is h = absurd (false≢true is)

-- what came of the lines of all workers and of nobody's fits each line
pub woven : (arena : Arena) (names : List ℕ) (served : ℕ → Bool) (seen : Seen) (entries : List Entry) (bs : List Boxed) (ts : List Told) → 0 < length names → Within names served → ((x k : ℕ) → thread_of names x ≡ Some k → seen k x ≡ served x) →
    All IsCommand (map (λ b. b.line) bs) → AllZip (λ l t. runner_of names l ≡ None → t ≡ came.Refused refusal.Worker) (map (λ b. b.line) bs) ts → Own arena names seen entries bs ts → FitAll arena served entries bs ts
woven arena names served seen entries [] [] low within same commands nobodys own = tt
woven arena names served seen entries (b ∷ bs) (t ∷ ts) low within same commands nobodys own = (
  by_runner (runner_of names b.line) refl,
  woven arena names (served_past served b.line t) (seen_past names seen b.line t) entries bs ts low (past_within names served b.line t within)
      (λ x k at. seen_same names x k seen served b.line t at (same x k at)) (All-tail IsCommand b.line (map (λ (c : Boxed). c.line) bs) commands) nobodys.1 rest,
) where
  told_by : ℕ → List (Line × Told)
  told_by x = filter (λ (q : Line × Told). is_run_by names x q.0) (zip (map (λ (c : Boxed). c.line) bs) ts)

  rest : Own arena names (seen_past names seen b.line t) entries bs ts
  rest x below = tail_fits arena (seen x) entries (is_run_by names x b.line) b t (share_of names x bs) (told_by x) (own x below)

  by_runner : (o : Option ℕ) → runner_of names b.line ≡ o → Fits arena served entries b t
  by_runner None by =
      subst (Fits arena served entries b) (sym (nobodys.0 by)) (nobodys_told arena names served b.line b.value within (All-head IsCommand b.line (map (λ (c : Boxed). c.line) bs) commands) by, tt)
  by_runner (Some y) by =
      let below = runner_below names y b.line low by in
      let fits = head_fits arena (seen y) entries (is_run_by names y b.line) b t (share_of names y bs) (told_by y) (run_same names y y b.line by refl) (own y below) in
      (told_same arena names y (seen y) served b.line b.value (entry_at entries t) (told_answer entries t) by (λ x at. same x y at) fits.0, fits.1)
woven arena names served seen entries bs ts low within same commands nobodys own = absurd nobodys

-- the lines and their entries are reported, in order
pub fit_told : (arena : Arena) (served : ℕ → Bool) (entries : List Entry) (bs : List Boxed) (ts : List Told) → FitAll arena served entries bs ts → AreTold arena served bs (made_of entries ts) (text_of_told entries ts)
fit_told arena served entries [] [] h = (refl, refl)
fit_told arena served entries (b ∷ bs) (t ∷ ts) h = (
  entry_at entries t,
  told_answer entries t,
  made_of entries ts,
  text_of_told entries ts,
  h.0.0,
  refl,
  refl,
  subst (λ after. AreTold arena after bs (made_of entries ts) (text_of_told entries ts)) (behind_past arena.shared.handed entries served b.line t h.0.1) (fit_told arena (served_past served b.line t) entries bs ts h.1),
)
fit_told arena served entries bs ts h = absurd h

-- each entry is where it is told to be
pub fit_there : (arena : Arena) (served : ℕ → Bool) (entries : List Entry) (bs : List Boxed) (ts : List Told) → FitAll arena served entries bs ts → All (IsThere arena.shared.handed entries) ts
fit_there arena served entries [] [] h = All-nil (IsThere arena.shared.handed entries)
fit_there arena served entries (b ∷ bs) (t ∷ ts) h = All-cons (IsThere arena.shared.handed entries) t ts h.0.1 (fit_there arena (served_past served b.line t) entries bs ts h.1)
fit_there arena served entries bs ts h = absurd h

-- ---- the entries of one worker

entry_step : (entries rest : List Entry) (x : ℕ) (o : Option Entry) (c : Bool) (l : Line) (t : Told) (ps : List (Line × Told)) → entry_at entries t ≡ o → ((e : Entry) → o ≡ Some e → c ≡ (e.worker == x)) →
    filter (λ e. e.worker == x) rest ≡ made_of entries (map (λ (q : Line × Told). q.1) ps) →
    filter (λ e. e.worker == x) (option_to_list (entry_at entries t) ++ rest) ≡ made_of entries (map (λ (q : Line × Told). q.1) (cond c ((l, t) ∷ ps) ps))
entry_step entries rest x None true l t ps at of same =
    ap (λ o. filter (λ e. e.worker == x) (option_to_list o ++ rest)) at ∙ same ∙ ap (λ o. option_to_list o ++ made_of entries (map (λ (q : Line × Told). q.1) ps)) (sym at)
entry_step entries rest x None false l t ps at of same = ap (λ o. filter (λ e. e.worker == x) (option_to_list o ++ rest)) at ∙ same
entry_step entries rest x (Some e) true l t ps at of same =
    ap (λ o. filter (λ e'. e'.worker == x) (option_to_list o ++ rest)) at
    ∙ ap (λ b. cond b (e ∷ filter (λ e'. e'.worker == x) rest) (filter (λ e'. e'.worker == x) rest)) (sym (of e refl))
    ∙ ap (λ es. e ∷ es) same
    ∙ ap (λ o. option_to_list o ++ made_of entries (map (λ (q : Line × Told). q.1) ps)) (sym at)
entry_step entries rest x (Some e) false l t ps at of same =
    ap (λ o. filter (λ e'. e'.worker == x) (option_to_list o ++ rest)) at
    ∙ ap (λ b. cond b (e ∷ filter (λ e'. e'.worker == x) rest) (filter (λ e'. e'.worker == x) rest)) (sym (of e refl))
    ∙ same

-- a line that made an entry of w is run by the thread of x exactly if both are one
run_of : (names : List ℕ) (x k w j : ℕ) (l : Line) → runner_of names l ≡ Some j → thread_of names w ≡ Some j → thread_of names x ≡ Some k → is_run_by names k l ≡ (w == x)
run_of names x k w j l by of at = ap (λ o. option_map_or (λ z. z == k) o false) by ∙ ⊎_elim
    (λ (same : w ≡ x). eq-eqb j k (same_Some j k (sym of ∙ ap (thread_of names) same ∙ at)) ∙ sym (eq-eqb w x same))
    (λ (other : w ≢ x). ne_eqb j k (λ one. other (sym (placed names w j of).1 ∙ ap (slice_index names) one ∙ (placed names x k at).1)) ∙ sym (ne_eqb w x other))
    (cases_eq w x)

-- the entries of a worker are those of the lines that its thread ran
pub own_made : (arena : Arena) (names : List ℕ) (served : ℕ → Bool) (entries : List Entry) (x k : ℕ) (bs : List Boxed) (ts : List Told) → thread_of names x ≡ Some k → Within names served → FitAll arena served entries bs ts →
    filter (λ e. e.worker == x) (made_of entries ts) ≡ made_of entries (told_of names k (map (λ b. b.line) bs) ts)
own_made arena names served entries x k [] [] at within h = refl
own_made arena names served entries x k (b ∷ bs) (t ∷ ts) at within h =
    entry_step entries (made_of entries ts) x (entry_at entries t) (is_run_by names k b.line) b.line t
    (filter (λ (q : Line × Told). is_run_by names k q.0) (zip (map (λ (c : Boxed). c.line) bs) ts)) refl
    (λ e is.
    let made = made_by arena names served b.line b.value e (told_answer entries t) within (subst (λ o. Tells arena served b.line b.value o (told_answer entries t)) is h.0.0) in
    run_of names x k e.worker made.0 b.line made.1 made.2 at)
    (own_made arena names (served_past served b.line t) entries x k bs ts at (past_within names served b.line t within) h.1)
own_made arena names served entries x k bs ts at within h = absurd h

none_step : (x : ℕ) (o : Option Entry) (rest : List Entry) → ((e : Entry) → o ≡ Some e → (e.worker == x) ≡ false) → filter (λ e. e.worker == x) rest ≡ [] → filter (λ e. e.worker == x) (option_to_list o ++ rest) ≡ []
none_step x None rest of none = none
none_step x (Some e) rest of none = ap (λ c. cond c (e ∷ filter (λ e'. e'.worker == x) rest) (filter (λ e'. e'.worker == x) rest)) (of e refl) ∙ none

-- who has no thread made none
pub none_made : (arena : Arena) (names : List ℕ) (served : ℕ → Bool) (entries : List Entry) (x : ℕ) (bs : List Boxed) (ts : List Told) → is_among names x ≡ false → Within names served → FitAll arena served entries bs ts →
    filter (λ e. e.worker == x) (made_of entries ts) ≡ []
none_made arena names served entries x [] [] out within h = refl
none_made arena names served entries x (b ∷ bs) (t ∷ ts) out within h =
    none_step x (entry_at entries t) (made_of entries ts)
    (λ e is.
    let made = made_by arena names served b.line b.value e (told_answer entries t) within (subst (λ o. Tells arena served b.line b.value o (told_answer entries t)) is h.0.0) in
    ne_eqb e.worker x (λ same. false≢true (sym out ∙ ap (is_among names) (sym same) ∙ among names e.worker made.0 made.2)))
    (none_made arena names (served_past served b.line t) entries x bs ts out (past_within names served b.line t within) h.1)
none_made arena names served entries x bs ts out within h = absurd h

-- Where one worker alone has lines, a race is a plain run.
use Rattle.std.proofs.Common.{◌≡◌, ◌≢◌, ◌≤◌, ◌+◌, ◌==◌, inl, ℕ, Bool, true, false, cond, List, [], ◌∷◌, ◌++◌, length, Option, Some, None, refl, sym, ap, ◌∙◌, subst, ⊎_elim, arith}
use Rattle.std.specs.Prelude.{nat_lt}
use Rattle.std.specs.List.{All, filter}
use Rattle.std.specs.Option.{option_to_list}
use Rattle.std.proofs.lemmas.Bool.{cases_eq, eq-eqb, ne_eqb}
use Rattle.std.proofs.lemmas.List.Elements.{All-head, All-tail}
use Rattle.tg_model.specs.declared.value.Value.{Value}
use Rattle.tg_model.specs.declared.opening.TheConstants.{MAX_WORKERS}
use Rattle.tg_model.specs.declared.command.Deed.{Deed}
use Rattle.tg_model.specs.declared.command.Deed.TheVariants as deed
use Rattle.tg_model.specs.declared.reply.Reply.TheVariants as reply
use Rattle.tg_model.specs.Graph.{IsSubject}
use Rattle.tg_model.specs.Rules.{step, answer_of}
use Rattle.tg_journal.specs.declared.entry.Entry.{Entry}
use Rattle.tg_journal.specs.History.{IsLegal, IsLegalEntry}
use Rattle.tg_text.specs.declared.line.Line.{Line}
use Rattle.tg_text.specs.declared.line.Line.TheVariants as line
use Rattle.tg_text.specs.declared.answer.Answer.{Answer}
use Rattle.tg_text.specs.declared.answer.Answer.TheVariants as told
use Rattle.tg_text.specs.Texts.{answer_text}
use Rattle.tg_script.specs.Script.{Scene, Answers, AnswersMaking, IsOutput, create_of, spawn_of, stock_left}
use Rattle.tg_threads.specs.Boxes.{first_of, behind_first, box_of, stock_behind, boxed}
use Rattle.tg_threads.specs.Output.{Arena, EntersOrRefuses, TellsMade, IsServed, Tells, AreTold, HasEach, IsOfFirst, IsOfOneThread, served_behind}
use Rattle.tg_threads.proofs.TellLaws.{asked_of, making_of, none_is_some}

-- ---- the history is that of the lines

no_cons : {X : Type 0} (x : X) (xs : List X) → x ∷ xs ≡ [] → ⊥
no_cons x xs h = cc

tail_none : (b : Bool) (e : Entry) (es : List Entry) → cond b (e ∷ es) es ≡ [] → es ≡ []
tail_none true e es h = absurd (no_cons e es h)
tail_none false e es h = h

only_first : (entries : List Entry) → ((x : ℕ) → x ≢ 0 → filter (λ e. e.worker == x) entries ≡ []) → filter (λ e. e.worker == 0) entries ≡ entries
only_first [] none = refl
only_first (e ∷ entries) none =
    let front : ℕ → List Entry = λ x. filter (λ e'. e'.worker == x) entries in
    ⊎_elim
    (λ (is : e.worker ≡ 0). ap (λ b. cond b (e ∷ front 0) (front 0)) (eq-eqb e.worker 0 is) ∙ ap (λ es. e ∷ es) (only_first entries (λ x other. tail_none (e.worker == x) e (front x) (none x other))))
    (λ (other : e.worker ≢ 0). absurd (no_cons e (front e.worker) (sym (ap (λ b. cond b (e ∷ front e.worker) (front e.worker)) (eq-eqb e.worker e.worker refl)) ∙ none e.worker other)))
    (cases_eq e.worker 0)

-- all are of worker 0
abbrev AreFirst : List Entry → Type 0
AreFirst [] = Unit {0}
AreFirst (e ∷ es) = (e.worker ≡ 0) × AreFirst es

first_keep : (es : List Entry) → AreFirst es → filter (λ e. e.worker == 0) es ≡ es
first_keep [] h = refl
first_keep (e ∷ es) h =
    let rest = filter (λ e. e.worker == 0) es in
    ap (λ b. cond b (e ∷ rest) rest) (eq-eqb e.worker 0 h.0) ∙ ap (λ l. e ∷ l) (first_keep es h.1)

first_none : (es : List Entry) → AreFirst es → (x : ℕ) → x ≢ 0 → filter (λ e. e.worker == x) es ≡ []
first_none [] h x other = refl
first_none (e ∷ es) h x other =
    let rest = filter (λ e. e.worker == x) es in
    ap (λ b. cond b (e ∷ rest) rest) (ne_eqb e.worker x (λ same. other (sym same ∙ h.0))) ∙ first_none es h.1 x other

tells_first : (arena : Arena) (served : ℕ → Bool) (l : Line) (box : Option Value) (en : Entry) (a : Answer) → Tells arena served l box (Some en) a → IsOfFirst l → en.worker ≡ 0
tells_first arena served (line.Create x label) box en a h first = (making_of arena x (create_of label) (served x) box en a h).1 ∙ first
tells_first arena served (line.Spawn x label) box en a h first = (making_of arena x (spawn_of label) (served x) box en a h).1 ∙ first
tells_first arena served (line.Plain x command) box en a h first = (asked_of (served x) (EntersOrRefuses arena.shared arena.entries x (deed.Plain command) (Some en) a) en a h).1.0 ∙ first
tells_first arena served l box en a h first = absurd first

one_first : (arena : Arena) (served : ℕ → Bool) (l : Line) (box : Option Value) (e : Option Entry) (a : Answer) (more : List Entry) → Tells arena served l box e a → IsOfFirst l → AreFirst more → AreFirst (option_to_list e ++ more)
one_first arena served l box None a more h first rest = rest
one_first arena served l box (Some en) a more h first rest = (tells_first arena served l box en a h first, rest)

made_first : (lines : List Line) (stock : List Value) (arena : Arena) (served : ℕ → Bool) (made : List Entry) (text : List ℕ) → AreTold arena served (boxed stock lines) made text → All IsOfFirst lines → AreFirst made
made_first [] stock arena served made text h all = subst AreFirst (sym h.0) tt
made_first (l ∷ lines) stock arena served made text h all =
    subst AreFirst (sym h.5)
    (one_first arena served l (box_of stock l) h.0 h.1 h.2 h.4 (All-head IsOfFirst l lines all)
    (made_first lines (stock_behind stock l) arena (served_behind served l h.0) h.2 h.3 h.7 (All-tail IsOfFirst l lines all)))

-- ---- line by line

one_length : (e : Option Entry) (more : List Entry) (n : ℕ) → length more ≤ n → length (option_to_list e ++ more) ≤ n + 1
one_length None more n h = omega (arith, h)
one_length (Some en) more n h = omega (arith, h)

made_length : (lines : List Line) (stock : List Value) (arena : Arena) (served : ℕ → Bool) (made : List Entry) (text : List ℕ) → AreTold arena served (boxed stock lines) made text → length made ≤ length lines
made_length [] stock arena served made text h = omega (arith, ap (λ (l : List Entry). length l) h.0)
made_length (l ∷ lines) stock arena served made text h =
    omega (arith, ap (λ (l : List Entry). length l) h.5, one_length h.0 h.2 (length lines) (made_length lines (stock_behind stock l) arena (served_behind served l h.0) h.2 h.3 h.7))

-- the reply says neither that there may be no more vertices nor that no more subjects may be active
abbrev HasRoom : Entry → Type 0
HasRoom e = (e.reply ≢ reply.VerticesFull) × (e.reply ≢ reply.WorkersFull)

-- so it names a vertex, which took the first box
created_left : (b : Bool) (made : ℕ) (rest stock : List Value) → cond b (reply.Name made) reply.VerticesFull ≢ reply.VerticesFull → stock_left (cond b (reply.Name made) reply.VerticesFull) rest stock ≡ rest
created_left true made rest stock room = refl
created_left false made rest stock room = absurd (room refl)

spawned_left : (b c : Bool) (made : ℕ) (rest stock : List Value) → cond b (cond c (reply.Name made) reply.WorkersFull) reply.VerticesFull ≢ reply.VerticesFull → cond b (cond c (reply.Name made) reply.WorkersFull) reply.VerticesFull ≢ reply.WorkersFull →
    stock_left (cond b (cond c (reply.Name made) reply.WorkersFull) reply.VerticesFull) rest stock ≡ rest
spawned_left true true made rest stock room more = refl
spawned_left true false made rest stock room more = absurd (more refl)
spawned_left false c made rest stock room more = absurd (room refl)

-- a line that makes a vertex, which took the first box
making_one : (arena : Arena) (s : Scene) (x : ℕ) (making : Value → Deed) (stock : List Value) (b : Bool) (en : Entry) (a : Answer) → IsServed b (TellsMade arena.shared arena.entries x making (first_of stock) (Some en) a) (Some en) a → IsLegalEntry s.graph en → HasRoom en →
    ((value : Value) (rest : List Value) → answer_of s.graph x (making value) ≢ reply.VerticesFull → answer_of s.graph x (making value) ≢ reply.WorkersFull → stock_left (answer_of s.graph x (making value)) rest s.stock ≡ rest) →
    AnswersMaking s x making stock a (record s { graph = step s.graph en.worker en.deed; stock = behind_first stock })
making_one arena s x making [] b en a h legal room left = absurd (none_is_some en (sym (asked_of b (TellsMade arena.shared arena.entries x making None (Some en) a) en a h).1.0))
making_one arena s x making (value ∷ rest) b en a h legal room left =
    let entered : EntersOrRefuses arena.shared arena.entries x (making value) (Some en) a = (asked_of b (EntersOrRefuses arena.shared arena.entries x (making value) (Some en) a) en a h).1 in
    let is : en.reply ≡ answer_of s.graph x (making value) = legal.reply ∙ (λ i. answer_of s.graph (entered.0 i) (entered.1 i)) in
    let all : stock_left (answer_of s.graph x (making value)) rest s.stock ≡ rest = left value rest (λ full. room.0 (is ∙ full)) (λ full. room.1 (is ∙ full)) in
    inl (subst (IsSubject s.graph) entered.0 legal.subject, entered.2 ∙ ap told.Reply is, λ i. record s { graph = step s.graph (entered.0 i) (entered.1 i); stock = sym all i })

answers_one : (l : Line) (s : Scene) (arena : Arena) (served : ℕ → Bool) (en : Entry) (a : Answer) → Tells arena served l (box_of s.stock l) (Some en) a → IsLegalEntry s.graph en → HasRoom en → IsOfFirst l →
    Answers s l a (record s { graph = step s.graph en.worker en.deed; stock = stock_behind s.stock l })
answers_one (line.Create x label) s arena served en a h legal room first =
    making_one arena s x (create_of label) s.stock (served x) en a h legal room (λ value rest full crowded. created_left (nat_lt s.graph.made s.graph.limit) s.graph.made rest s.stock full)
answers_one (line.Spawn x label) s arena served en a h legal room first =
    making_one arena s x (spawn_of label) s.stock (served x) en a h legal room
    (λ value rest full crowded. spawned_left (nat_lt s.graph.made s.graph.limit) (nat_lt (length s.graph.subjects) MAX_WORKERS) s.graph.made rest s.stock full crowded)
answers_one (line.Plain x command) s arena served en a h legal room first =
    let entered = (asked_of (served x) (EntersOrRefuses arena.shared arena.entries x (deed.Plain command) (Some en) a) en a h).1 in
    inl (
      subst (IsSubject s.graph) entered.0 legal.subject,
      entered.2 ∙ ap told.Reply (legal.reply ∙ (λ i. answer_of s.graph (entered.0 i) (entered.1 i))),
      λ i. record s { graph = step s.graph (entered.0 i) (entered.1 i); stock = s.stock },
    )
answers_one l s arena served en a h legal room first = absurd first

runs_plain : (lines : List Line) (s : Scene) (arena : Arena) (served : ℕ → Bool) (made : List Entry) (text : List ℕ) → IsLegal s.graph made → AreTold arena served (boxed s.stock lines) made text → All IsOfFirst lines → length made ≡ length lines → All HasRoom made → IsOutput s lines text
runs_plain [] s arena served made text legal h first entered room = h.1
runs_plain (l ∷ lines) s arena served made text legal h first entered room = by_entry (λ t. runs_plain lines t arena) h.0 h.1 h.2 h.3 h.4 h.5 h.6 h.7 where
  by_entry : ((t : Scene) (ws : ℕ → Bool) (es : List Entry) (rest : List ℕ) → IsLegal t.graph es → AreTold arena ws (boxed t.stock lines) es rest → All IsOfFirst lines → length es ≡ length lines → All HasRoom es → IsOutput t lines rest) →
      (e : Option Entry) (a : Answer) (more : List Entry) (rest : List ℕ) → Tells arena served l (box_of s.stock l) e a → made ≡ option_to_list e ++ more → text ≡ answer_text a ++ rest → AreTold arena (served_behind served l e) (boxed (stock_behind s.stock l) lines) more rest → IsOutput s (l ∷ lines) text
  by_entry later None a more rest tells made_is text_is told_rest =
      absurd (omega (arith, entered, ap (λ (l : List Entry). length l) made_is, made_length lines (stock_behind s.stock l) arena (served_behind served l None) more rest told_rest))
  by_entry later (Some en) a more rest tells made_is text_is told_rest =
      let lawful : IsLegal s.graph (en ∷ more) = subst (IsLegal s.graph) made_is legal in
      let rooms : All HasRoom (en ∷ more) = subst (λ es. All HasRoom es) made_is room in
      let t : Scene = record s { graph = step s.graph en.worker en.deed; stock = stock_behind s.stock l } in (
        a,
        t,
        rest,
        answers_one l s arena served en a tells lawful.0 (All-head HasRoom en more rooms) (All-head IsOfFirst l lines first),
        text_is,
        later t (served_behind served l (Some en)) more rest lawful.1 told_rest (All-tail IsOfFirst l lines first) (omega (arith, entered, ap (λ (l : List Entry). length l) made_is)) (All-tail HasRoom en more rooms),
      )

pub plain_run : (lines : List Line) (s : Scene) (arena : Arena) (served : ℕ → Bool) (entries made : List Entry) (text : List ℕ) → IsLegal s.graph entries → AreTold arena served (boxed s.stock lines) made text → HasEach entries made → IsOfOneThread lines made → IsOutput s lines text
plain_run lines s arena served entries made text legal told each one =
    let first = made_first lines s.stock arena served made text told one.first in
    let same : entries ≡ made = sym (only_first entries (λ x other. each x ∙ first_none made first x other)) ∙ each 0 ∙ first_keep made first in
    runs_plain lines s arena served made text (subst (IsLegal s.graph) same legal) told one.first one.entered one.room

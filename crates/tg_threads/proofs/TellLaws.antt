-- What is reported of one line.
use Rattle.std.proofs.Common.{◌≡◌, ◌==◌, eqb-true, ℕ, Bool, true, false, List, Option, Some, None, refl, sym, ap, ◌∙◌, subst}
use Rattle.std.proofs.lemmas.Bool.{false_from_ne_true, false≢true}
use Rattle.tg_model.specs.declared.value.Value.{Value}
use Rattle.tg_model.specs.declared.command.Command.TheVariants as command
use Rattle.tg_model.specs.declared.command.Deed.{Deed}
use Rattle.tg_model.specs.declared.command.Deed.TheVariants as deed
use Rattle.tg_journal.specs.declared.entry.Entry.{Entry}
use Rattle.tg_text.specs.declared.line.Line.{Line}
use Rattle.tg_text.specs.declared.line.Line.TheVariants as line
use Rattle.tg_text.specs.declared.answer.Answer.{Answer}
use Rattle.tg_text.specs.declared.answer.Answer.TheVariants as answer
use Rattle.tg_text.specs.declared.answer.Refusal.TheVariants as refusal
use Rattle.tg_script.specs.Opening.{IsCommand}
use Rattle.tg_script.specs.Script.{create_of, spawn_of}
use Rattle.tg_threads.specs.Shares.{is_among, is_run_by, runner_of, thread_of}
use Rattle.tg_threads.proofs.ShareLaws.{run_same, threaded}
use Rattle.tg_threads.specs.Output.{Arena, EntersOrRefuses, TellsMade, IsServed, Tells, is_retire_of}

pub none_is_some : {X : Type 0} (x : X) → None ≡ Some x → ⊥
none_is_some x h = cc

-- ---- whose lines are run

-- a worker whose lines are run has a thread
abbrev pub Within : List ℕ → (ℕ → Bool) → Type 0
Within names served = (x : ℕ) → served x ≡ true → is_among names x ≡ true

pub thread_within : (names : List ℕ) → Within names (is_among names)
thread_within names x is = is

-- ---- what is reported of an entry

-- where there is an entry the worker's lines are run
pub asked_of : (b : Bool) (asked : Type 0) (e : Entry) (a : Answer) → IsServed b asked (Some e) a → (b ≡ true) × asked
asked_of true asked e a h = (refl, h)
asked_of false asked e a h = absurd (none_is_some e (sym h.0))

-- and there was a box
pub made_of_box : (arena : Arena) (x : ℕ) (making : Value → Deed) (box : Option Value) (e : Entry) (a : Answer) → TellsMade arena.shared arena.entries x making box (Some e) a → (value : Value) × (box ≡ Some value) × EntersOrRefuses arena.shared arena.entries x (making value) (Some e) a
made_of_box arena x making (Some value) e a h = (value, refl, h)
made_of_box arena x making None e a h = absurd (none_is_some e (sym h.0))

-- so the entry is the worker's, whose lines are run
pub making_of : (arena : Arena) (x : ℕ) (making : Value → Deed) (b : Bool) (box : Option Value) (e : Entry) (a : Answer) → IsServed b (TellsMade arena.shared arena.entries x making box (Some e) a) (Some e) a → (b ≡ true) × (e.worker ≡ x)
making_of arena x making b box e a h = let asked = asked_of b (TellsMade arena.shared arena.entries x making box (Some e) a) e a h in (asked.0, (made_of_box arena x making box e a asked.1).2.0)

-- both have this thread
abbrev pub Both : List ℕ → Line → ℕ → Type 0
Both names l y = (k : ℕ) × (runner_of names l ≡ Some k) × (thread_of names y ≡ Some k)

named_by : (names : List ℕ) (x y : ℕ) → is_among names x ≡ true → y ≡ x → (k : ℕ) × (thread_of names x ≡ Some k) × (thread_of names y ≡ Some k)
named_by names x y is same = let at = threaded names x is in (at.0, at.1, ap (thread_of names) same ∙ at.1)

-- an entry that a line made is of the worker whose thread ran the line
pub made_by : (arena : Arena) (names : List ℕ) (served : ℕ → Bool) (l : Line) (box : Option Value) (e : Entry) (a : Answer) → Within names served → Tells arena served l box (Some e) a → Both names l e.worker
made_by arena names served (line.Edge edge) box e a within h = absurd h
made_by arena names served (line.Create x label) box e a within h = let made = making_of arena x (create_of label) (served x) box e a h in named_by names x e.worker (within x made.0) made.1
made_by arena names served (line.Spawn x label) box e a within h = let made = making_of arena x (spawn_of label) (served x) box e a h in named_by names x e.worker (within x made.0) made.1
made_by arena names served (line.Plain x command) box e a within h =
    let asked = asked_of (served x) (EntersOrRefuses arena.shared arena.entries x (deed.Plain command) (Some e) a) e a h in
    named_by names x e.worker (within x asked.0) asked.1.0
made_by arena names served l box e a within h = absurd (none_is_some e (sym h.0))

-- ---- what is told where a worker's lines aren't run

pub refused_of : (b : Bool) (asked : Type 0) → b ≡ false → IsServed b asked None (answer.Refused refusal.Worker)
refused_of true asked is = absurd (false≢true (sym is))
refused_of false asked is = (refl, refl)

-- a line that no thread runs is refused
pub nobodys_told : (arena : Arena) (names : List ℕ) (served : ℕ → Bool) (l : Line) (box : Option Value) → Within names served → IsCommand l → runner_of names l ≡ None → Tells arena served l box None (answer.Refused refusal.Worker)
nobodys_told arena names served l box within command by = refused l command by where
  unserved : (x : ℕ) → thread_of names x ≡ None → served x ≡ false
  unserved x none = false_from_ne_true (served x) (λ is. let at = threaded names x (within x is) in none_is_some at.0 (sym none ∙ at.1))

  refused : (l : Line) → IsCommand l → runner_of names l ≡ None → Tells arena served l box None (answer.Refused refusal.Worker)
  refused (line.Edge edge) command by = absurd (false≢true command.0)
  refused (line.Create x label) command by = refused_of (served x) (TellsMade arena.shared arena.entries x (create_of label) box None (answer.Refused refusal.Worker)) (unserved x by)
  refused (line.Spawn x label) command by = refused_of (served x) (TellsMade arena.shared arena.entries x (spawn_of label) box None (answer.Refused refusal.Worker)) (unserved x by)
  refused (line.Plain x c) command by = refused_of (served x) (EntersOrRefuses arena.shared arena.entries x (deed.Plain c) None (answer.Refused refusal.Worker)) (unserved x by)
  refused l command by = absurd (none_is_some 0 (sym by))

-- what is reported of a line of thread k rests on whether the lines of its worker are run
pub told_same : (arena : Arena) (names : List ℕ) (k : ℕ) (served other : ℕ → Bool) (l : Line) (box : Option Value) (e : Option Entry) (a : Answer) → runner_of names l ≡ Some k → ((x : ℕ) → thread_of names x ≡ Some k → served x ≡ other x) → Tells arena served l box e a → Tells arena other l box e a
told_same arena names k served other l box e a by same h = told l by h where
  told : (l : Line) → runner_of names l ≡ Some k → Tells arena served l box e a → Tells arena other l box e a
  told (line.Edge edge) by h = absurd h
  told (line.Create x label) by h = subst (λ b. IsServed b (TellsMade arena.shared arena.entries x (create_of label) box e a) e a) (same x by) h
  told (line.Spawn x label) by h = subst (λ b. IsServed b (TellsMade arena.shared arena.entries x (spawn_of label) box e a) e a) (same x by) h
  told (line.Plain x c) by h = subst (λ b. IsServed b (EntersOrRefuses arena.shared arena.entries x (deed.Plain c) e a) e a) (same x by) h
  told l by h = h

-- ---- whose retire a line is

-- a line that another runs is no retire of a worker's
pub others_retire : (names : List ℕ) (x k : ℕ) (l : Line) → thread_of names x ≡ Some k → is_run_by names k l ≡ false → is_retire_of x l ≡ false
others_retire names x k (line.Plain y command.Retire) at by = false_from_ne_true (y == x) (λ is.
    false≢true (sym by ∙ run_same names k k (line.Plain y command.Retire) (ap (thread_of names) (eqb-true y x is) ∙ at) refl))
others_retire names x k l at by = refl

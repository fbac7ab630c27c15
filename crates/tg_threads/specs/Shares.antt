-- How the lines of a script are shared out among the sessions of its workers, and how what they came to goes together again.
use Rattle.std.specs.Prelude.{◌≡◌, ℕ, ◌+◌, ◌==◌, Bool, true, false, List, [], ◌∷◌, length, map, Option, Some, None, if◌then◌else◌, option_map, slice_get, slice_index, slice_set}
use Rattle.std.specs.List.{AllZip, filter, flat_map, range_with_len, zip}
use Rattle.std.specs.Option.{option_map_or}
use Rattle.tg_text.specs.declared.line.Line.{Line}
use Rattle.tg_text.specs.declared.line.Line.TheVariants as line
use Rattle.tg_text.specs.declared.answer.Refusal.TheVariants as refusal
use Rattle.tg_threads.specs.declared.task.Told.{Told}
use Rattle.tg_threads.specs.declared.task.Told.TheVariants as came
use Rattle.tg_threads.specs.declared.work.Work.{Work}
use Rattle.tg_threads.specs.declared.work.Finished.{Finished}
use Rattle.tg_threads.specs.Boxes.{Boxed, boxed_of}

-- ---- who runs a line

-- Each worker has a thread, and the threads are in the order of the workers' names. The thread of x is the place of its name, from 0
-- on. Who is no worker has none.
abbrev pub thread_of : List ℕ → ℕ → Option ℕ
thread_of [] x = None
thread_of (name ∷ names) x = if name == x then Some 0 else option_map (λ k. k + 1) (thread_of names x)

-- whether x has a thread
abbrev pub is_among : List ℕ → ℕ → Bool
is_among names x = option_map_or (λ k. true) (thread_of names x) false

-- The thread whose session runs the line. It is the thread of the worker that the line names, or the first thread for a collection.
-- Nobody's session runs a line that names no worker.
abbrev pub runner_of : List ℕ → Line → Option ℕ
runner_of names (line.Edge edge) = None
runner_of names (line.Create x label) = thread_of names x
runner_of names (line.Spawn x label) = thread_of names x
runner_of names (line.Plain x command) = thread_of names x
runner_of names line.Full = Some 0
runner_of names line.Minor = Some 0

-- whether the line is run by the session of this thread
abbrev pub is_run_by : List ℕ → ℕ → Line → Bool
is_run_by names k l = option_map_or (λ y. y == k) (runner_of names l) false

-- ---- who has which lines

-- the lines that the session of a thread runs, in script order
abbrev pub share_of : List ℕ → ℕ → List Boxed → List Boxed
share_of names k bs = filter (λ b. is_run_by names k b.line) bs

-- the lines of each thread's session
abbrev pub all_shares : List ℕ → List Boxed → List (List Boxed)
all_shares names bs = map (λ k. share_of names k bs) (range_with_len 0 (length names))

-- the lines that a session is given
abbrev pub lines_in : {S P : Type 0} → Work S P → List Boxed
lines_in w = map boxed_of w.tasks.items

-- ---- the sessions that come back

-- a worker's session, and the sessions of the subjects that its lines made
abbrev pub sessions_in : {S : Type 0} → Finished S → List S
sessions_in f = f.session ∷ f.spawned.items

-- the sessions of all workers
abbrev pub all_sessions : {S : Type 0} → List (Finished S) → List S
all_sessions finished = flat_map sessions_in finished

-- ---- the results of the lines, in script order

-- the results of the lines that the session of a thread ran, in script order
abbrev pub told_of : List ℕ → ℕ → List Line → List Told → List Told
told_of names k lines ts = map (λ p. p.1) (filter (λ p. is_run_by names k p.0) (zip lines ts))

-- The results of the lines, one for each. The results of a worker's session are as the session brought them back, in its order. A
-- line that no session runs is refused.
pub record IsInScriptOrder (names : List ℕ) (lines : List Line) (brought : List (List Told)) (ts : List Told) : Type 0 where
  pub own : brought ≡ map (λ k. told_of names k lines ts) (range_with_len 0 (length names))
  pub nobodys : AllZip (λ l t. runner_of names l ≡ None → t ≡ came.Refused refusal.Worker) lines ts

-- The result of the line is the next result that the session brought back which ran the line. So many of its results were seen
-- before, and then one more.
abbrev pub TakesNext : List ℕ → Line → List (List Told) → List ℕ → List ℕ → Told → Type 0
TakesNext names l all seen seen' t =
    (k : ℕ) (brought : List Told) → runner_of names l ≡ Some k → slice_get all k ≡ Some brought →
    (slice_get brought (slice_index seen k) ≡ Some t) × (seen' ≡ slice_set seen k (slice_index seen k + 1))

-- What the lock's side, each session and the keeper know of the entries since a store was shared, as tokens carry it.
use Rattle.std.specs.Prelude.{◌≡◌, ℕ, ◌+◌, ◌<◌, ◌==◌, Bool, true, false, List, [], ◌∷◌, ◌++◌, map}
use Rattle.std.specs.List.{All, filter}
use mathlib.Core.Option.{Option, none, some}
use lib.ListN.{get_elem?}
use Rattle.atomic_table.specs.Table.{Me, Step}
use Rattle.atomic_table.specs.Seated.{TableId}
use Rattle.tg_journal.specs.declared.entry.Entry.{Entry}
use Rattle.tg_passes.specs.declared.signed.Maker.{Maker}
use Rattle.tg_passes.specs.declared.signed.Maker.TheVariants.{Session, Keeper}
use Rattle.tg_passes.specs.declared.signed.Signed.{Signed}
use Rattle.tg_passes.specs.declared.pass.View.{View}

-- the entries of this worker, in their order
abbrev pub own_entries : ℕ → List Entry → List Entry
own_entries worker entries = filter (λ e. e.worker == worker) entries

-- the list begins with these
abbrev pub BeginsWith : {A : Type 0} → List A → List A → Type 0
BeginsWith {A} all front = (rest : List A) × (all ≡ front ++ rest)

-- ---- entries with who made them

-- an entry with its maker, and several entries of one maker
abbrev pub sign : Maker → Entry → Signed
sign maker entry = record { by = maker; entry = entry }

abbrev pub sign_all : Maker → List Entry → List Signed
sign_all maker entries = map (sign maker) entries

-- the entries without their makers
abbrev pub entries_of : List Signed → List Entry
entries_of all = map (λ s. s.entry) all

-- whether two makers are the same
abbrev pub is_same : Maker → Maker → Bool
is_same (Session v) (Session w) = v == w
is_same Keeper Keeper = true
is_same one other = false

-- the entries that this maker made, in their order
abbrev pub entries_by : Maker → List Signed → List Entry
entries_by maker all = entries_of (filter (λ s. is_same s.by maker) all)

-- Who may make an entry: a session makes those of its own worker, and the keeper makes those of any worker.
abbrev pub MayMake : Maker → Entry → Type 0
MayMake (Session worker) entry = entry.worker ≡ worker
MayMake Keeper entry = Unit {0}

-- each entry was made by who may make it
abbrev pub AreOwn : List Signed → Type 0
AreOwn all = All (λ s. MayMake s.by s.entry) all

-- ---- what a pass knows, and what the lock's side does

-- Whose pass it is, the entries that were made with it, and the entries that it has seen: all since the start, up to its last look or
-- note, or to its making.
pub record PassState : Type 0 where
  pub maker : Maker
  pub made : List Entry
  pub seen : List Signed

-- all entries since the start, and a bound of the names of the workers that have sessions
pub record RollState : Type 0 where
  pub signed : List Signed
  pub below : ℕ

-- The entries of the pass's maker are exactly those that were made with the pass. All entries begin with those that it has seen, and it
-- has seen all that it made.
pub record Sees (all : List Signed) (pass : PassState) : Type 0 where
  pub own : entries_by pass.maker all ≡ pass.made
  pub front : BeginsWith all pass.seen
  pub within : entries_by pass.maker pass.seen ≡ pass.made

-- a pass as it is made, when these are all entries
abbrev pub fresh_pass : Maker → List Signed → PassState
fresh_pass maker all = record { maker = maker; made = []; seen = all }

-- a pass after a look at all entries, and after a note of one more
abbrev pub looked : PassState → List Signed → PassState
looked p all = record { maker = p.maker; made = p.made; seen = all }

abbrev pub noted : PassState → List Signed → Entry → PassState
noted p all e = record { maker = p.maker; made = p.made ++ e ∷ []; seen = all ++ sign p.maker e ∷ [] }

-- ---- views

-- the roll's seat, the seat of a pass, and a seat of nobody
abbrev pub roll_view : List Signed → ℕ → View
roll_view all below = record { keeps = true; all = all; below = below; acts = false; maker = Keeper; made = []; seen = [] }

abbrev pub pass_view : PassState → View
pass_view p = record { keeps = false; all = []; below = 0; acts = true; maker = p.maker; made = p.made; seen = p.seen }

abbrev pub no_view : View
no_view = record { keeps = false; all = []; below = 0; acts = false; maker = Keeper; made = []; seen = [] }

-- a seat that is both, and its two parts
abbrev pub together : View → View → View
together r p = record { keeps = r.keeps; all = r.all; below = r.below; acts = p.acts; maker = p.maker; made = p.made; seen = p.seen }

abbrev pub roll_part : View → View
roll_part v = record { keeps = v.keeps; all = v.all; below = v.below; acts = false; maker = Keeper; made = []; seen = [] }

abbrev pub pass_part : View → View
pass_part v = record { keeps = false; all = []; below = 0; acts = v.acts; maker = v.maker; made = v.made; seen = v.seen }

-- the seat of a new roll, with which the keeper's pass begins
abbrev pub first_view : View
first_view = together (roll_view [] 0) (pass_view (fresh_pass Keeper []))

abbrev pub pass_of : List View → PassState
pass_of [] = fresh_pass Keeper []
pass_of (v ∷ vs) = record { maker = v.maker; made = v.made; seen = v.seen }

abbrev pub roll_of : View → RollState
roll_of v = record { signed = v.all; below = v.below }

-- the name of a round's table
abbrev pub RoundTable : Type 0
RoundTable = TableId

-- no table's name
abbrev pub no_table : RoundTable
no_table = record { words = 0; slots = 0; views_name = 0; atom = 0; block = 0; offset = 0; slot_names = [] }

-- ---- the rule

-- the worker of a session is before the bound
abbrev pub IsBelow : ℕ → Maker → Type 0
IsBelow low (Session worker) = worker < low
IsBelow low Keeper = Unit {0}

-- what one seat knows of the log
pub record FitsLog (log : List Signed) (seat low by : ℕ) (v : View) : Type 0 where
  pub roll : v.keeps ≡ true → (by ≡ seat) × (v.all ≡ log) × (v.below ≡ low)
  pub below : v.acts ≡ true → IsBelow low v.maker
  pub own : v.acts ≡ true → entries_by v.maker log ≡ v.made
  pub within : v.acts ≡ true → entries_by v.maker v.seen ≡ v.made
  pub front : BeginsWith log v.seen

-- two seats that act for one maker are one
abbrev pub AreApart : List View → Type 0
AreApart views = (i j : ℕ) (v w : View) → get_elem? views i ≡ some v → get_elem? views j ≡ some w → v.acts ≡ true → w.acts ≡ true → v.maker ≡ w.maker → i ≡ j

-- There is a log that each seat fits. Each entry of it was made by who may make it, and each session's worker is before the bound.
pub record Kept (views : List View) : Type 0 where
  pub log : List Signed
  pub seat : ℕ
  pub low : ℕ
  pub each : (by : ℕ) (v : View) → get_elem? views by ≡ some v → FitsLog log seat low by v
  pub apart : AreApart views
  pub owned : AreOwn log
  pub bound : All (λ s. IsBelow low s.by) log

-- ---- what steps show

abbrev pub Sat : Type 0
Sat = Me Entry View

-- what the seat that is both knows before a step
pub record Knows (v : View) : Type 0 where
  pub sees : v.acts ≡ true → Sees v.all (record { maker = v.maker; made = v.made; seen = v.seen })
  pub owned : AreOwn v.all

abbrev pub looking : View → View
looking v = record { keeps = v.keeps; all = v.all; below = v.below; acts = v.acts; maker = v.maker; made = v.made; seen = v.all }

abbrev pub noting : View → Entry → View
noting v e = record { keeps = v.keeps; all = v.all ++ sign v.maker e ∷ []; below = v.below; acts = v.acts; maker = v.maker; made = v.made ++ e ∷ []; seen = v.all ++ sign v.maker e ∷ [] }

abbrev pub issuing : View → ℕ → View
issuing v name = record { keeps = v.keeps; all = v.all; below = name + 1; acts = true; maker = Session name; made = []; seen = v.all }

abbrev pub Looked : Step Entry → Sat → ℕ → Sat → Type 0
Looked st m n m' = (m'.0 ≡ looking m.0) × (m'.1 ≡ m.1) × Knows m.0

abbrev pub IsNoted : Option Entry → Sat → Sat → Type 0
IsNoted none m m' = (m'.0 ≡ m.0) × (m'.1 ≡ m.1)
IsNoted (some e) m m' = (m'.0 ≡ noting m.0 e) × (m'.1 ≡ m.1) × Knows m.0

abbrev pub Noted : Step Entry → Sat → ℕ → Sat → Type 0
Noted st m n m' = IsNoted st.said m m'

abbrev pub Issued : Step Entry → Sat → ℕ → Sat → Type 0
Issued st m n m' = (m'.0 ≡ issuing m.0 st.first) × (m'.1 ≡ m.1)

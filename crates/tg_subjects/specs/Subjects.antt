-- The subjects that are active, by rising name. Each has a nursery and an object.
use Rattle.std.specs.Prelude.{◌≡◌, ◌≢◌, ◌↔◌, ℕ, ◌<◌, ◌==◌, ◌∷◌, [], List, if◌then◌else◌, length, map, not, slice_index_or}
use Rattle.std.specs.Int.{bit_at}
use Rattle.std.specs.List.{All, AllPairs, Contains, filter}
use Rattle.tg_word.specs.declared.Place.{Place}
use Rattle.tg_word.specs.declared.TheConstants.{MAX_NURSERIES}
use Rattle.tg_subjects.specs.declared.subject.Subject.{Subject}

-- ---- the columns of the table

abbrev pub names_of : List Subject → List ℕ
names_of subjects = map (λ s. s.name) subjects

-- the numbers of their nurseries
abbrev pub nurseries_of : List Subject → List ℕ
nurseries_of subjects = map (λ s. s.nursery) subjects

-- where their objects are
abbrev pub subject_places : List Subject → List Place
subject_places subjects = map (λ s. s.place) subjects

-- ---- what holds of every table

-- names rise, and each subject has a nursery of its own
pub record AreSubjects (subjects : List Subject) : Type 0 where
  pub rising : AllPairs (λ s t. s.name < t.name) subjects
  pub nurseries : All (λ s. s.nursery < MAX_NURSERIES) subjects
  pub apart : AllPairs (λ s t. s.nursery ≢ t.nursery) subjects

-- ---- looking up

-- s is one of the subjects, and has the name
pub record IsSubjectNamed (subjects : List Subject) (name : ℕ) (s : Subject) : Type 0 where
  pub there : Contains subjects s
  pub named : s.name ≡ name

-- the subject that is at a place of the table has the name
pub record IsAt (subjects : List Subject) (name at : ℕ) : Type 0 where
  pub inside : at < length subjects
  pub named : (d : Subject) → (slice_index_or subjects at d).name ≡ name

-- the number of the nursery that the subject with a name holds; 0 where there is none
abbrev pub nursery_held : List Subject → ℕ → ℕ
nursery_held [] name = 0
nursery_held (s ∷ subjects) name = if s.name == name then s.nursery else nursery_held subjects name

-- ---- coming and going

-- a subject holds the nursery with this number
abbrev pub IsHeld : List Subject → ℕ → Type 0
IsHeld subjects nursery = Contains (nurseries_of subjects) nursery

-- the least number of a nursery that no subject holds
pub record IsLeastFree (subjects : List Subject) (nursery : ℕ) : Type 0 where
  pub few : nursery < MAX_NURSERIES
  pub free : ¬ IsHeld subjects nursery
  pub least : (lower : ℕ) → lower < nursery → IsHeld subjects lower

-- the bits of a word that are set are those of the nurseries that are held, and no other's
abbrev pub MarksHeld : (word : ℕ) (held : List ℕ) → Type 0
MarksHeld word held = (nursery : ℕ) → nursery < MAX_NURSERIES → bit_at word nursery ≡ 1 ↔ Contains held nursery

-- all but the one with a name
abbrev pub without : List Subject → ℕ → List Subject
without subjects name = filter (λ s. not (s.name == name)) subjects

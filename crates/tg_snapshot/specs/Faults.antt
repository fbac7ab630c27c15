-- Why lists are no snapshot.
use Rattle.std.specs.Prelude.{◌≡◌, ◌↔◌, ℕ, ◌<◌, ◌≤◌, List, length, EachIndex, Result, Err, IfOk, IsOk}
use Rattle.tg_snapshot.specs.declared.fault.SnapshotFault.{SnapshotFault}
use Rattle.tg_snapshot.specs.declared.fault.SnapshotFault.TheVariants.{NoneMade, BadLimit, BadVertex, BadSubject, BadEdge}
use Rattle.tg_snapshot.specs.Snapshot.{Saved, HasLimit, IsSnapshot, IsVertexLine, IsSubjectLine, IsEdgeLine}

-- the line at this place isn't as asked, but all before it are
pub record IsFirstBadLine {X : Type 0} (asked : ℕ → Type 0) (lines : List X) (at : ℕ) : Type 0 where
  pub before : (k : ℕ) → k < at → asked k
  pub inside : at < length lines
  pub bad : ¬ asked at

-- the counts are as asked, and then the vertices, and then the subjects
pub record HasCounts (p : Saved) : Type 0 where
  pub some_made : 1 ≤ p.picture.made
  pub limit : HasLimit p.picture

pub record HasVertices (p : Saved) : Type 0 where
  pub counts : HasCounts p
  pub vertices : EachIndex p.vertices (IsVertexLine p.picture.made p.vertices)

pub record HasSubjects (p : Saved) : Type 0 where
  pub vertices : HasVertices p
  pub subjects : EachIndex p.picture.subjects (IsSubjectLine p.vertices p.picture.subjects)

-- The fault of the lists: the first of the number made, the limit, the vertices, the subjects and the edges that isn't as asked.
abbrev pub IsFault : Saved → SnapshotFault → Type 0
IsFault p NoneMade = ¬ (1 ≤ p.picture.made)
IsFault p BadLimit = (1 ≤ p.picture.made) × (¬ HasLimit p.picture)
IsFault p (BadVertex at) = HasCounts p × IsFirstBadLine (IsVertexLine p.picture.made p.vertices) p.vertices at
IsFault p (BadSubject at) = HasVertices p × IsFirstBadLine (IsSubjectLine p.vertices p.picture.subjects) p.picture.subjects at
IsFault p (BadEdge at) = HasSubjects p × IsFirstBadLine (IsEdgeLine p.vertices p.picture.edges) p.picture.edges at

-- The lists are returned exactly if they are a snapshot, and each fault exactly if it is the one of the lists.
pub record ChecksForm (p : Saved) (answer : Result Saved SnapshotFault) : Type 0 where
  pub kept : IfOk answer (λ snapshot. snapshot ≡ p)
  pub accepted : IsOk answer ↔ IsSnapshot p
  pub refused : (fault : SnapshotFault) → (answer ≡ Err fault) ↔ IsFault p fault

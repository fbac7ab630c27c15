-- Lists have one fault at the most, and with one they are no snapshot.
use Rattle.std.proofs.Common.{◌≡◌, ⊎_elim, Result, Ok, Err, ℕ, ◌≤◌, List, refl, sym, ap, subst, arith}
use Rattle.std.specs.Prelude.{EachIndex, is_ok}
use Rattle.std.proofs.lemmas.Bool.{cases_lt, false≢true}
use Rattle.tg_model.specs.declared.edge.Edge.{Edge}
use Rattle.tg_model.specs.declared.opening.TheConstants.{MAX_LASTING_VERTICES}
use Rattle.tg_model.specs.Picture.{Shown}
use Rattle.tg_snapshot.specs.declared.vertex.ShownVertex.{ShownVertex}
use Rattle.tg_snapshot.specs.declared.fault.SnapshotFault.{SnapshotFault}
use Rattle.tg_snapshot.specs.declared.fault.SnapshotFault.TheVariants.{NoneMade, BadLimit, BadVertex, BadSubject, BadEdge}
use Rattle.tg_snapshot.specs.Faults.{ChecksForm, IsFault, IsFirstBadLine, HasVertices, HasSubjects}
use Rattle.tg_snapshot.specs.Snapshot.{Saved, HasLimit, IsSnapshot, IsVertexLine, IsSubjectLine, IsEdgeLine}

module _ {X : Type 0} (asked : ℕ → Type 0) (lines : List X) where
  -- a list with a bad line isn't all as asked
  not_each : (at : ℕ) → IsFirstBadLine asked lines at → EachIndex lines asked → ⊥
  not_each at first each = first.bad (each at first.inside)

  -- and no other line is the first bad one
  first_only : (at other : ℕ) → IsFirstBadLine asked lines at → IsFirstBadLine asked lines other → at ≡ other
  first_only at other first second =
      ⊎_elim (λ less. absurd (first.bad (second.before at less)))
      (λ le. ⊎_elim (λ less. absurd (second.bad (first.before other less))) (λ more. omega (arith, le, more)) (cases_lt other at))
      (cases_lt at other)

pub IsFault-no_snapshot : (p : Saved) (fault : SnapshotFault) → IsFault p fault → IsSnapshot p → ⊥
IsFault-no_snapshot p NoneMade fault is = fault is.some_made
IsFault-no_snapshot p BadLimit fault is = fault.1 is.limit
IsFault-no_snapshot p (BadVertex at) fault is = not_each (IsVertexLine p.picture.made p.vertices) p.vertices at fault.1 is.vertices
IsFault-no_snapshot p (BadSubject at) fault is = not_each (IsSubjectLine p.vertices p.picture.subjects) p.picture.subjects at fault.1 is.subjects
IsFault-no_snapshot p (BadEdge at) fault is = not_each (IsEdgeLine p.vertices p.picture.edges) p.picture.edges at fault.1 is.edges

module _ (p : Saved) where
  -- what holds of the lists where one of these is the fault
  abbrev VerticesBad : ℕ → Type 0
  VerticesBad at = IsFirstBadLine (IsVertexLine p.picture.made p.vertices) p.vertices at

  abbrev SubjectsBad : ℕ → Type 0
  SubjectsBad at = IsFirstBadLine (IsSubjectLine p.vertices p.picture.subjects) p.picture.subjects at

  no_vertex : (at : ℕ) → VerticesBad at → HasVertices p → ⊥
  no_vertex at bad has = not_each (IsVertexLine p.picture.made p.vertices) p.vertices at bad has.vertices

  no_subject : (at : ℕ) → SubjectsBad at → HasSubjects p → ⊥
  no_subject at bad has = not_each (IsSubjectLine p.vertices p.picture.subjects) p.picture.subjects at bad has.subjects

  pub IsFault-only : (fault other : SnapshotFault) → IsFault p fault → IsFault p other → fault ≡ other
  IsFault-only NoneMade NoneMade first second = refl
  IsFault-only NoneMade BadLimit first second = absurd (first second.0)
  IsFault-only NoneMade (BadVertex at) first second = absurd (first second.0.some_made)
  IsFault-only NoneMade (BadSubject at) first second = absurd (first second.0.counts.some_made)
  IsFault-only NoneMade (BadEdge at) first second = absurd (first second.0.vertices.counts.some_made)
  IsFault-only BadLimit NoneMade first second = absurd (second first.0)
  IsFault-only BadLimit BadLimit first second = refl
  IsFault-only BadLimit (BadVertex at) first second = absurd (first.1 second.0.limit)
  IsFault-only BadLimit (BadSubject at) first second = absurd (first.1 second.0.counts.limit)
  IsFault-only BadLimit (BadEdge at) first second = absurd (first.1 second.0.vertices.counts.limit)
  IsFault-only (BadVertex at) NoneMade first second = absurd (second first.0.some_made)
  IsFault-only (BadVertex at) BadLimit first second = absurd (second.1 first.0.limit)
  IsFault-only (BadVertex at) (BadVertex other) first second =
      ap BadVertex (first_only (IsVertexLine p.picture.made p.vertices) p.vertices at other first.1 second.1)
  IsFault-only (BadVertex at) (BadSubject other) first second = absurd (no_vertex at first.1 second.0)
  IsFault-only (BadVertex at) (BadEdge other) first second = absurd (no_vertex at first.1 second.0.vertices)
  IsFault-only (BadSubject at) NoneMade first second = absurd (second first.0.counts.some_made)
  IsFault-only (BadSubject at) BadLimit first second = absurd (second.1 first.0.counts.limit)
  IsFault-only (BadSubject at) (BadVertex other) first second = absurd (no_vertex other second.1 first.0)
  IsFault-only (BadSubject at) (BadSubject other) first second =
      ap BadSubject (first_only (IsSubjectLine p.vertices p.picture.subjects) p.picture.subjects at other first.1 second.1)
  IsFault-only (BadSubject at) (BadEdge other) first second = absurd (no_subject at first.1 second.0)
  IsFault-only (BadEdge at) NoneMade first second = absurd (second first.0.vertices.counts.some_made)
  IsFault-only (BadEdge at) BadLimit first second = absurd (second.1 first.0.vertices.counts.limit)
  IsFault-only (BadEdge at) (BadVertex other) first second = absurd (no_vertex other second.1 first.0.vertices)
  IsFault-only (BadEdge at) (BadSubject other) first second = absurd (no_subject other second.1 first.0)
  IsFault-only (BadEdge at) (BadEdge other) first second =
      ap BadEdge (first_only (IsEdgeLine p.vertices p.picture.edges) p.picture.edges at other first.1 second.1)

-- ---- what a look at a picture and at vertices tells

module _ (picture : Shown) (vertices : List ShownVertex) (saved : Saved) (drawn : saved.picture ≡ picture) (listed : saved.vertices ≡ vertices) where
  abbrev looked_at : Saved
  looked_at = record { picture = picture; vertices = vertices; entries = saved.entries }

  whole : looked_at ≡ saved
  whole = λ i. record { picture = sym drawn i; vertices = sym listed i; entries = saved.entries }

  pub is_fault : (fault : SnapshotFault) → IsFault looked_at fault → IsFault saved fault
  is_fault fault is = subst (λ (p : Saved). IsFault p fault) whole is

  pub is_snapshot : IsSnapshot looked_at → IsSnapshot saved
  is_snapshot is = subst IsSnapshot whole is

-- the parts that were found to be as asked, one after the other
pub record Looked (picture : Shown) (vertices : List ShownVertex) (made limit : ℕ) : Type 0 where
  pub is_made : made ≡ picture.made
  pub is_limit : limit ≡ picture.limit
  pub some_made : 1 ≤ made
  pub within : made ≤ limit
  pub lasting : limit ≤ MAX_LASTING_VERTICES
  pub lines : EachIndex vertices (IsVertexLine made vertices)

module _ (picture : Shown) (vertices : List ShownVertex) (made limit : ℕ) (looked : Looked picture vertices made limit) where
  some : 1 ≤ picture.made
  some = omega (arith, looked.is_made, looked.some_made)

  has_limit : HasLimit picture
  has_limit = (omega (arith, looked.is_made, looked.is_limit, looked.within), omega (arith, looked.is_limit, looked.lasting))

  has_lines : EachIndex vertices (IsVertexLine picture.made vertices)
  has_lines = subst (λ (n : ℕ). EachIndex vertices (IsVertexLine n vertices)) looked.is_made looked.lines

  pub has_vertices : (entries : ℕ) → HasVertices (record { picture = picture; vertices = vertices; entries = entries })
  has_vertices entries = record { counts = record { some_made = some; limit = has_limit }; vertices = has_lines }

  module _ (subjects : List ℕ) (named : subjects ≡ picture.subjects) where
    pub bad_subject : (at : ℕ) → IsFirstBadLine (IsSubjectLine vertices subjects) subjects at
        → (saved : Saved) → saved.picture ≡ picture → saved.vertices ≡ vertices → IsFault saved (BadSubject at)
    bad_subject at bad saved drawn listed =
        is_fault picture vertices saved drawn listed (BadSubject at)
        (has_vertices saved.entries, subst (λ (xs : List ℕ). IsFirstBadLine (IsSubjectLine vertices xs) xs at) named bad)

    module _ (each : EachIndex subjects (IsSubjectLine vertices subjects)) (edges : List Edge) (joined : edges ≡ picture.edges) where
      has_subjects : EachIndex picture.subjects (IsSubjectLine vertices picture.subjects)
      has_subjects = subst (λ (xs : List ℕ). EachIndex xs (IsSubjectLine vertices xs)) named each

      pub bad_edge : (at : ℕ) → IsFirstBadLine (IsEdgeLine vertices edges) edges at
          → (saved : Saved) → saved.picture ≡ picture → saved.vertices ≡ vertices → IsFault saved (BadEdge at)
      bad_edge at bad saved drawn listed =
          is_fault picture vertices saved drawn listed (BadEdge at)
          (record { vertices = has_vertices saved.entries; subjects = has_subjects }, subst (λ (es : List Edge). IsFirstBadLine (IsEdgeLine vertices es) es at) joined bad)

      pub no_fault : EachIndex edges (IsEdgeLine vertices edges) → (saved : Saved) → saved.picture ≡ picture → saved.vertices ≡ vertices → IsSnapshot saved
      no_fault all saved drawn listed =
          is_snapshot picture vertices saved drawn listed
          (record { some_made = some; limit = has_limit; vertices = has_lines; subjects = has_subjects; edges = subst (λ (es : List Edge). EachIndex es (IsEdgeLine vertices es)) joined all })

abbrev refusal : SnapshotFault → Result Saved SnapshotFault
refusal fault = Err fault

told_by : (told fault : SnapshotFault) → refusal told ≡ refusal fault → told ≡ fault
told_by told fault same = cc

-- the fault of lists is returned, and no other
pub refused_lists : (p : Saved) (told : SnapshotFault) → IsFault p told → ChecksForm p (Err told)
refused_lists p told is = record {
  kept = tt;
  accepted = (λ ok. absurd (false≢true ok), λ snapshot. absurd (IsFault-no_snapshot p told is snapshot));
  refused = λ fault. (
    λ same. subst (IsFault p) (told_by told fault same) is,
    λ other. ap refusal (IsFault-only p told fault is other),
  );
}

-- a snapshot has no fault
pub accepted_lists : (p : Saved) → IsSnapshot p → ChecksForm p (Ok p)
accepted_lists p is = record {
  kept = refl;
  accepted = (λ ok. is, λ snapshot. refl);
  refused = λ fault. (λ same. absurd (false≢true (sym (ap is_ok same))), λ bad. absurd (IsFault-no_snapshot p fault bad is));
}

-- Histories from two graphs that are alike where subjects reach, and histories that go on from a snapshot.
use Rattle.std.proofs.Common.{◌≡◌, ◌+◌, ◌++◌, ◌∷◌, [], ℕ, zero, suc, List, length, take, refl, sym, subst, arith}
use Rattle.std.specs.List.{Contains}
use Rattle.tg_model.specs.Graph.{ProtectionGraph, IsSound, IsSubject}
use Rattle.tg_model.specs.Opened.{Plan, IsPlan, start_of}
use Rattle.tg_model.specs.Rules.{step, answer_of}
use Rattle.tg_model.specs.declared.command.Deed.{Deed}
use Rattle.tg_model.proofs.SoundLaws.{IsSound-start_of}
use Rattle.tg_journal.specs.declared.entry.Entry.{Entry}
use Rattle.tg_journal.specs.Auditing.{HasComeTo}
use Rattle.tg_journal.specs.History.{IsLegal, IsFirstBad, graph_after}
use Rattle.tg_journal.proofs.AlikeLaws.{answer_alike, entry_alike, step_alike}
use Rattle.tg_journal.proofs.HistoryLaws.{IsLegal-append, IsLegal-cut, graph_after-append, IsSound-after}
use Rattle.tg_journal.specs.Continues.{Continues, IsSnapshotAfter}
use Rattle.tg_snapshot.specs.Snapshot.{Saved, graph_shown}
use Rattle.tg_journal.proofs.SnapshotLaws.{snapshot_alike}

-- ---- two graphs that are alike

pub legal_whole : (g k : ProtectionGraph) (es : List Entry) → HasComeTo g k → IsLegal k es → IsLegal g es × HasComeTo (graph_after g es) (graph_after k es)
legal_whole g k [] come legal = (tt, come)
legal_whole g k (e ∷ es) come legal =
    let this = (entry_alike g k come e).0 legal.0 in
    let rest = legal_whole (step g e.worker e.deed) (step k e.worker e.deed) es (step_alike g k come e.worker this.subject e.deed) legal.1 in
    ((this, rest.0), rest.1)

pub legal_kept : (g k : ProtectionGraph) (es : List Entry) → HasComeTo g k → IsLegal g es → IsLegal k es
legal_kept g k [] come legal = tt
legal_kept g k (e ∷ es) come legal =
    ((entry_alike g k come e).1 legal.0, legal_kept (step g e.worker e.deed) (step k e.worker e.deed) es (step_alike g k come e.worker legal.0.subject e.deed) legal.1)

bad_whole : (g k : ProtectionGraph) (es : List Entry) (at : ℕ) → HasComeTo g k → IsFirstBad k es at → IsFirstBad g es at
bad_whole g k es at come first =
    let whole = legal_whole g k (take at es) come first.before in
    record { before = whole.0; entry = first.entry; there = first.there; bad = λ legal. first.bad ((entry_alike (graph_after g (take at es)) (graph_after k (take at es)) whole.1 first.entry).1 legal) }

bad_kept : (g k : ProtectionGraph) (es : List Entry) (at : ℕ) → HasComeTo g k → IsFirstBad g es at → IsFirstBad k es at
bad_kept g k es at come first =
    let kept = legal_kept g k (take at es) come first.before in
    let next = (legal_whole g k (take at es) come kept).1 in
    record { before = kept; entry = first.entry; there = first.there; bad = λ legal. first.bad ((entry_alike (graph_after g (take at es)) (graph_after k (take at es)) next first.entry).0 legal) }

-- ---- the first bad entry of a history that is cut

bad_joined : (g : ProtectionGraph) (front es : List Entry) (at n : ℕ) → n ≡ length front + at → IsLegal g front → IsFirstBad (graph_after g front) es at → IsFirstBad g (front ++ es) n
bad_joined g [] es at n is legal first = subst (IsFirstBad g es) (let same : at ≡ n = omega (arith, is) in same) first
bad_joined g (e ∷ front) es at zero is legal first = absurd (omega (arith, is))
bad_joined g (e ∷ front) es at (suc n) is legal first =
    let rest = bad_joined (step g e.worker e.deed) front es at n (omega (arith, is)) legal.1 first in
    record { before = (legal.0, rest.before); entry = rest.entry; there = rest.there; bad = rest.bad }

bad_parted : (g : ProtectionGraph) (front es : List Entry) (at n : ℕ) → n ≡ length front + at → IsFirstBad g (front ++ es) n → IsFirstBad (graph_after g front) es at
bad_parted g [] es at n is first = subst (IsFirstBad g es) (let same : n ≡ at = omega (arith, is) in same) first
bad_parted g (e ∷ front) es at zero is first = absurd (omega (arith, is))
bad_parted g (e ∷ front) es at (suc n) is first =
    bad_parted (step g e.worker e.deed) front es at n (omega (arith, is)) (record { before = first.before.1; entry = first.entry; there = first.there; bad = first.bad })

-- ---- the history before, and the one after

module _ (first : ProtectionGraph) (front : List Entry) (legal : IsLegal first front) (k : ProtectionGraph) (come : HasComeTo (graph_after first front) k) where
  abbrev before : ProtectionGraph
  before = graph_after first front

  next : (es : List Entry) → IsLegal k es → HasComeTo (graph_after first (front ++ es)) (graph_after k es)
  next es later = subst (λ (h : ProtectionGraph). HasComeTo h (graph_after k es)) (sym (graph_after-append first front es)) (legal_whole before k es come later).1

  reply : (es : List Entry) (x : ℕ) (deed : Deed) → IsLegal k es → IsSubject (graph_after k es) x → answer_of (graph_after k es) x deed ≡ answer_of (graph_after first (front ++ es)) x deed
  reply es x deed later subject =
      let there = next es later in
      answer_alike (graph_after first (front ++ es)) (graph_after k es) there x (subst (λ (s : List ℕ). Contains s x) there.alike.subjects subject) deed

  pub continues : Continues first front k
  continues = record {
    legal = λ es. (
      λ later. IsLegal-append first front es legal (legal_whole before k es come later).0,
      λ whole. legal_kept before k es come (IsLegal-cut first front es whole).1,
    );
    bad = λ es at. (
      λ bad. bad_joined first front es at (length front + at) refl legal (bad_whole before k es at come bad),
      λ bad. bad_kept before k es at come (bad_parted first front es at (length front + at) refl bad),
    );
    reply = reply;
    next = next;
  }

pub continues-sound : (first : ProtectionGraph) (front : List Entry) (p : Saved) → IsSound first → IsSnapshotAfter first front p → Continues first front (graph_shown p)
continues-sound first front p sound after =
    continues first front after.legal (graph_shown p) (snapshot_alike p (graph_after first front) (IsSound-after first front sound after.legal) after.of)

pub continues-opened : (plan : Plan) (front : List Entry) (p : Saved) → IsPlan plan → IsSnapshotAfter (start_of plan) front p → Continues (start_of plan) front (graph_shown p)
continues-opened plan front p is after = continues-sound (start_of plan) front p (IsSound-start_of plan is) after

-- Stores that go on from a history.
use Rattle.std.proofs.Common.{◌≡◌, ◌∙◌, ◌+◌, ◌-◌, ◌<◌, ◌≤◌, ◌++◌, ℕ, List, [], length, take, drop, Some, arith, sym, ap, subst}
use Rattle.std.specs.Prelude.{slice_get}
use Rattle.std.proofs.lemmas.List.{get_or_append_left, get_or-append-add, length-append, take-append-le}
use Rattle.std.proofs.lemmas.Option.{get_or_from_slice_get, slice_get_within, slice_get-get_or}
use Rattle.std.proofs.Math.ListN.{drop_of_length-le}
use Rattle.std.proofs.Math.Nat.{lt_of_not-le}
use Rattle.std.proofs.Math.Seq.{drop-append_seam, take-append-add}
use Rattle.tg_model.specs.Graph.{ProtectionGraph, IsSound}
use Rattle.tg_model.specs.Opened.{Plan, start_of}
use Rattle.tg_snapshot.specs.Snapshot.{IsSnapshotOf, Saved, graph_shown}
use Rattle.tg_journal.specs.declared.entry.Entry.{Entry}
use Rattle.tg_journal.specs.Auditing.{HasComeTo}
use Rattle.tg_journal.specs.History.{IsLegal, IsLegalEntry, IsFirstBad, graph_after}
use Rattle.tg_journal.proofs.GoingOn.{legal_whole}
use Rattle.tg_journal.proofs.HistoryLaws.{IsFirstBad-not_legal, IsLegal-cut, graph_after-append}
use Rattle.tg_journal.proofs.SnapshotLaws.{snapshot_alike}
use Rattle.tg_entries.specs.declared.kept.History.{History}
use Rattle.tg_entries.specs.declared.kept.HistoryStart.{HistoryStart}
use Rattle.tg_entries.specs.declared.kept.HistoryStart.TheVariants as start
use Rattle.tg_entries.specs.Kept.{BeginsAt, IsTextOf}
use Rattle.tg_entries.specs.Texts.{Joined, Opened, Shown, TextStart, graph_of_origin}
use Rattle.tg_space.specs.SpaceTable.{BlockLimits}
use Rattle.tg_space.specs.declared.room_fault.RoomFault.{RoomFault}
use Rattle.tg_store.specs.Again.{Reopens}
use Rattle.tg_store.specs.Origin.{Origin, opened_by, start_at}
use Rattle.tg_store.specs.Store.{IsFaithful, StandsFor, StoreState, graph_of_store}
use Rattle.tg_resume.specs.Resuming as resuming
use Rattle.tg_resume.specs.Resuming.{HasNoRoom, IsHalted, Resumes}
use Rattle.tg_resume.specs.declared.part.Halted.{Halted}
use Rattle.tg_resume.specs.declared.part.Halted.TheVariants as halted
use Rattle.tg_revive.specs.Reviving.{IsBadInHistory, LacksRoomAt, IsOriginOf, IsRevived, IsReviveFault, entries_made_before, fault_of_halted, graph_of_start}

-- ---- before the first entry

pub opened : (plan : Plan) (limits : BlockLimits) (s : StoreState) → StandsFor s (start_of plan) → s.opening ≡ opened_by plan → s.entries ≡ [] → s.handed ≡ 0 → s.heap.table.limits ≡ limits → IsRevived (start.Opened plan) [] limits s
opened plan limits s stands opening none handed is = record {
  place = handed;
  count = ap (λ (l : List Entry). length l) none;
  held = drop_of_length-le s.entries (omega (arith, ap (λ (l : List Entry). length l) none));
  legal = tt;
  graph = stands;
  origin = opening;
  limits = is;
}

pub reopened : (plan : Plan) (p : Saved) (limits : BlockLimits) (s : StoreState) → plan.limit ≡ p.picture.limit → Reopens plan p limits s → IsRevived (start.Shown p) [] limits s
reopened plan p limits s limit again = record {
  place = again.none_held;
  count = omega (arith, again.place);
  held = drop_of_length-le s.entries (omega (arith, again.place, again.none_held));
  legal = tt;
  graph = again.start;
  origin = (ap (λ (o : Origin). o.shown) again.opening, ap (λ (o : Origin). o.plan.limit) again.opening ∙ limit);
  limits = again.limits;
}

-- ---- after more entries

pub revived_on : (begin : HistoryStart) (es : List Entry) (limits : BlockLimits) (mid new : StoreState) → IsRevived begin [] limits mid → Resumes es mid new → IsRevived begin es limits new
revived_on begin es limits mid new was resumed =
    let count : length mid.entries ≡ entries_made_before begin + 0 = was.count in
    let place : new.handed ≡ entries_made_before begin = resumed.handed ∙ was.place in
    let at : new.handed ≡ length mid.entries = omega (arith, place, count) in
    let more : length new.entries ≡ length mid.entries + length es = ap (λ (l : List Entry). length l) resumed.entries ∙ length-append mid.entries es in
    record {
      place = place;
      count = omega (arith, more, count);
      held = (λ i. drop (at i) (resumed.entries i)) ∙ drop-append_seam mid.entries es;
      legal = subst (λ (g : ProtectionGraph). IsLegal g es) was.graph resumed.legal;
      graph = resumed.graph ∙ ap (λ (g : ProtectionGraph). graph_after g es) was.graph;
      origin = subst (IsOriginOf begin) (sym resumed.opening) was.origin;
      limits = resumed.limits ∙ was.limits;
    }

-- ---- faults

-- the first bad entry of a list whose front is legal
record IsBadLater (g : ProtectionGraph) (front es : List Entry) (at : ℕ) : Type 0 where
  done : ℕ
  place : at ≡ length front + done
  bad : IsFirstBad (graph_after g front) es done

not_early : (g : ProtectionGraph) (front es : List Entry) (at : ℕ) → IsLegal g front → IsFirstBad g (front ++ es) at → at < length front → ⊥
not_early g front es at legal bad early =
    let seam : take at (front ++ es) ≡ take at front = take-append-le at front es (omega (arith, early)) in
    let x : Entry = bad.entry in
    let there : slice_get front at ≡ Some x =
    slice_get-get_or front at x early
    ∙ ap (λ (e : Entry). Some e) (sym (get_or_append_left front es x at early) ∙ get_or_from_slice_get (front ++ es) at x x bad.there) in
    IsFirstBad-not_legal g front at (record {
      before = subst (IsLegal g) seam bad.before;
      entry = x;
      there = there;
      bad = λ is. bad.bad (subst (λ (l : List Entry). IsLegalEntry (graph_after g l) x) (sym seam) is);
    }) legal

bad_later : (g : ProtectionGraph) (front es : List Entry) (done : ℕ) → IsLegal g front → IsFirstBad g (front ++ es) (length front + done) → IsFirstBad (graph_after g front) es done
bad_later g front es done legal bad =
    let at : ℕ = length front + done in
    let x : Entry = bad.entry in
    let seam : take at (front ++ es) ≡ front ++ take done es = take-append-add front es done in
    let graph : graph_after (graph_after g front) (take done es) ≡ graph_after g (take at (front ++ es)) =
    sym (graph_after-append g front (take done es)) ∙ ap (graph_after g) (sym seam) in
    let inside : done < length es = omega (arith, slice_get_within (front ++ es) at x bad.there, length-append front es) in
    record {
      before = (IsLegal-cut g front (take done es) (subst (IsLegal g) seam bad.before)).1;
      entry = x;
      there =
          slice_get-get_or es done x inside
          ∙ ap (λ (e : Entry). Some e) (sym (get_or-append-add front es done x) ∙ get_or_from_slice_get (front ++ es) at x x bad.there);
      bad = λ is. bad.bad (subst (λ (k : ProtectionGraph). IsLegalEntry k x) graph is);
    }

bad_on : (begin : HistoryStart) (es : List Entry) (limits : BlockLimits) (mid : StoreState) (at : ℕ) → IsRevived begin [] limits mid → IsFaithful mid → resuming.IsBadAt es mid at → IsBadInHistory begin es at
bad_on begin es limits mid at was faithful bad =
    let g : ProtectionGraph = start_at mid.opening in
    let count : length mid.entries ≡ entries_made_before begin + 0 = was.count in
    let after : length mid.entries < at + 1 =
    lt_of_not-le {n = at + 1} {m = length mid.entries} (λ (h : at + 1 ≤ length mid.entries). not_early g mid.entries es at faithful.legal bad (omega (arith, h))) in
    let late : length mid.entries ≤ at = omega (arith, after) in
    let done : ℕ = at - length mid.entries in
    let place : at ≡ length mid.entries + done = omega (arith, late) in
    let later : IsFirstBad (graph_after g mid.entries) es done =
    bad_later g mid.entries es done faithful.legal (subst (λ n. IsFirstBad g (mid.entries ++ es) n) place bad) in
    record {
      done = done;
      place = omega (arith, place, count);
      bad = subst (λ (k : ProtectionGraph). IsFirstBad k es done) was.graph later;
    }

room_on : (begin : HistoryStart) (es : List Entry) (limits : BlockLimits) (mid new : StoreState) (at : ℕ) (why : RoomFault) → IsRevived begin [] limits mid → HasNoRoom es mid new at why → LacksRoomAt begin es limits at why
room_on begin es limits mid new at why was lacks =
    let count : length mid.entries ≡ entries_made_before begin + 0 = was.count in
    record {
      done = lacks.done;
      place = omega (arith, lacks.place, count);
      store = new;
      before = revived_on begin (take lacks.done es) limits mid new was lacks.before;
      entry = lacks.entry;
      there = lacks.there;
      reason = lacks.reason;
    }

pub fault_on : (begin : HistoryStart) (es : List Entry) (limits : BlockLimits) (mid new : StoreState) (h : Halted) → IsRevived begin [] limits mid → IsFaithful mid → IsHalted es mid new h → IsReviveFault begin es limits (fault_of_halted h)
fault_on begin es limits mid new (halted.BadEntry at) was faithful bad = bad_on begin es limits mid at was faithful bad
fault_on begin es limits mid new (halted.NoRoom at why) was faithful lacks = room_on begin es limits mid new at why was lacks

-- ---- laws

same_start : (begin : HistoryStart) (origin : TextStart) → BeginsAt begin origin → graph_of_origin origin ≡ graph_of_start begin
same_start (start.Opened opening) (Opened plan) is = ap start_of (sym is)
same_start (start.Opened opening) (Shown p) is = absurd is
same_start (start.Opened opening) (Joined p sum) is = absurd is
same_start (start.Shown snapshot) (Opened plan) is = absurd is
same_start (start.Shown snapshot) (Shown p) is = ap graph_shown (sym is)
same_start (start.Shown snapshot) (Joined p sum) is = ap graph_shown (sym is)

pub none_is_bad : (text : List ℕ) (history : History) (at : ℕ) → IsTextOf text history → IsBadInHistory history.start history.entries.items at → ⊥
none_is_bad text history at of bad =
    let es : List Entry = history.entries.items in
    IsFirstBad-not_legal (graph_of_start history.start) es bad.done bad.bad
    (subst (λ (g : ProtectionGraph). IsLegal g es) (same_start history.start of.origin of.begins) of.is.legal)

pub alike_after : (g : ProtectionGraph) (p : Saved) (es : List Entry) (limits : BlockLimits) (s : StoreState) → IsSound g → IsSnapshotOf p g → IsRevived (start.Shown p) es limits s → IsLegal g es × HasComeTo (graph_after g es) (graph_of_store s)
alike_after g p es limits s sound of revived =
    let both = legal_whole g (graph_shown p) es (snapshot_alike p g sound of) revived.legal in
    (both.0, subst (HasComeTo (graph_after g es)) (sym revived.graph) both.1)

-- What a line more comes to for an audit of a text.
use Rattle.std.proofs.Common.{◌≡◌, Bool, true, false, ◌⊎◌, ⊎_elim, ◌∙◌, ℕ, ◌+◌, List, [], ◌∷◌, ◌++◌, Option, Some, None, IfSome, OnSome, refl, ap, sym, subst, append-nil, append_assoc, length, length-append, arith}
use Rattle.std.proofs.KnownBytes.{Consumes-nil, Consumes-trans}
use Rattle.std.proofs.lemmas.List.{flat_map_more}
use Rattle.std.specs.Io.KnownBytes.{Consumes, IsAtEnd}
use Rattle.std.specs.List.{flat_map}
use Rattle.std.specs.Prelude.{IfOk, Result, Ok, Err}
use Rattle.tg_model.specs.declared.edge.Edge.{Edge}
use Rattle.tg_model.specs.declared.value.Value.{Value}
use Rattle.tg_model.specs.Graph.{ProtectionGraph}
use Rattle.tg_model.specs.Opened.{Plan, IsPlan, start_of}
use Rattle.tg_journal.specs.declared.entry.Entry.{Entry}
use Rattle.tg_journal.specs.Auditing.{StandsAt}
use Rattle.tg_journal.specs.History.{graph_after}
use Rattle.tg_journal.specs.Saving.{CanBeSaved}
use Rattle.tg_journal.proofs.HistoryLaws.{IsLegal-push, graph_after-push}
use Rattle.tg_journal.proofs.SavingLaws.{CanBeSaved-after, CanBeSaved-opened, CanBeSaved-shown}
use Rattle.tg_entries.specs.declared.stage.Entered.{Entered}
use Rattle.tg_entries.specs.declared.stage.Stage.{Stage}
use Rattle.tg_entries.specs.declared.stage.Stage.TheVariants as stage
use Rattle.tg_entries.specs.declared.kept.History.{History}
use Rattle.tg_entries.specs.declared.kept.HistoryStart.{HistoryStart}
use Rattle.tg_entries.specs.declared.kept.HistoryStart.TheVariants as start
use Rattle.tg_entries.specs.Kept.{BeginsAt, IsKept, IsTextOf}
use Rattle.tg_entries.specs.Pieces.{FetchesPiece}
use Rattle.tg_entries.specs.Read.{AuditedText, CanSave, EndsText, ReadsOn, HasEnded, HasEntered, HasRead, HasReadAll, HasReadTo, HasReopened, IsListedEntry, IsNext}
use Rattle.tg_snapshot.specs.Snapshot.{Saved, IsSnapshot, IsSnapshotOf, graph_shown}
use Rattle.tg_saved.specs.Texts.{edge_line_text, snapshot_text}
use Rattle.tg_entries.specs.Texts.{TextStart, Opened, Shown, Joined, IsAudited, IsAuditedAfter, next_count, next_entry, no_entry, IsHistory, IsTextStart, IsSavedAfter, end_text, entry_text, graph_of_origin, head_text, limits_text, opening_text, origin_text, part_head_text, sum_text, version_text, worker_text}

-- an edge
pub edge_read : (text line : List ℕ) (workers limit : ℕ) (values : List Value) (edges now : List Edge) (edge : Edge) → now ≡ edges ++ edge ∷ [] →
    text ≡ opening_text workers limit values edges → line ≡ edge_line_text edge → text ++ line ≡ opening_text workers limit values now
edge_read text line workers limit values edges now edge more before is =
    let front = (version_text ++ limits_text workers limit) ++ flat_map worker_text values in
    ap (λ (x : List ℕ). x ++ line) before ∙ ap (λ (x : List ℕ). (front ++ flat_map edge_line_text edges) ++ x) is
    ∙ flat_map_more edge_line_text front edges edge ∙ ap (λ (es : List Edge). front ++ flat_map edge_line_text es) (sym more)

-- the whole opening, before any entry
pub opening_read : (keeps : Bool) (text : List ℕ) (plan : Plan) (entered : Entered) → text ≡ head_text plan → IsPlan plan →
    StandsAt (start_of plan) entered.auditor → entered.auditor.at ≡ 0 → entered.count ≡ 0 → entered.before ≡ None → IsKept keeps (Opened plan) [] entered.kept → HasEntered keeps text entered
opening_read keeps text plan entered is opening come first none bare kept = record {
  origin = Opened plan;
  entries = [];
  accepted = opening;
  passes = record { legal = tt; next = come };
  place = first;
  number = none;
  sum = bare;
  body = [];
  counted = no_entry;
  text_is = is ∙ sym (append-nil (head_text plan));
  kept = kept;
}

-- the whole snapshot, before any entry
pub snapshot_read : (keeps : Bool) (text : List ℕ) (p : Saved) (entered : Entered) → text ≡ snapshot_text p → IsSnapshot p →
    StandsAt (graph_shown p) entered.auditor → entered.auditor.at ≡ p.entries → entered.count ≡ 0 → entered.before ≡ None → IsKept keeps (Shown p) [] entered.kept → HasReopened keeps text entered
snapshot_read keeps text p entered is accepted come first none bare kept = record {
  shown = p;
  accepted = accepted;
  come = come;
  place = first;
  number = none;
  sum = bare;
  text_is = is;
  kept = kept;
}

-- entries come after it at once
pub reopened_read : (keeps : Bool) (text : List ℕ) (entered : Entered) → HasReopened keeps text entered → HasEntered keeps text entered
reopened_read keeps text entered was = record {
  origin = Shown was.shown;
  entries = [];
  accepted = was.accepted;
  passes = record { legal = tt; next = was.come };
  place = omega (arith, was.place);
  number = was.number;
  sum = was.sum;
  body = [];
  counted = no_entry;
  text_is = was.text_is ∙ sym (append-nil (snapshot_text was.shown));
  kept = was.kept;
}

-- a history begins at a snapshot, with and without a sum
begins_joined : (h : HistoryStart) (p : Saved) (sum : List ℕ) → BeginsAt h (Shown p) → BeginsAt h (Joined p sum)
begins_joined (start.Opened opening) p sum begins = absurd begins
begins_joined (start.Shown snapshot) p sum begins = begins

kept_joined : (keeps : Bool) (p : Saved) (sum : List ℕ) (kept : Option History) → IsKept keeps (Shown p) [] kept → IsKept keeps (Joined p sum) [] kept
kept_joined false p sum kept is = tt
kept_joined true p sum None is = absurd is
kept_joined true p sum (Some history) is = (begins_joined history.start p sum is.0, is.1)

-- one more entry is kept, or none is kept
pub kept_more : (keeps : Bool) (origin : TextStart) (es : List Entry) (e : Entry) (history next : History) → next.start ≡ history.start → next.entries.items ≡ history.entries.items ++ e ∷ [] → IsKept keeps origin es (Some history) → IsKept keeps origin (es ++ e ∷ []) (Some next)
kept_more false origin es e history next same more was = tt
kept_more true origin es e history next same more was = (subst (λ (s : HistoryStart). BeginsAt s origin) (sym same) was.0, more ∙ ap (λ (x : List Entry). x ++ e ∷ []) was.1)

pub kept_none : (keeps : Bool) (origin : TextStart) (es : List Entry) (e : Entry) → IsKept keeps origin es None → IsKept keeps origin (es ++ e ∷ []) None
kept_none false origin es e was = tt
kept_none true origin es e was = absurd was

-- the sum of the part before comes after it
pub joined_read : (keeps : Bool) (text line sum : List ℕ) (entered : Entered) → HasReopened keeps text entered → line ≡ sum_text sum →
    HasEntered keeps (text ++ line) (record { auditor = entered.auditor; count = entered.count; before = Some sum; kept = entered.kept })
joined_read keeps text line sum entered was is = record {
  origin = Joined was.shown sum;
  entries = [];
  accepted = was.accepted;
  passes = record { legal = tt; next = was.come };
  place = omega (arith, was.place);
  number = was.number;
  sum = refl;
  body = [];
  counted = no_entry;
  text_is = ap (λ (x : List ℕ). x ++ line) was.text_is ∙ ap (λ (x : List ℕ). snapshot_text was.shown ++ x) is ∙ sym (append-nil (part_head_text was.shown sum));
  kept = kept_joined keeps was.shown sum entered.kept was.kept;
}

-- a line after all that came after the front
text_on : (text line front body more : List ℕ) → text ≡ front ++ body → line ≡ more → text ++ line ≡ front ++ (body ++ more)
text_on text line front body more before is =
    ap (λ (x : List ℕ). x ++ line) before ∙ append_assoc front body line ∙ ap (λ (x : List ℕ). front ++ (body ++ x)) is

-- an entry, which is next where the audit stands
entry_at : (keeps : Bool) (text line : List ℕ) (entered next : Entered) (e : Entry) (was : HasEntered keeps text entered) →
    IsNext (graph_after (graph_of_origin was.origin) was.entries) entered.auditor.at line next.auditor e → next.count ≡ entered.count + 1 → next.before ≡ entered.before →
    IsKept keeps was.origin (was.entries ++ e ∷ []) next.kept → HasEntered keeps (text ++ line) next
entry_at keeps text line entered next e was this more same kept =
    let g = graph_of_origin was.origin in record {
      origin = was.origin;
      entries = was.entries ++ e ∷ [];
      accepted = was.accepted;
      passes = record {
        legal = IsLegal-push g was.entries e was.passes.legal this.passes.legal.0;
        next = subst (λ (h : ProtectionGraph). StandsAt h next.auditor) (sym (graph_after-push g was.entries e)) this.passes.next;
      };
      place = omega (arith, this.place, was.place, length-append was.entries (e ∷ []));
      number = omega (arith, more, was.number, length-append was.entries (e ∷ []));
      sum = same ∙ was.sum;
      body = was.body ++ entry_text e;
      counted = next_entry e was.counted;
      text_is = text_on text line (origin_text was.origin) was.body (entry_text e) was.text_is this.line_is;
      kept = kept;
    }

-- an entry
pub entry_read : (keeps : Bool) (text line : List ℕ) (entered next : Entered) (e : Entry) → HasEntered keeps text entered →
    ((g : ProtectionGraph) → StandsAt g entered.auditor → IsNext g entered.auditor.at line next.auditor e) →
    next.count ≡ entered.count + 1 → next.before ≡ entered.before →
    ((origin : TextStart) (es : List Entry) → IsKept keeps origin es entered.kept → IsKept keeps origin (es ++ e ∷ []) next.kept) → HasEntered keeps (text ++ line) next
entry_read keeps text line entered next e was is_next more same keep =
    entry_at keeps text line entered next e was (is_next (graph_after (graph_of_origin was.origin) was.entries) was.passes.next) more same (keep was.origin was.entries was.kept)

-- an entry, of which the line is read to its end
pub listed_read : (keeps : Bool) (text held : List ℕ) (left left' : Option (List ℕ)) (entered next : Entered) (e : Entry) → HasEntered keeps text entered →
    ((g : ProtectionGraph) → StandsAt g entered.auditor → IsListedEntry g entered.auditor.at held left left' next.auditor e) →
    next.count ≡ entered.count + 1 → next.before ≡ entered.before →
    ((origin : TextStart) (es : List Entry) → IsKept keeps origin es entered.kept → IsKept keeps origin (es ++ e ∷ []) next.kept) → ReadsOn keeps text held left left' (stage.Entries next)
listed_read keeps text held left left' entered next e was is_listed more same keep =
    let this = is_listed (graph_after (graph_of_origin was.origin) was.entries) was.passes.next in record {
      rest = this.rest;
      taken = this.taken;
      read = entry_at keeps text (held ++ this.rest) entered next e was this.next more same (keep was.origin was.entries was.kept);
    }

-- a count line, after which entries may come again
pub count_read : (keeps : Bool) (text : List ℕ) (entered : Entered) → HasEnded keeps text entered → HasEntered keeps text entered
count_read keeps text entered was =
    let read = was.read in record {
      origin = read.origin;
      entries = read.entries;
      body = read.body ++ end_text (length read.entries);
      accepted = read.accepted;
      passes = read.passes;
      place = read.place;
      number = read.number;
      sum = read.sum;
      counted = next_count read.counted;
      text_is =
          was.whole
          ∙ text_on was.front (end_text entered.count) (origin_text read.origin) read.body (end_text (length read.entries)) read.text_is (ap end_text read.number);
      kept = read.kept;
    }

-- where entries may come: after an entry, and after a count line
pub may_go_on : (keeps : Bool) (text : List ℕ) (now : Stage) (entered : Entered) → (now ≡ stage.Entries entered) ⊎ (now ≡ stage.Ended entered) → HasReadTo keeps text now → HasEntered keeps text entered
may_go_on keeps text now entered either was =
    ⊎_elim (λ is. subst (HasReadTo keeps text) is was) (λ is. count_read keeps text entered (subst (HasReadTo keeps text) is was)) either

-- where a listing may come: there, and after a snapshot
pub may_list : (keeps : Bool) (text : List ℕ) (now : Stage) (entered : Entered) → (now ≡ stage.Joint entered) ⊎ ((now ≡ stage.Entries entered) ⊎ (now ≡ stage.Ended entered)) →
    HasReadTo keeps text now → HasEntered keeps text entered
may_list keeps text now entered either was =
    ⊎_elim (λ is. reopened_read keeps text entered (subst (HasReadTo keeps text) is was)) (λ is. may_go_on keeps text now entered is was) either

-- ---- a whole text

-- it is that of a history
history_ended : (keeps : Bool) (text : List ℕ) (entered : Entered) (was : HasEnded keeps text entered) → IsHistory text was.read.origin was.read.entries
history_ended keeps text entered was =
    let read = was.read in
    let front = origin_text read.origin ++ read.body in record {
      body = read.body;
      accepted = read.accepted;
      legal = read.passes.legal;
      counted = read.counted;
      whole = was.whole ∙ ap (λ (x : List ℕ). x ++ end_text entered.count) read.text_is ∙ ap (λ (n : ℕ). front ++ end_text n) read.number;
    }

-- it has so many entries
pub audited_ended : (keeps : Bool) (text : List ℕ) (entered : Entered) → HasEnded keeps text entered → IsAudited text entered.count
audited_ended keeps text entered was = record {
  origin = was.read.origin;
  entries = was.read.entries;
  history = history_ended keeps text entered was;
  number = was.read.number;
}

-- the same, where the sum of the part before was read
pub audited_after : (keeps : Bool) (text sum : List ℕ) (entered : Entered) → entered.before ≡ Some sum → HasEnded keeps text entered → IsAuditedAfter sum text entered.count
audited_after keeps text sum entered is was = record {
  origin = was.read.origin;
  entries = was.read.entries;
  history = history_ended keeps text entered was;
  number = was.read.number;
  before = sym was.read.sum ∙ is;
}

-- a snapshot of what the audit has come to is one of the graph after it
pub saved_ended : (keeps : Bool) (text : List ℕ) (entered : Entered) (p : Saved) → HasEnded keeps text entered →
    ((g : ProtectionGraph) → StandsAt g entered.auditor → IsSnapshotOf p g) → p.entries ≡ entered.auditor.at → IsSavedAfter text p
saved_ended keeps text entered p was of place =
    let read = was.read in record {
      origin = read.origin;
      entries = read.entries;
      history = history_ended keeps text entered was;
      of = of (graph_after (graph_of_origin read.origin) read.entries) read.passes.next;
      place = place ∙ read.place;
    }

can_be_saved : (o : TextStart) → IsTextStart o → CanBeSaved (graph_of_origin o)
can_be_saved (Opened plan) is = CanBeSaved-opened plan is
can_be_saved (Shown p) is = CanBeSaved-shown p is
can_be_saved (Joined p sum) is = CanBeSaved-shown p is

-- the audit has come to a graph of which it has a snapshot
pub can_save_ended : (keeps : Bool) (text : List ℕ) (entered : Entered) → HasEnded keeps text entered → CanSave entered
can_save_ended keeps text entered was =
    let read = was.read in
    let first = graph_of_origin read.origin in record {
      graph = graph_after first read.entries;
      come = read.passes.next;
      saved = CanBeSaved-after first read.entries (can_be_saved read.origin read.accepted) read.passes.legal;
    }

-- an audit that was to keep its history has it
text_of : (text : List ℕ) (o : TextStart) (es : List Entry) (history : History) → IsHistory text o es → BeginsAt history.start o → history.entries.items ≡ es → IsTextOf text history
text_of text o es history is begins same = record {
  origin = o;
  begins = begins;
  is = subst (λ (x : List Entry). IsHistory text o x) (sym same) is;
}

pub kept_ended : (keeps : Bool) (text : List ℕ) (entered : Entered) (history : History) → keeps ≡ true → entered.kept ≡ Some history → HasEnded keeps text entered → IsTextOf text history
kept_ended keeps text entered history on is was =
    let kept : IsKept keeps was.read.origin was.read.entries (Some history) = subst (IsKept keeps was.read.origin was.read.entries) is was.read.kept in
    let here : IsKept true was.read.origin was.read.entries (Some history) = subst (λ (b : Bool). IsKept b was.read.origin was.read.entries (Some history)) on kept in
    text_of text was.read.origin was.read.entries history (history_ended keeps text entered was) here.0 here.1

pub none_kept : (keeps : Bool) (text : List ℕ) (entered : Entered) → keeps ≡ true → entered.kept ≡ None → HasEnded keeps text entered → ⊥
none_kept keeps text entered on is was =
    let kept : IsKept keeps was.read.origin was.read.entries None = subst (IsKept keeps was.read.origin was.read.entries) is was.read.kept in
    subst (λ (b : Bool). IsKept b was.read.origin was.read.entries None) on kept

-- ---- all lines of a reader

-- what was taken of the reader's bytes is what the audit has read, which keeps its history if this says so
pub record IsAt (keeps : Bool) (known now : Option (List ℕ)) (audit : AuditedText) : Type 0 where
  pub front : List ℕ
  pub taken : Consumes known now front
  pub read : HasRead front audit
  pub same : audit.keeps ≡ keeps

-- a line that is whole
pub goes_on : (keeps : Bool) (text line : List ℕ) (left : Option (List ℕ)) (next : AuditedText) → next.keeps ≡ keeps → HasRead (text ++ line) next → ReadsOn keeps text line left left next.stage
goes_on keeps text line left next same read = record {
  rest = [];
  taken = Consumes-nil left;
  read = subst (λ (b : Bool). HasReadTo b (text ++ (line ++ [])) next.stage) same (subst (λ (x : List ℕ). HasRead (text ++ x) next) (sym (append-nil line)) read);
}

-- the front of a line was taken, and then its rest, and all was read
pub at_next : (keeps : Bool) (known now then left : Option (List ℕ)) (audit next : AuditedText) (line : List ℕ) → IsAt keeps known now audit → FetchesPiece [] now line then →
    ((text : List ℕ) → HasRead text audit → ReadsOn audit.keeps text line then left next.stage) → next.keeps ≡ audit.keeps → IsAt keeps known left next
at_next keeps known now then left audit next line was taken reads kept =
    let goes = reads was.front was.read in record {
      front = was.front ++ (line ++ goes.rest);
      taken =
          Consumes-trans known now left was.front (line ++ goes.rest) was.taken
          (subst (λ (x : List ℕ). Consumes now left (x ++ goes.rest)) (sym taken.held_is)
          (Consumes-trans now then left taken.piece goes.rest taken.taken goes.taken));
      read = subst (λ (b : Bool). HasReadTo b (was.front ++ (line ++ goes.rest)) next.stage) (sym kept) goes.read;
      same = kept ∙ was.same;
    }

-- these bytes were the last
whole_taken : (known now then : Option (List ℕ)) (front piece line : List ℕ) → Consumes known now front → Consumes now then piece → OnSome now (IsAtEnd then) → line ≡ piece →
    IfSome known (λ bytes. bytes ≡ front ++ line)
whole_taken None now then front piece line before taken none is = tt
whole_taken (Some xs) None then front piece line before taken none is = absurd before
whole_taken (Some xs) (Some rest) None front piece line before taken none is = absurd taken
whole_taken (Some xs) (Some rest) (Some left) front piece line before taken none is =
    before ∙ ap (λ (x : List ℕ). front ++ x) (taken ∙ ap (λ (x : List ℕ). piece ++ x) none ∙ append-nil piece ∙ sym is)

-- of bytes that are known all were taken
all_taken : (known now then : Option (List ℕ)) (front piece : List ℕ) → Consumes known now front → Consumes now then piece → OnSome now (IsAtEnd then) → HasReadAll known then
all_taken None now then front piece before taken none = tt
all_taken (Some xs) None then front piece before taken none = absurd before
all_taken (Some xs) (Some rest) None front piece before taken none = absurd taken
all_taken (Some xs) (Some rest) (Some left) front piece before taken none = ap (λ (x : List ℕ). Some x) none

-- the text ends, and this is answered
pub at_end : {E : Type 0} (keeps : Bool) (known now then : Option (List ℕ)) (audit : AuditedText) (line : List ℕ) (r : Result Entered E) → IsAt keeps known now audit → FetchesPiece [] now line then →
    OnSome now (IsAtEnd then) → ((text : List ℕ) → HasRead text audit → IfOk r (HasEnded audit.keeps (text ++ line))) → IfOk r (EndsText keeps known then)
at_end keeps known now then audit line (Ok entered) was taken none ends = record {
  text = was.front ++ line;
  same = whole_taken known now then was.front taken.piece line was.taken taken.taken none taken.held_is;
  all = all_taken known now then was.front taken.piece was.taken taken.taken none;
  ended = subst (λ (b : Bool). HasEnded b (was.front ++ line) entered) was.same (ends was.front was.read);
}
at_end keeps known now then audit line (Err e) was taken none ends = tt

-- what holds of each text with this end holds of the known one
pub known_text : (known : Option (List ℕ)) (P : List ℕ → Type 0) (text : List ℕ) → IfSome known (λ bytes. bytes ≡ text) → P text → IfSome known P
known_text None P text same here = tt
known_text (Some bytes) P text same here = subst P (sym same) here

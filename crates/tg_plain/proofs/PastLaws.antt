-- The text of a history: where it comes from, its first bytes, where it begins, and what it leaves.
use Rattle.std.proofs.Common.{◌≡◌, ◌∙◌, ℕ, List, [], ◌++◌, drop, Option, Some, None, Result, Ok, Err, IfOk, OnOk, Vec, Global, refl, sym, ap, subst}
use Rattle.std.specs.Prelude.{IfSome}
use Rattle.std.specs.Borrow.{Bor}
use Rattle.std.specs.Fmt.{option_append}
use Rattle.std.specs.Io.KnownBytes.{Consumes}
use Rattle.tg_model.specs.Graph.{ProtectionGraph, IsSound}
use Rattle.tg_model.specs.Opened.{Plan, start_of}
use Rattle.tg_model.specs.Picture.{Shown as ShownPicture, IsPictureOf}
use Rattle.tg_model.proofs.SoundLaws.{IsSound-start_of}
use Rattle.tg_snapshot.specs.Snapshot.{Saved, graph_shown}
use Rattle.tg_snapshot.proofs.GraphLaws.{IsSound-shown}
use Rattle.tg_journal.specs.declared.entry.Entry.{Entry}
use Rattle.tg_journal.specs.History.{IsLegal, graph_after}
use Rattle.tg_past.proofs.ActorLaws.{sound_made}
use Rattle.tg_entries.specs.declared.kept.History.{History}
use Rattle.tg_entries.specs.declared.kept.HistoryStart.{HistoryStart}
use Rattle.tg_entries.specs.declared.kept.HistoryStart.TheVariants as start
use Rattle.tg_entries.specs.Kept.{BeginsAt, IsTextOf}
use Rattle.tg_entries.specs.Pieces.{FetchesPiece}
use Rattle.tg_entries.specs.Texts.{TextStart, Opened, Shown, Joined, IsTextStart, graph_of_origin}
use Rattle.tg_plain.specs.Inner.Past.{AfterLegal}
use Rattle.tg_found.specs.Kept.{kept_text}
use Rattle.tg_keep.specs.Opened.{MayOpen}
use Rattle.tg_plain.specs.Past.{IsGiven, IsLastPicture}

-- ---- where it comes from

if_known : {X : Type 0} (known : Option X) (P : X → Type 0) → ((x : X) → known ≡ Some x → P x) → IfSome known P
if_known None P all = tt
if_known (Some x) P all = all x refl

-- a reader is read where no kept file is named
pub reads_reader : {Reader T E : Type 0} (remaining : Reader → Option (List ℕ)) (reader : Reader) (kept : Option (Bor (List ℕ))) (result : Result T E) (P : List ℕ → T → Type 0) → kept ≡ None →
    ((bytes : List ℕ) → remaining reader ≡ Some bytes → IfOk result (P bytes)) → IfOk result (λ x. (known : Option (List ℕ)) × IsGiven remaining kept known × IfSome known (λ bytes. P bytes x))
reads_reader remaining reader kept (Ok x) P none all =
    (remaining reader, subst (λ k. IsGiven remaining k (remaining reader)) (sym none) (reader, refl), if_known (remaining reader) (λ bytes. P bytes x) all)
reads_reader remaining reader kept (Err e) P none all = tt

-- a kept file is read where it is named
pub reads_file : {Reader T E : Type 0} (remaining : Reader → Option (List ℕ)) (kept : Option (Bor (List ℕ))) (path : Bor (List ℕ)) (result : Result T E) (P : List ℕ → T → Type 0) → kept ≡ Some path →
    IfOk result (λ x. (file : List ℕ) × MayOpen file × P (kept_text file) x) → IfOk result (λ x. (known : Option (List ℕ)) × IsGiven remaining kept known × IfSome known (λ bytes. P bytes x))
reads_file remaining kept path (Ok x) P named read =
    (Some (kept_text read.0), subst (λ k. IsGiven remaining k (Some (kept_text read.0))) (sym named) (read.0, read.1, refl), read.2)
reads_file remaining kept path (Err e) P named read = tt

if_some_step : (known : Option (List ℕ)) (P Q : List ℕ → Type 0) → IfSome known P → ((bytes : List ℕ) → P bytes → Q bytes) → IfSome known Q
if_some_step None P Q holds step = tt
if_some_step (Some bytes) P Q holds step = step bytes holds

-- what is made of what was read is of the same bytes
pub given_step : {Reader T E : Type 0} (remaining : Reader → Option (List ℕ)) (kept : Option (Bor (List ℕ))) (known : Option (List ℕ)) (result : Result T E) (P : List ℕ → Type 0) (Q : List ℕ → T → Type 0) →
    IsGiven remaining kept known → IfSome known P → ((bytes : List ℕ) → P bytes → IfOk result (Q bytes)) → IfOk result (λ x. (known : Option (List ℕ)) × IsGiven remaining kept known × IfSome known (λ bytes. Q bytes x))
given_step remaining kept known (Ok x) P Q given holds step = (known, given, if_some_step known P (λ bytes. Q bytes x) holds step)
given_step remaining kept known (Err e) P Q given holds step = tt

-- a file that may be opened, and what it says
pub of_file : {T E : Type 0} (result : Result T E) (file : List ℕ) (P : List ℕ → T → Type 0) → IfOk result (P (kept_text file)) → OnOk result (MayOpen file) →
    IfOk result (λ x. (file : List ℕ) × MayOpen file × P (kept_text file) x)
of_file (Ok x) file P says opens = (file, opens, says)
of_file (Err e) file P says opens = tt

-- ---- the first bytes

whole_again : (left : Option (List ℕ)) (bytes piece front : List ℕ) → Consumes (Some bytes) left piece → front ≡ piece → option_append (Some front) left ≡ Some bytes
whole_again None bytes piece front taken same = absurd taken
whole_again (Some rest) bytes piece front taken same = ap (λ (x : List ℕ). Some (x ++ rest)) same ∙ ap Some (sym taken)

-- the first bytes of a reader, and then what it has left, are what it had
pub chained : (known left : Option (List ℕ)) (bytes front shown : List ℕ) → FetchesPiece [] known front left → known ≡ Some bytes → shown ≡ front → option_append (Some shown) left ≡ Some bytes
chained known left bytes front shown fetched is same =
    whole_again left bytes fetched.piece shown (subst (λ (k : Option (List ℕ)). Consumes k left fetched.piece) is fetched.taken) (same ∙ fetched.held_is)

-- a buffer that is read from its start has all of its bytes
pub from_start : (inner front : Vec ℕ Global) (position : ℕ) → inner ≡ front → position ≡ 0 → drop position inner.items ≡ front.items
from_start inner front position same zero = ap (λ (n : ℕ). drop n inner.items) zero ∙ ap (λ (v : Vec ℕ Global). v.items) same

-- ---- the graph

-- the graph with which a history begins, and that it is sound
abbrev BeginsOn : TextStart → ProtectionGraph → Type 0
BeginsOn origin g = (g ≡ graph_of_origin origin) × IsSound (graph_of_origin origin)

opened_on : (opening : Plan) (origin : TextStart) → BeginsAt (start.Opened opening) origin → IsTextStart origin → BeginsOn origin (start_of opening)
opened_on opening (Opened plan) is accepted = (ap start_of is, IsSound-start_of plan accepted)
opened_on opening (Shown p) is accepted = absurd is
opened_on opening (Joined p sum) is accepted = absurd is

shown_on : (saved : Saved) (origin : TextStart) → BeginsAt (start.Shown saved) origin → IsTextStart origin → BeginsOn origin (graph_shown saved)
shown_on saved (Opened plan) is accepted = absurd is
shown_on saved (Shown p) is accepted = (ap graph_shown is, IsSound-shown p accepted)
shown_on saved (Joined p sum) is accepted = (ap graph_shown is, IsSound-shown p accepted)

last_on : (history : History) (p : ShownPicture) (g : ProtectionGraph) (bytes : List ℕ) (text : IsTextOf bytes history) → BeginsOn text.origin g →
    AfterLegal g history.entries.items p → IsLastPicture bytes p
last_on history p g bytes text begins after = record {
  origin = text.origin;
  entries = history.entries.items;
  history_is = text.is;
  picture_is = subst (λ (h : ProtectionGraph). AfterLegal h history.entries.items p) begins.0 after begins.1 text.is.legal;
}

pub opened_last : (history : History) (opening : Plan) (p : ShownPicture) → history.start ≡ start.Opened opening →
    AfterLegal (start_of opening) history.entries.items p → (bytes : List ℕ) → IsTextOf bytes history → IsLastPicture bytes p
opened_last history opening p is after bytes text =
    last_on history p (start_of opening) bytes text
    (opened_on opening text.origin (subst (λ (s : HistoryStart). BeginsAt s text.origin) is text.begins) text.is.accepted) after

shown_pictured : (p : Saved) → IsSound (graph_shown p) → IsPictureOf p.picture (graph_shown p)
shown_pictured p sound = record { is_made = sound_made (graph_shown p) sound; subjects = refl; made = refl; limit = refl; labels = λ a b. refl }

-- the picture after entries that follow a snapshot's
pub after_shown : (saved : Saved) (first p : ShownPicture) (es : List Entry) → first ≡ saved.picture →
    ((g : ProtectionGraph) → IsSound g → IsPictureOf first g → IsLegal g es → IsPictureOf p (graph_after g es)) → AfterLegal (graph_shown saved) es p
after_shown saved first p es same after = λ sound legal.
    after (graph_shown saved) sound (subst (λ (q : ShownPicture). IsPictureOf q (graph_shown saved)) (sym same) (shown_pictured saved sound)) legal

pub shown_last : (history : History) (saved : Saved) (p : ShownPicture) → history.start ≡ start.Shown saved →
    AfterLegal (graph_shown saved) history.entries.items p → (bytes : List ℕ) → IsTextOf bytes history → IsLastPicture bytes p
shown_last history saved p is after bytes text =
    last_on history p (graph_shown saved) bytes text
    (shown_on saved text.origin (subst (λ (s : HistoryStart). BeginsAt s text.origin) is text.begins) text.is.accepted) after

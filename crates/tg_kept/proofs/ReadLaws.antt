-- The lines of a file that are read as a history are exactly those of that history.
use Rattle.std.proofs.Common.{◌≡◌, ◌∙◌, ℕ, true, List, [], ◌∷◌, ◌++◌, drop, length, map, get_or, refl, sym, ap, subst, arith, append_assoc}
use Rattle.std.specs.Prelude.{codes, decimal, IfOk, Result, Ok, Err}
use Rattle.std.specs.List.{flat_map}
use Rattle.std.specs.Cmp.Lexicographic.{same_text}
use Rattle.std.proofs.lemmas.List.{append-nil, map-append}
use Rattle.std.proofs.lemmas.List.Concat.{flat_map-append}
use Rattle.tg_model.specs.Opened.{Plan}
use Rattle.tg_snapshot.specs.Snapshot.{Saved}
use Rattle.tg_journal.specs.declared.entry.Entry.{Entry}
use Rattle.tg_entries.specs.declared.kept.History.{History}
use Rattle.tg_entries.specs.declared.kept.HistoryStart.{HistoryStart}
use Rattle.tg_entries.specs.declared.kept.HistoryStart.TheVariants as start
use Rattle.tg_entries.specs.Kept.{BeginsAt, IsTextOf}
use Rattle.tg_entries.specs.Texts.{TextStart, Opened, Shown, Joined, IsCountedText, next_count, next_entry, no_entry, IsHistory, end_text, entry_text, head_text, version_text}
use Rattle.tg_keep.specs.Lines.{file_texts, first_sum, history_of, said_by, text_in, texts_after, whole_lines}
use Rattle.tg_keep.specs.Opened.{has_first_text}
use Rattle.tg_keep.specs.Reads.{ReadsLine}
use Rattle.tg_keep.proofs.Saying.{said_more, said_none}
use Rattle.tg_kept.specs.Reopening.{IsTextOfLines, SaysHistory}
use Rattle.tg_kept.specs.Texts.{edge_line, ended_line, entry_line, kept_lines, limits_line, opening_lines, text_of_lines, worker_line}
use Rattle.tg_kept.proofs.FeedLaws.{AreEntries, HasNoFeed, HaveNoFeed, entries_both, entries_each, entries_feedless, entries_said, feedless_both, feedless_file, same_lines, text_feedless}
use Rattle.tg_kept.proofs.PrintLaws.{printed_both, printed_is_text, printed_number}
use Rattle.tg_kept.proofs.TextLaws.{edge_may_be, entry_ends, entry_may_be, head_lines, limits_may_be, worker_may_be}

-- the first line of a history's text, and its last
abbrev version_line : List ℕ
version_line = codes "kovshenul entries 1"

abbrev pub count_line : ℕ → List ℕ
count_line count = codes "entries " ++ decimal count

pub count_ends : (count : ℕ) → end_text count ≡ ended_line (count_line count)
count_ends count = sym (append_assoc (codes "entries ") (decimal count) (10 ∷ []))

count_feedless : (count : ℕ) → HasNoFeed (count_line count)
count_feedless count = text_feedless (count_line count) (printed_is_text (count_line count) (printed_both (codes "entries ") (decimal count) refl (printed_number count)))

-- a count line says nothing
count_unsaid : (count : ℕ) → said_by (count_line count ∷ []) ≡ []
unfolding said_by
count_unsaid count = refl

-- the lines that say something, beside the last
said_front : (texts : List (List ℕ)) (count : ℕ) → said_by (texts ++ count_line count ∷ []) ≡ said_by texts
said_front texts count = said_more texts (count_line count ∷ []) ∙ ap (λ (l : List (List ℕ)). said_by texts ++ l) (count_unsaid count) ∙ append-nil (said_by texts)

flat_one : (text : List ℕ) → flat_map ended_line (text ∷ []) ≡ ended_line text
flat_one text = append-nil (ended_line text)

-- ---- the lines of entries and count lines

-- The text has these lines, which say the entries alone.
record HasLines (es : List Entry) (text : List ℕ) : Type 0 where
  lines : List (List ℕ)
  whole : text ≡ flat_map ended_line lines
  feedless : HaveNoFeed lines
  said : said_by lines ≡ map entry_line es

one_line_more : (lines : List (List ℕ)) (text more line : List ℕ) → text ≡ flat_map ended_line lines → more ≡ ended_line line → text ++ more ≡ flat_map ended_line (lines ++ line ∷ [])
one_line_more lines text more line whole ends =
    ap (λ (t : List ℕ). t ++ more) whole
    ∙ ap (λ (t : List ℕ). flat_map ended_line lines ++ t) (ends ∙ sym (flat_one line))
    ∙ sym (flat_map-append ended_line lines (line ∷ []))

entry_more : (es : List Entry) (text : List ℕ) (e : Entry) → HasLines es text → HasLines (es ++ e ∷ []) (text ++ entry_text e)
entry_more es text e has = record {
  lines = has.lines ++ entry_line e ∷ [];
  whole = one_line_more has.lines text (entry_text e) (entry_line e) has.whole (entry_ends e);
  feedless = feedless_both has.lines (entry_line e ∷ []) has.feedless (entries_feedless (entry_line e ∷ []) (entry_may_be e, tt));
  said =
      said_more has.lines (entry_line e ∷ [])
      ∙ ap (λ (l : List (List ℕ)). l ++ said_by (entry_line e ∷ [])) has.said
      ∙ ap (λ (l : List (List ℕ)). map entry_line es ++ l) (entries_said (entry_line e ∷ []) (entry_may_be e, tt))
      ∙ sym (map-append entry_line es (e ∷ []));
}

count_more : (es : List Entry) (text : List ℕ) → HasLines es text → HasLines es (text ++ end_text (length es))
count_more es text has = record {
  lines = has.lines ++ count_line (length es) ∷ [];
  whole = one_line_more has.lines text (end_text (length es)) (count_line (length es)) has.whole (count_ends (length es));
  feedless = feedless_both has.lines (count_line (length es) ∷ []) has.feedless (count_feedless (length es), tt);
  said = said_front has.lines (length es) ∙ has.said;
}

lines_counted : (es : List Entry) (text : List ℕ) → IsCountedText es text → HasLines es text
lines_counted es text no_entry = record { lines = []; whole = refl; feedless = tt; said = said_none }
lines_counted es text (next_entry {entries = entries} {text = front} e before) = entry_more entries front e (lines_counted entries front before)
lines_counted es text (next_count {entries = entries} {text = front} before) = count_more entries front (lines_counted entries front before)

-- ---- the lines of a whole text

opening_entries : (p : Plan) → AreEntries (opening_lines p)
opening_entries p =
    entries_both (limits_line p.workers p.limit ∷ map worker_line p.values) (map edge_line p.edges)
    (limits_may_be p.workers p.limit, entries_each worker_line worker_may_be p.values) (entries_each edge_line edge_may_be p.edges)

whole_text : (texts : List (List ℕ)) (count : ℕ) → text_of_lines texts count ≡ flat_map ended_line (version_line ∷ (texts ++ count_line count ∷ []))
whole_text texts count =
    append_assoc version_text (flat_map ended_line texts) (end_text count)
    ∙ ap (λ (t : List ℕ). version_text ++ (flat_map ended_line texts ++ t)) (count_ends count ∙ sym (flat_one (count_line count)))
    ∙ ap (λ (t : List ℕ). version_text ++ t) (sym (flat_map-append ended_line texts (count_line count ∷ [])))

-- two texts with lines that have no line feed are the same, and so are what their lines say
same_said : (a b : List (List ℕ)) (m n : ℕ) → HaveNoFeed a → HaveNoFeed b → text_of_lines a m ≡ text_of_lines b n → said_by a ≡ said_by b
same_said a b m n p q same =
    let first : version_line ∷ (a ++ count_line m ∷ []) ≡ version_line ∷ (b ++ count_line n ∷ []) =
    same_lines (version_line ∷ (a ++ count_line m ∷ [])) (version_line ∷ (b ++ count_line n ∷ []))
    (refl, feedless_both a (count_line m ∷ []) p (count_feedless m, tt)) (refl, feedless_both b (count_line n ∷ []) q (count_feedless n, tt))
    (sym (whole_text a m) ∙ same ∙ whole_text b n) in
    sym (said_front a m) ∙ ap (λ (l : List (List ℕ)). said_by (drop 1 l)) first ∙ said_front b n

-- the text of an opening and of these lines
text_joined : (p : Plan) (lines : List (List ℕ)) (body : List ℕ) (count : ℕ) → body ≡ flat_map ended_line lines → (head_text p ++ body) ++ end_text count ≡ text_of_lines (opening_lines p ++ lines) count
text_joined p lines body count whole =
    let front = flat_map ended_line (opening_lines p) in
    ap (λ (t : List ℕ). t ++ end_text count)
    (ap (λ (t : List ℕ). t ++ body) (head_lines p)
    ∙ append_assoc version_text front body
    ∙ ap (λ (t : List ℕ). version_text ++ (front ++ t)) whole
    ∙ ap (λ (t : List ℕ). version_text ++ t) (sym (flat_map-append ended_line (opening_lines p) lines)))

-- these lines say the opening and the entries
said_of_history : (texts : List (List ℕ)) (count : ℕ) (p : Plan) (es : List Entry) → HaveNoFeed texts → IsHistory (text_of_lines texts count) (Opened p) es → said_by texts ≡ opening_lines p ++ map entry_line es
said_of_history texts count p es none is =
    let has = lines_counted es is.body is.counted in
    let opening = opening_lines p in
    same_said texts (opening ++ has.lines) count (length es) none (feedless_both opening has.lines (entries_feedless opening (opening_entries p)) has.feedless)
    (is.whole ∙ text_joined p has.lines is.body (length es) has.whole)
    ∙ said_more opening has.lines
    ∙ ap (λ (l : List (List ℕ)). l ++ said_by has.lines) (entries_said opening (opening_entries p))
    ∙ ap (λ (l : List (List ℕ)). opening ++ l) has.said

-- ---- the file

-- no text that begins as that of a history is that of a snapshot
other_letter : (texts : List (List ℕ)) (count : ℕ) (p : Saved) (es : List Entry) → IsHistory (text_of_lines texts count) (Shown p) es → ⊥
other_letter texts count p es is = let letter : 101 ≡ 112 = ap (λ (t : List ℕ). get_or t 10 0) is.whole in omega (arith, letter)

other_joint : (texts : List (List ℕ)) (count : ℕ) (p : Saved) (sum : List ℕ) (es : List Entry) → IsHistory (text_of_lines texts count) (Joined p sum) es → ⊥
other_joint texts count p sum es is = let letter : 101 ≡ 112 = ap (λ (t : List ℕ). get_or t 10 0) is.whole in omega (arith, letter)

-- The history has this start.
first_is : (texts : List (List ℕ)) → has_first_text texts ≡ true → texts ≡ codes "kovshenul kept 1" ∷ drop 1 texts
first_is [] is = cc
first_is (text ∷ texts) is = ap (λ (t : List ℕ). t ∷ texts) (same_text text (codes "kovshenul kept 1") (sym is))

feedless_rest : (texts : List (List ℕ)) → HaveNoFeed texts → HaveNoFeed (drop 1 texts)
feedless_rest [] none = tt
feedless_rest (text ∷ texts) none = none.1

first_said : (texts : List (List ℕ)) → said_by (codes "kovshenul kept 1" ∷ texts) ≡ codes "kovshenul kept 1" ∷ said_by texts
unfolding said_by
first_said texts = refl

says_lines : (bytes : List ℕ) (p : Plan) (es : List Entry) → has_first_text (file_texts bytes) ≡ true → said_by (drop 1 (file_texts bytes)) ≡ opening_lines p ++ map entry_line es → history_of bytes ≡ kept_lines p es
says_lines bytes p es first said =
    ap said_by (first_is (file_texts bytes) first)
    ∙ first_said (drop 1 (file_texts bytes))
    ∙ ap (λ (l : List (List ℕ)). codes "kovshenul kept 1" ∷ l) said

says_by : (bytes : List ℕ) (count : ℕ) (history : History) (begun : HistoryStart) (origin : TextStart) → begun ≡ history.start → BeginsAt begun origin
    → IsHistory (text_of_lines (drop 1 (file_texts bytes)) count) origin history.entries.items → SaysHistory bytes history
says_by bytes count history (start.Opened opening) (Opened plan) same begins is = record {
  plan = plan;
  begins = sym same ∙ ap (λ (p : Plan). start.Opened p) begins;
  legal = is.legal;
  says = λ first. says_lines bytes plan history.entries.items first
      (said_of_history (drop 1 (file_texts bytes)) count plan history.entries.items (feedless_rest (file_texts bytes) (feedless_file bytes)) is);
}
says_by bytes count history (start.Opened opening) (Shown p) same begins is = absurd begins
says_by bytes count history (start.Opened opening) (Joined p sum) same begins is = absurd begins
says_by bytes count history (start.Shown snapshot) (Opened plan) same begins is = absurd begins
says_by bytes count history (start.Shown snapshot) (Shown p) same begins is = absurd (other_letter (drop 1 (file_texts bytes)) count p history.entries.items is)
says_by bytes count history (start.Shown snapshot) (Joined p sum) same begins is = absurd (other_joint (drop 1 (file_texts bytes)) count p sum history.entries.items is)

-- a history that was read from the text of a file's lines
pub says_history : (bytes text : List ℕ) (history : History) → IsTextOfLines (drop 1 (file_texts bytes)) text → IsTextOf text history → SaysHistory bytes history
says_history bytes text history lines is =
    let P : List ℕ → Type 0 = λ t. IsHistory t is.origin history.entries.items in
    says_by bytes lines.0 history history.start is.origin refl is.begins (subst P lines.1 is.is)

-- the reader has read the text
pub read_history_says : {E : Type 0} (bytes text : List ℕ) (result : Result History E) → IsTextOfLines (drop 1 (file_texts bytes)) text
    → IfOk result (λ history. IsTextOf text history) → IfOk result (SaysHistory bytes)
read_history_says bytes text (Ok history) lines is = says_history bytes text history lines is
read_history_says bytes text (Err why) lines is = tt

-- ---- how the text is written, line by line

no_more_texts : (sum left : List ℕ) → whole_lines sum left ≡ [] → texts_after sum left ≡ []
unfolding texts_after
no_more_texts sum left none = ap (map text_in) none

-- a line was added
pub line_added : (all text line next sum left after rest : List ℕ) → text ++ flat_map ended_line (texts_after sum left) ≡ all → ReadsLine sum left line after rest → next ≡ (text ++ line) ++ 10 ∷ []
    → next ++ flat_map ended_line (texts_after after rest) ≡ all
line_added all text line next sum left after rest so_far reads is =
    let more = flat_map ended_line (texts_after after rest) in
    ap (λ (t : List ℕ). t ++ more) (is ∙ append_assoc text line (10 ∷ []))
    ∙ append_assoc text (line ++ 10 ∷ []) more
    ∙ ap (λ (l : List (List ℕ)). text ++ flat_map ended_line l) (sym reads.texts)
    ∙ so_far

-- all were added
pub lines_added : (all text sum left : List ℕ) → text ++ flat_map ended_line (texts_after sum left) ≡ all → whole_lines sum left ≡ [] → text ≡ all
lines_added all text sum left so_far none =
    sym (append-nil text) ∙ ap (λ (l : List (List ℕ)). text ++ flat_map ended_line l) (sym (no_more_texts sum left none)) ∙ so_far

-- the first line was passed, or there is none
pub first_passed : (file sum left line after rest : List ℕ) → sum ≡ first_sum → left ≡ file → ReadsLine sum left line after rest → texts_after after rest ≡ drop 1 (file_texts file)
first_passed file sum left line after rest first all reads =
    ap (drop 1) (sym reads.texts ∙ ap (λ s. texts_after s left) first ∙ ap (texts_after first_sum) all)

pub none_passed : (file sum left : List ℕ) → sum ≡ first_sum → left ≡ file → whole_lines sum left ≡ [] → texts_after sum left ≡ drop 1 (file_texts file)
none_passed file sum left first all none =
    let nothing = no_more_texts sum left none in
    nothing ∙ ap (drop 1) (sym nothing ∙ ap (λ s. texts_after s left) first ∙ ap (texts_after first_sum) all)

-- the first line, the lines and the last line
pub text_written : (lines : List (List ℕ)) (count : ℕ) (version front whole : List ℕ) → version ≡ version_text → front ≡ version ++ flat_map ended_line lines → whole ≡ front ++ end_text count → IsTextOfLines lines whole
text_written lines count version front whole first more last =
    (count, last ∙ ap (λ (t : List ℕ). t ++ end_text count) (more ∙ ap (λ (t : List ℕ). t ++ flat_map ended_line lines) first))

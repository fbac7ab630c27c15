-- Texts of entries with count lines, and without them.
use Rattle.std.proofs.Common.{◌∙◌, ℕ, ◌+◌, List, [], ◌∷◌, ◌++◌, ap, length, length-append, refl, sym, subst, append-nil, append_assoc}
use Rattle.std.specs.List.{flat_map}
use Rattle.tg_journal.specs.declared.entry.Entry.{Entry}
use Rattle.tg_snapshot.specs.Snapshot.{Saved}
use Rattle.tg_journal.specs.History.{IsLegal, graph_after}
use Rattle.tg_journal.proofs.HistoryLaws.{IsLegal-append}
use Rattle.tg_entries.specs.Texts.{TextStart, Joined, Shown, IsCountedText, next_count, next_entry, no_entry, IsHistory, end_text, entry_text, graph_of_origin, origin_text, uncounted_text}

-- the lines of more entries, with no count line
counted_on : (front : List Entry) (text : List ℕ) (es : List Entry) → IsCountedText front text → IsCountedText (front ++ es) (text ++ flat_map entry_text es)
counted_on front text [] is =
    subst (λ (t : List ℕ). IsCountedText (front ++ []) t) (sym (append-nil text)) (subst (λ (all : List Entry). IsCountedText all text) (sym (append-nil front)) is)
counted_on front text (e ∷ es) is =
    let more = counted_on (front ++ e ∷ []) (text ++ entry_text e) es (next_entry e is) in
    subst (λ (t : List ℕ). IsCountedText (front ++ e ∷ es) t) (append_assoc text (entry_text e) (flat_map entry_text es))
    (subst (λ (all : List Entry). IsCountedText all ((text ++ entry_text e) ++ flat_map entry_text es)) (append_assoc front (e ∷ []) es) more)

-- the history without its count lines but the last
pub history_plain : (text : List ℕ) (origin : TextStart) (es : List Entry) → IsHistory text origin es → IsHistory (uncounted_text origin es) origin es
history_plain text origin es was = record {
  body = flat_map entry_text es;
  accepted = was.accepted;
  legal = was.legal;
  counted = counted_on [] [] es no_entry;
  whole = refl;
}

-- the history without them and without the sum of the part before
pub history_unjoined : (text : List ℕ) (p : Saved) (sum : List ℕ) (es : List Entry) → IsHistory text (Joined p sum) es → IsHistory (uncounted_text (Shown p) es) (Shown p) es
history_unjoined text p sum es was = record {
  body = flat_map entry_text es;
  accepted = was.accepted;
  legal = was.legal;
  counted = counted_on [] [] es no_entry;
  whole = refl;
}

-- more entries, and their new number
pub history_goes_on : (text : List ℕ) (origin : TextStart) (es more : List Entry) → IsHistory text origin es → IsLegal (graph_after (graph_of_origin origin) es) more →
    IsHistory (text ++ (flat_map entry_text more ++ end_text (length es + length more))) origin (es ++ more)
history_goes_on text origin es more was legal =
    let head = origin_text origin in
    let counted = was.body ++ end_text (length es) in
    let lines = flat_map entry_text more in
    let end = end_text (length es + length more) in
    record {
      body = counted ++ lines;
      accepted = was.accepted;
      legal = IsLegal-append (graph_of_origin origin) es more was.legal legal;
      counted = counted_on es counted more (next_count was.counted);
      whole =
          sym (append_assoc text lines end)
          ∙ ap (λ (x : List ℕ). (x ++ lines) ++ end) (was.whole ∙ append_assoc head was.body (end_text (length es)))
          ∙ ap (λ (x : List ℕ). x ++ end) (append_assoc head counted lines)
          ∙ ap (λ (n : ℕ). (head ++ (counted ++ lines)) ++ end_text n) (sym (length-append es more));
    }

-- What is reported of lines, by replies or by entries.
use Rattle.std.proofs.Common.{◌≡◌, inl, inr, ℕ, ◌+◌, List, [], ◌∷◌, ◌++◌, refl, sym, ap, ◌∙◌, subst, append_assoc, append-nil}
use Rattle.std.specs.List.{flat_map}
use Rattle.std.proofs.lemmas.List.Concat.{flat_map-append}
use Rattle.tg_journal.specs.declared.entry.Entry.{Entry}
use Rattle.tg_text.specs.declared.line.Line.{Line}
use Rattle.tg_text.specs.declared.answer.Answer.{Answer}
use Rattle.tg_text.specs.Texts.{answer_text}
use Rattle.tg_entries.specs.Texts.{entry_text}
use Rattle.tg_script.specs.Entering.{AreEntered, entered}
use Rattle.tg_script.specs.Script.{Scene, Serves, IsAdmissible, IsCut}
use Rattle.tg_script.specs.Inner.Telling.{TellsLines, TellsCut, entry_of_line, reply_of_line}

-- ---- replies

admissible_then : (s t : Scene) (l : Line) (a : Answer) (lines : List Line) (wants : ℕ) (text rest : List ℕ) → Serves s l a t → text ≡ answer_text a ++ rest → IsAdmissible t lines wants rest → (more : ℕ) × IsAdmissible s (l ∷ lines) more text
admissible_then s t l a lines wants text rest (inl answers) is told = (wants, inl (a, t, rest, answers, is, told))
admissible_then s t l a lines wants text rest (inr refused) is told =
    let P : Scene → Type 0 = λ x. IsAdmissible x lines wants rest in
    (wants + 1, inr (refused.0, wants, rest, refused.1, refl, is ∙ ap (λ x. answer_text x ++ rest) refused.2, subst P refused.3 told))

pub replies_admissible : (lines : List Line) (s : Scene) (text : List ℕ) (es : List Entry) → TellsLines reply_of_line s lines text es → (wants : ℕ) × IsAdmissible s lines wants text
replies_admissible [] s text es h = (0, (refl, h.0))
replies_admissible (l ∷ lines) s text es h =
    let k = replies_admissible lines h.1 h.2 h.3 h.7 in
    admissible_then s h.1 l h.0 lines k.0 text h.2 h.4 h.5 k.1

pub replies_cut : (lines : List Line) (s : Scene) (front : List ℕ) (es : List Entry) → TellsCut reply_of_line s lines front es → IsCut s lines front
replies_cut [] s front es h = h
replies_cut (l ∷ []) s front es h = (h.0, h.1, h.2, h.3, h.4)
replies_cut (l ∷ m ∷ lines) s front es h = (h.0, h.1, h.2, h.4, h.5, replies_cut (m ∷ lines) h.1 h.2 h.3 h.7)

-- ---- entries

pub entries_told : (lines : List Line) (s : Scene) (text : List ℕ) (es : List Entry) → TellsLines entry_of_line s lines text es → AreEntered s lines es × (text ≡ flat_map entry_text es)
entries_told [] s text es h = (h.1, h.0 ∙ ap (flat_map entry_text) (sym h.1))
entries_told (l ∷ lines) s text es h =
    let k = entries_told lines h.1 h.2 h.3 h.7 in
    let made = entered l h.0 s.stock in (
      (h.0, h.1, h.3, h.4, h.6, k.0),
      h.5 ∙ ap (λ x. flat_map entry_text made ++ x) k.1 ∙ sym (flat_map-append entry_text made h.3) ∙ ap (flat_map entry_text) (sym h.6),
    )

pub entries_cut : (lines : List Line) (s : Scene) (front : List ℕ) (es : List Entry) → TellsCut entry_of_line s lines front es → AreEntered s lines es × (rest : List ℕ) × (flat_map entry_text es ≡ front ++ rest)
entries_cut [] s front es h = absurd h
entries_cut (l ∷ []) s front es h =
    ((h.0, h.1, [], h.3, h.5 ∙ sym (append-nil (entered l h.0 s.stock)), refl), h.2, ap (flat_map entry_text) h.5 ∙ h.4)
entries_cut (l ∷ m ∷ lines) s front es h =
    let k = entries_cut (m ∷ lines) h.1 h.2 h.3 h.7 in
    let made = entered l h.0 s.stock in (
      (h.0, h.1, h.3, h.4, h.6, k.0),
      k.1,
      ap (flat_map entry_text) h.6 ∙ flat_map-append entry_text made h.3 ∙ ap (λ x. flat_map entry_text made ++ x) k.2
          ∙ sym (append_assoc (flat_map entry_text made) h.2 k.1) ∙ ap (λ x. x ++ k.1) (sym h.5),
    )

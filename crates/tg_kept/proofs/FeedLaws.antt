-- Texts without a line feed, and how lines are told apart by their line feeds.
use Rattle.std.proofs.Common.{◌≡◌, ◌∙◌, inl, inr, ℕ, zero, suc, ◌==◌, Bool, true, false, not, ◌||◌, List, [], ◌∷◌, ◌++◌, map, take, refl, sym, ap, subst, append_assoc}
use Rattle.std.specs.List.{flat_map, list_any}
use Rattle.std.proofs.lemmas.Bool.{and_parts, cases_Bool, cases_eq, ne_eqb, or_parts}
use Rattle.std.proofs.lemmas.List.{append-nil}
use Rattle.std.proofs.lemmas.List.Folds.{list_any-append}
use Rattle.tg_keep.specs.Lines.{file_texts, has_zero, is_entry, is_mark, is_text, is_whole, first_sum, lines_from, raw_lines, said_by, sum_in, text_in, texts_after, whole_from, whole_lines}
use Rattle.tg_keep.proofs.Reading.{lines_from_end, lines_from_feed, lines_from_other, whole_from_end, whole_from_other, whole_from_whole}
use Rattle.tg_keep.proofs.Saying.{ArePlain, plain_said}
use Rattle.tg_kept.specs.Texts.{ended_line}

-- no byte of the text is a line feed
abbrev pub HasNoFeed : List ℕ → Type 0
HasNoFeed text = list_any (λ byte. byte == 10) text ≡ false

abbrev pub HaveNoFeed : List (List ℕ) → Type 0
HaveNoFeed [] = Unit {0}
HaveNoFeed (text ∷ texts) = HasNoFeed text × HaveNoFeed texts

pub feedless_both : (a b : List (List ℕ)) → HaveNoFeed a → HaveNoFeed b → HaveNoFeed (a ++ b)
feedless_both [] b p q = q
feedless_both (text ∷ a) b p q = (p.0, feedless_both a b p.1 q)

-- ---- the lines of a file have none

feedless_take : (n : ℕ) (line : List ℕ) → HasNoFeed line → HasNoFeed (take n line)
feedless_take zero line none = refl
feedless_take (suc n) [] none = refl
feedless_take (suc n) (byte ∷ line) none =
    let parts = or_parts (byte == 10) (list_any (λ b. b == 10) line) none in
    ap (λ c. c || list_any (λ b. b == 10) (take n line)) parts.0 ∙ feedless_take n line parts.1

feedless_push : (line : List ℕ) (byte : ℕ) → HasNoFeed line → (byte ≡ 10 → ⊥) → HasNoFeed (line ++ byte ∷ [])
feedless_push line byte none other =
    list_any-append (λ b. b == 10) line (byte ∷ [])
    ∙ ap (λ c. c || list_any (λ b. b == 10) (byte ∷ [])) none
    ∙ ap (λ c. c || false) (ne_eqb byte 10 other)

feedless_from : (line bytes : List ℕ) → HasNoFeed line → HaveNoFeed (lines_from line bytes)
feedless_from line [] none = subst HaveNoFeed (sym (lines_from_end line)) tt
feedless_from line (byte ∷ bytes) none = elim (cases_eq byte 10) [
  | inl feed ↦ subst HaveNoFeed (sym (lines_from_feed line byte bytes feed)) (none, feedless_from [] bytes refl)
  | inr other ↦ subst HaveNoFeed (sym (lines_from_other line byte bytes other)) (feedless_from (line ++ byte ∷ []) bytes (feedless_push line byte none other))
]

feedless_whole : (before : List ℕ) (lines : List (List ℕ)) → HaveNoFeed lines → HaveNoFeed (whole_from before lines)
feedless_whole before [] none = subst HaveNoFeed (sym (whole_from_end before)) tt
feedless_whole before (line ∷ lines) none = elim (cases_Bool (is_whole before line)) [
  | inl whole ↦ subst HaveNoFeed (sym (whole_from_whole before line lines whole)) (none.0, feedless_whole (sum_in line) lines none.1)
  | inr other ↦ subst HaveNoFeed (sym (whole_from_other before line lines other)) tt
]

feedless_text : (line : List ℕ) → HasNoFeed line → HasNoFeed (text_in line)
unfolding text_in
feedless_text line none = feedless_take _ line none

feedless_texts : (lines : List (List ℕ)) → HaveNoFeed lines → HaveNoFeed (map text_in lines)
feedless_texts [] none = tt
feedless_texts (line ∷ lines) none = (feedless_text line none.0, feedless_texts lines none.1)

pub feedless_file : (bytes : List ℕ) → HaveNoFeed (file_texts bytes)
unfolding texts_after
feedless_file bytes = feedless_texts (whole_lines first_sum bytes) (feedless_whole first_sum (raw_lines bytes) (feedless_from [] bytes refl))

-- ---- they are told apart by their line feeds

feed_ends : (front line rest : List ℕ) → HasNoFeed line → lines_from front (line ++ 10 ∷ rest) ≡ (front ++ line) ∷ raw_lines rest
feed_ends front [] rest none = lines_from_feed front 10 rest refl ∙ ap (λ l. l ∷ raw_lines rest) (sym (append-nil front))
feed_ends front (byte ∷ line) rest none =
    let parts = or_parts (byte == 10) (list_any (λ b. b == 10) line) none in
    lines_from_other front byte (line ++ 10 ∷ rest) (λ e. feed_is byte e parts.0)
    ∙ feed_ends (front ++ byte ∷ []) line rest parts.1
    ∙ ap (λ l. l ∷ raw_lines rest) (append_assoc front (byte ∷ []) line)
  where
    feed_is : (b : ℕ) → b ≡ 10 → (b == 10) ≡ false → ⊥
    feed_is b e is = let true_is : true ≡ false = sym (ap (λ n. n == 10) e) ∙ is in cc

raw_ended : (texts : List (List ℕ)) → HaveNoFeed texts → raw_lines (flat_map ended_line texts) ≡ texts
raw_ended [] none = lines_from_end []
raw_ended (text ∷ texts) none =
    let rest = flat_map ended_line texts in
    ap raw_lines (append_assoc text (10 ∷ []) rest)
    ∙ feed_ends [] text rest none.0
    ∙ ap (λ (l : List (List ℕ)). text ∷ l) (raw_ended texts none.1)

pub same_lines : (a b : List (List ℕ)) → HaveNoFeed a → HaveNoFeed b → flat_map ended_line a ≡ flat_map ended_line b → a ≡ b
same_lines a b p q same = sym (raw_ended a p) ∙ ap raw_lines same ∙ raw_ended b q

-- ---- texts that say something

not_true : (b : Bool) → not b ≡ true → b ≡ false
not_true true is = cc
not_true false is = refl

-- a text that a line may have has no line feed
pub text_feedless : (text : List ℕ) → is_text text ≡ true → HasNoFeed text
text_feedless text is =
    let parts = and_parts (not (has_zero text)) (not (list_any (λ byte. byte == 10) text)) is in
    not_true (list_any (λ byte. byte == 10) text) parts.1

-- each of the texts says something
abbrev pub AreEntries : List (List ℕ) → Type 0
AreEntries [] = Unit {0}
AreEntries (text ∷ texts) = (is_entry text ≡ true) × AreEntries texts

pub entries_both : (a b : List (List ℕ)) → AreEntries a → AreEntries b → AreEntries (a ++ b)
entries_both [] b p q = q
entries_both (text ∷ a) b p q = (p.0, entries_both a b p.1 q)

pub entries_each : {X : Type 0} (line : X → List ℕ) → ((x : X) → is_entry (line x) ≡ true) → (xs : List X) → AreEntries (map line xs)
entries_each line each [] = tt
entries_each line each (x ∷ xs) = (each x, entries_each line each xs)

pub entries_feedless : (texts : List (List ℕ)) → AreEntries texts → HaveNoFeed texts
entries_feedless [] are = tt
entries_feedless (text ∷ texts) are =
    (text_feedless text (and_parts (is_text text) (not (is_mark text)) are.0).0, entries_feedless texts are.1)

entries_plain : (texts : List (List ℕ)) → AreEntries texts → ArePlain texts
entries_plain [] are = refl
entries_plain (text ∷ texts) are =
    let none = not_true (is_mark text) (and_parts (is_text text) (not (is_mark text)) are.0).1 in
    ap (λ b. b || list_any (λ t. is_mark t) texts) none ∙ entries_plain texts are.1

pub entries_said : (texts : List (List ℕ)) → AreEntries texts → said_by texts ≡ texts
entries_said texts are = plain_said texts (entries_plain texts are)

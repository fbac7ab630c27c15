-- What texts say, without the marks among them.
use Rattle.std.proofs.Common.{◌≡◌, ℕ, zero, suc, Bool, true, false, not, ◌||◌, cond, List, [], ◌∷◌, ◌++◌, take, refl, ◌∙◌, ap, subst}
use Rattle.std.specs.List.{filter, list_any}
use Rattle.std.proofs.lemmas.List.{append-nil}
use Rattle.std.proofs.lemmas.List.Elements.{filter-append}
use Rattle.std.proofs.lemmas.List.Folds.{list_any-append}
use Rattle.std.proofs.lemmas.List.Sums.{fold-append}
use Rattle.tg_keep.specs.Closed.{last_text}
use Rattle.tg_keep.specs.Fronts.{AddsFront}
use Rattle.tg_keep.specs.Lines.{is_mark, said_by, texts_after}
use Rattle.tg_keep.proofs.Reading.{no_texts}

or_parts : (a b : Bool) → (a || b) ≡ false → (a ≡ false) × (b ≡ false)
or_parts true b is = cc
or_parts false b is = (refl, is)

-- none of the texts is a mark
abbrev pub ArePlain : List (List ℕ) → Type 0
ArePlain texts = list_any (λ text. is_mark text) texts ≡ false

pub no_marks : (before : List ℕ) → ArePlain (texts_after before [])
no_marks before = ap (list_any (λ text. is_mark text)) (no_texts before)

pub one_more_plain : (texts : List (List ℕ)) (text : List ℕ) → ArePlain texts → is_mark text ≡ false → ArePlain (texts ++ text ∷ [])
one_more_plain texts text plain none =
    list_any-append (λ t. is_mark t) texts (text ∷ [])
    ∙ ap (λ b. b || list_any (λ t. is_mark t) (text ∷ [])) plain
    ∙ ap (λ b. b || false) none

pub said_more : (a b : List (List ℕ)) → said_by (a ++ b) ≡ said_by a ++ said_by b
unfolding said_by
said_more a b = filter-append (λ text. not (is_mark text)) a b

pub said_none : said_by [] ≡ []
unfolding said_by
said_none = refl

said_step : (text : List ℕ) (texts : List (List ℕ)) → is_mark text ≡ false → said_by (text ∷ texts) ≡ text ∷ said_by texts
unfolding said_by
said_step text texts none = ap (λ b. cond (not b) (text ∷ filter (λ t. not (is_mark t)) texts) (filter (λ t. not (is_mark t)) texts)) none

said_mark : (text : List ℕ) (texts : List (List ℕ)) → is_mark text ≡ true → said_by (text ∷ texts) ≡ said_by texts
unfolding said_by
said_mark text texts is = ap (λ b. cond (not b) (text ∷ filter (λ t. not (is_mark t)) texts) (filter (λ t. not (is_mark t)) texts)) is

pub plain_said : (texts : List (List ℕ)) → ArePlain texts → said_by texts ≡ texts
plain_said [] plain = said_none
plain_said (text ∷ texts) plain =
    let parts = or_parts (is_mark text) (list_any (λ t. is_mark t) texts) plain in
    said_step text texts parts.0 ∙ ap (λ (l : List (List ℕ)). text ∷ l) (plain_said texts parts.1)

plain_front : (n : ℕ) (texts : List (List ℕ)) → ArePlain texts → ArePlain (take n texts)
plain_front zero texts plain = refl
plain_front (suc n) [] plain = refl
plain_front (suc n) (text ∷ texts) plain =
    let parts = or_parts (is_mark text) (list_any (λ t. is_mark t) texts) plain in
    ap (λ b. b || list_any (λ t. is_mark t) (take n texts)) parts.0 ∙ plain_front n texts parts.1

-- lines that say something were added, and what was said is more by their texts, or by a front of them
pub says_plain : (before added after : List (List ℕ)) → ArePlain added → after ≡ before ++ added → said_by after ≡ said_by before ++ added
says_plain before added after plain is = ap said_by is ∙ said_more before added ∙ ap (λ (l : List (List ℕ)). said_by before ++ l) (plain_said added plain)

pub says_front : (before added after : List (List ℕ)) → ArePlain added → AddsFront before added after → AddsFront (said_by before) added (said_by after)
says_front before added after plain front = (front.0, front.1, says_plain before (take front.0 added) after (plain_front front.0 added plain) front.2)

-- the same where what was there before says the same as something else
pub says_plain_of : (old before added texts after : List (List ℕ)) → said_by before ≡ said_by old → added ≡ texts → ArePlain texts → after ≡ before ++ added → said_by after ≡ said_by old ++ texts
says_plain_of old before added texts after same is plain more =
    says_plain before texts after plain (more ∙ ap (λ (l : List (List ℕ)). before ++ l) is) ∙ ap (λ (l : List (List ℕ)). l ++ texts) same

pub says_front_of : (old before added texts after : List (List ℕ)) → said_by before ≡ said_by old → added ≡ texts → ArePlain texts → AddsFront before added after → AddsFront (said_by old) texts (said_by after)
says_front_of old before added texts after same is plain front =
    let P : List (List ℕ) → Type 0 = λ l. AddsFront before l after in
    let Q : List (List ℕ) → Type 0 = λ l. AddsFront l texts (said_by after) in
    subst Q same (says_front before texts after plain (subst P is front))

-- a mark says nothing, nor does a front of it
says_no_more : (before after marks : List (List ℕ)) → said_by marks ≡ [] → after ≡ before ++ marks → said_by after ≡ said_by before
says_no_more before after marks none is =
    ap said_by is ∙ said_more before marks ∙ ap (λ (l : List (List ℕ)). said_by before ++ l) none ∙ append-nil (said_by before)

pub says_mark : (before after : List (List ℕ)) (mark : List ℕ) → is_mark mark ≡ true → after ≡ before ++ mark ∷ [] → said_by after ≡ said_by before
says_mark before after mark is more = says_no_more before after (mark ∷ []) (said_mark mark [] is ∙ said_none) more

pub says_mark_front : (before after : List (List ℕ)) (mark : List ℕ) → is_mark mark ≡ true → AddsFront before (mark ∷ []) after → said_by after ≡ said_by before
says_mark_front before after mark is front = says_no_more before after (take front.0 (mark ∷ [])) (front_none front.0) front.2
  where
    take_none : (n : ℕ) → ◌≡◌ {A = List (List ℕ)} (take n []) []
    take_none zero = refl
    take_none (suc n) = refl

    front_none : (n : ℕ) → said_by (take n (mark ∷ [])) ≡ []
    front_none zero = said_none
    front_none (suc n) = ap (λ (l : List (List ℕ)). said_by (mark ∷ l)) (take_none n) ∙ said_mark mark [] is ∙ said_none

pub last_is : (before after : List (List ℕ)) (mark : List ℕ) → after ≡ before ++ mark ∷ [] → last_text after ≡ mark
last_is before after mark more = ap last_text more ∙ fold-append (λ last text. text) [] before (mark ∷ [])

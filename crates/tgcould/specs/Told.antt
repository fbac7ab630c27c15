-- The report on a question.
use Rattle.std.specs.Prelude.{◌≡◌, ◌⊎◌, ℕ, true, false, ◌≤◌, List, length}
use Rattle.std.specs.List.{Contains}
use Rattle.tg_rights.specs.RightSet.{RightSet, has, is_none_held}
use Rattle.tg_rights.specs.declared.Right.{Right}
use Rattle.tg_model.specs.Graph.{ProtectionGraph}
use Rattle.tg_model.specs.Picture.{Shown, IsPictureOf}
use Rattle.tg_could.specs.declared.answer.Answer.{Answer}
use Rattle.tg_could.specs.Answered.{IsAnswer}
use Rattle.tg_could.specs.Turns.{NeverHolds}
use Rattle.tg_plain.specs.declared.text.PlainText.{PlainText}
use Rattle.tg_plain.specs.Grown.{Appends}
use Rattle.tgcould.specs.declared.query.Query.{Query}
use Rattle.tgcould.specs.declared.query.Query.TheVariants.{Hold, Who, What}
use Rattle.tgcould.specs.declared.query.VertexWord.{VertexWord}
use Rattle.tgcould.specs.declared.query.VertexWord.TheVariants.{Named, New}
use Rattle.tgcould.specs.declared.stars.Holders.{Holders}
use Rattle.tgcould.specs.declared.stars.HeldRights.{HeldRights}
use Rattle.tgcould.specs.Texts.{chance_text}

-- The name of a vertex of a question. The name of the next vertex is the number of vertices that were made.
abbrev pub named_in : Shown → VertexWord → ℕ
named_in p (Named name) = name
named_in p New = p.made

-- this is an answer for each graph that has this picture
abbrev pub AnswersShown : Shown → List ℕ → ℕ → Right → ℕ → Answer → Type 0
AnswersShown p silent x right y answer = (g : ProtectionGraph) → IsPictureOf p g → IsAnswer silent g x right y answer

-- if memory didn't run out, the text of an answer to the question was added
abbrev pub TellsHold : Shown → List ℕ → ℕ → Right → ℕ → PlainText → PlainText → Type 0
TellsHold p silent x right y old new =
    new.is_short ≡ false → (answer : Answer) × AnswersShown p silent x right y answer × Appends old (chance_text answer) new

-- x never holds the right over y on any graph that has this picture
abbrev pub IsNever : Shown → List ℕ → ℕ → Right → ℕ → Type 0
IsNever p silent x right y = (g : ProtectionGraph) → IsPictureOf p g → NeverHolds silent g x right y

-- the answer says that a right never comes about, whatever the vertices and the right of the question are
abbrev pub SaysNever : Answer → Type 0
SaysNever answer =
    (p : Shown) (silent : List ℕ) (x : ℕ) (right : Right) (y : ℕ) → AnswersShown p silent x right y answer → IsNever p silent x right y

-- ---- questions with a star

-- X is listed by its name. Or it isn't made yet, and the vertices that aren't made yet are listed.
abbrev pub IsShownHolder : Shown → Holders → ℕ → Type 0
IsShownHolder p holders x = Contains holders.names.items x ⊎ ((holders.later ≡ true) × (p.made ≤ x))

-- Whoever isn't listed never holds the right over y. This holds of all names that were made, and of all names that may still be
-- made.
abbrev pub ListsWho : Shown → List ℕ → Right → ℕ → Holders → Type 0
ListsWho p silent right y holders = (x : ℕ) → ¬ IsShownHolder p holders x → IsNever p silent x right y

-- the right over y is in a list of vertices and rights
pub record IsHeldOverBy (over : List (ℕ × RightSet)) (right : Right) (y : ℕ) : Type 0 where
  pub rights : RightSet
  pub there : Contains over (y, rights)
  pub is : has rights right ≡ true

-- The right over y is listed with the name of y. Or y isn't made yet, and the right over the vertices that aren't made yet is
-- listed.
abbrev pub IsHeldBy : Shown → HeldRights → Right → ℕ → Type 0
IsHeldBy p held right y = IsHeldOverBy held.over.items right y ⊎ ((has held.later right ≡ true) × (p.made ≤ y))

-- X never holds a right that isn't listed. This holds of rights over all names that were made, and over all names that may still be
-- made.
abbrev pub ListsWhat : Shown → List ℕ → ℕ → HeldRights → Type 0
ListsWhat p silent x held = (right : Right) (y : ℕ) → ¬ IsHeldBy p held right y → IsNever p silent x right y

-- nobody is listed, and nothing
abbrev pub IsNobody : Holders → Type 0
IsNobody holders = (length holders.names.items ≡ 0) × (holders.later ≡ false)

abbrev pub IsNothing : HeldRights → Type 0
IsNothing held = (length held.over.items ≡ 0) × (is_none_held held.later ≡ true)

-- ---- what never comes about

-- The right that the question asks about never comes about. A question with a star is about all names, made or not.
abbrev pub NeverComes : Shown → List ℕ → Query → Type 0
NeverComes p silent (Hold x right y) = IsNever p silent (named_in p x) right (named_in p y)
NeverComes p silent (Who right y) = (x : ℕ) → IsNever p silent x right (named_in p y)
NeverComes p silent (What x) = (right : Right) (y : ℕ) → IsNever p silent (named_in p x) right y

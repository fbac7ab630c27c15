-- The parts of a policy. They are the texts of the command line, the questions that the texts write, and the exit status.
use Rattle.std.specs.Prelude.{◌≡◌, ℕ, Bool, IsTrue, not, ◌&&◌, if◌then◌else◌, List, [], ◌∷◌, ◌++◌, codes, Option, Some, None}
use Rattle.std.specs.Str.Parse.{without_leading_plus, digits_value, IsNumeral}
use Rattle.clap.specs.Matches.{found_of, matched_of, raw_values}
use Rattle.clap.specs.declared.parser.matches.ArgMatches.{ArgMatches}
use Rattle.clap.specs.declared.parser.matches.MatchedArg.{MatchedArg}
use Rattle.tg_rights.specs.RightSet.{letter_of}
use Rattle.tg_model.specs.Picture.{Shown}
use Rattle.tgcould.specs.declared.query.Query.{Query}
use Rattle.tgcould.specs.declared.query.Query.TheVariants.{Hold, Who, What}
use Rattle.tgcould.specs.declared.query.VertexWord.{VertexWord}
use Rattle.tgcould.specs.declared.query.VertexWord.TheVariants.{Named, New}
use Rattle.tgcould.specs.Told.{NeverComes}

-- ---- the command line

-- the values of an option, or none if it isn't there
abbrev pub values_of : Option MatchedArg → List (List ℕ)
values_of None = []
values_of (Some matched) = raw_values matched

-- all values that are given to the option of this name, in order
abbrev pub texts_of : ArgMatches → List ℕ → List (List ℕ)
texts_of matches option = values_of (matched_of (found_of matches) option)

-- the text writes the number in decimal digits
abbrev pub WritesWord : List ℕ → ℕ → Type 0
WritesWord text n = IsNumeral 10 (without_leading_plus text) × (n ≡ digits_value 10 (without_leading_plus text))

-- ---- questions

-- the word is a vertex of a question
abbrev pub IsVertex : List ℕ → VertexWord → Type 0
IsVertex word (Named n) = WritesWord word n
IsVertex word New = word ≡ codes "new"

-- the three words are the question
abbrev pub AreWords : List ℕ → List ℕ → List ℕ → Query → Type 0
AreWords holder right over (Hold x r y) = IsVertex holder x × (right ≡ letter_of r ∷ []) × IsVertex over y
AreWords holder right over (Who r y) = (holder ≡ codes "*") × (right ≡ letter_of r ∷ []) × IsVertex over y
AreWords holder right over (What x) = IsVertex holder x × (right ≡ codes "*") × (over ≡ codes "*")

-- after the holder and a space the text has the two other words of the question, with a space between them
pub record IsBehind (holder rest : List ℕ) (question : Query) : Type 0 where
  pub right : List ℕ
  pub over : List ℕ
  pub split : rest ≡ right ++ 32 ∷ over
  pub words : AreWords holder right over question

-- the text writes the question, as three words with a space between two
pub record IsQuestion (text : List ℕ) (question : Query) : Type 0 where
  pub holder : List ℕ
  pub rest : List ℕ
  pub split : text ≡ holder ++ 32 ∷ rest
  pub behind : IsBehind holder rest question

-- ---- policies

-- the text is a question, and the right that it asks about never comes about
pub record IsKeptPolicy (p : Shown) (silent : List ℕ) (text : List ℕ) : Type 0 where
  pub question : Query
  pub is : IsQuestion text question
  pub never : NeverComes p silent question

-- The meaning of answers for the exit status. If the status is 0 after them, it was 0 before, and a right that must never come
-- about never does.
pub record MeetsPolicy (old new : ℕ) (must_never : Bool) (never : Type 0) : Type 0 where
  pub before : new ≡ 0 → old ≡ 0
  pub kept : new ≡ 0 → IsTrue must_never → never

-- The exit status after an answer. It is 1 if something must never come about and the answer isn't `never`.
abbrev pub status_after : ℕ → Bool → Bool → ℕ
status_after status must_never is_never = if (must_never && not is_never) then 1 else status

-- The meaning of the exit status.
use Rattle.std.specs.Prelude.{◌≡◌, ◌≢◌, ◌↔◌, ℕ, List, [], codes, Option, Some, IfSome, option_map}
use Rattle.std.specs.List.{All}
use Rattle.clap.specs.Matches.{first_value, found_of}
use Rattle.clap.specs.declared.parser.matches.ArgMatches.{ArgMatches}
use Rattle.tg_rights.specs.declared.Right.{Right}
use Rattle.tg_model.specs.Graph.{ProtectionGraph}
use Rattle.tg_model.specs.Picture.{Shown, IsPictureOf}
use Rattle.tg_could.specs.Turns.{NeverHolds}
use Rattle.tg_plain.specs.declared.options.PlainOptions.{PlainOptions}
use Rattle.tg_plain.specs.declared.outcome.Outcome.{Outcome}
use Rattle.tg_plain.specs.declared.refused.RefusedLine.{RefusedLine}
use Rattle.tg_plain.specs.Past.{IsGiven, IsLeftBy}
use Rattle.tgcould.specs.declared.options.TheConstants.{ALLOW_DENIED, NEVER}
use Rattle.tgcould.specs.declared.query.Query.{Query}
use Rattle.tgcould.specs.declared.query.Query.TheVariants.{Hold, Who, What}
use Rattle.tgcould.specs.declared.query.VertexWord.{VertexWord}
use Rattle.tgcould.specs.declared.query.VertexWord.TheVariants.{Named, New}
use Rattle.tgcould.specs.declared.supposed.Supposed.{Supposed}
use Rattle.tgcould.specs.Policies.{IsQuestion, texts_of}
use Rattle.tgcould.specs.Supposed.{IsSupposed}
use Rattle.tg_could.specs.Reached.{with_edges}

-- The name of a vertex of a question. The name of the next vertex is the number of vertices that were made.
abbrev pub named_on : ProtectionGraph → VertexWord → ℕ
named_on g (Named name) = name
named_on g New = g.made

-- The right that the question asks about never comes about on this graph. A question with a star is about all names, made or not.
abbrev pub NeverComesOn : ProtectionGraph → List ℕ → Query → Type 0
NeverComesOn g silent (Hold x right y) = NeverHolds silent g (named_on g x) right (named_on g y)
NeverComesOn g silent (Who right y) = (x : ℕ) → NeverHolds silent g x right (named_on g y)
NeverComesOn g silent (What x) = (right : Right) (y : ℕ) → NeverHolds silent g (named_on g x) right y

-- the text is a question, and the right that it asks about never comes about on this graph
pub record IsKeptOn (g : ProtectionGraph) (silent : List ℕ) (text : List ℕ) : Type 0 where
  pub question : Query
  pub is : IsQuestion text question
  pub never : NeverComesOn g silent question

-- all policies are kept on each graph that has this picture, with the supposed edges, against all subjects that aren't silent
abbrev pub AreKept : ArgMatches → Supposed → Shown → Type 0
AreKept matches supposed p =
    (g : ProtectionGraph) → IsPictureOf p g → All (IsKeptOn (with_edges g supposed.edges.items) supposed.silent.items) (texts_of matches NEVER.now)

-- ---- lines that were denied or refused

-- something must never come about
abbrev pub HasPolicy : ArgMatches → Type 0
HasPolicy matches = texts_of matches NEVER.now ≢ []

-- policies may pass though lines of the script were denied or refused
abbrev pub AllowsDenied : ArgMatches → Type 0
AllowsDenied matches = first_value (found_of matches) ALLOW_DENIED.now ≡ Some (codes "true")

-- there is a policy, no line may be denied, and these were denied or refused
abbrev pub FailsPolicies : ArgMatches → List RefusedLine → Type 0
FailsPolicies matches refused = HasPolicy matches × (¬ AllowsDenied matches) × (refused ≢ [])

-- ---- the exit status

-- the text of the stock is the text of its option, or none if the option isn't in the words
abbrev pub SaysStock : ArgMatches → PlainOptions → Type 0
SaysStock matches options = option_map (λ s. s.now) options.stock ≡ first_value (found_of matches) (codes "stock")

-- the name of the kept file is the text of its option, or none if the option isn't in the words
abbrev pub SaysKept : ArgMatches → PlainOptions → Type 0
SaysKept matches options = option_map (λ s. s.now) options.kept ≡ first_value (found_of matches) (codes "kept")

-- The meaning of the exit status for a script or a history that was read to its end. If it is known which bytes the reader had,
-- they are its text. If the status is 0, all policies are kept on the graph that it leaves. It is 3 exactly if lines of the script
-- fail the policies.
pub record IsVerdict (options : PlainOptions) (matches : ArgMatches) (remaining : Option (List ℕ)) (status : ℕ) : Type 0 where
  pub outcome : Outcome
  pub left : IfSome remaining (λ bytes. IsLeftBy options bytes outcome)
  pub supposed : Supposed
  pub is_supposed : IsSupposed matches supposed
  pub kept : status ≡ 0 → AreKept matches supposed outcome.picture
  pub denied : (status ≡ 3) ↔ FailsPolicies matches outcome.refused.items

-- The verdict is about what the words give to read: the text that a kept file says, if the words name a kept file, or else what a
-- reader has.
pub record IsVerdictOnGiven {Reader : Type 0} (remaining : Reader → Option (List ℕ)) (matches : ArgMatches) (status : ℕ) : Type 0 where
  pub options : PlainOptions
  pub known : Option (List ℕ)
  pub stock : SaysStock matches options
  pub kept : SaysKept matches options
  pub given : IsGiven remaining options.kept known
  pub verdict : IsVerdict options matches known status
